use Rattle.std.proofs.Common.{◌≡◌, ◌∙◌, Ok, Err, Result, Bool, IsTrue, IfErr, refl}
use Rattle.sqlite.specs.{Held.{Held}, State.{State}}
use Rattle.table_access.specs.{declared.StoreFault.{StoreFault}, declared.StoreFault.TheVariants.{Memory, Store}}
use Rattle.broker_database.{specs.Transaction.{EndsFor, Finishes, called, conclusion, returned}, proofs.Transaction.{Survives-weaker}}
use Rattle.broker_database.proofs.ending.conclude.Goals as goal

-- the result of a work is reported unchanged
returned_called : {A : Type 0} (r : Result A StoreFault) → returned (called r) ≡ r
returned_called (Ok a) = refl
returned_called (Err fault) = refl

-- a refused COMMIT is reported as Store, for any result of the work
store_at_worst : {A : Type 0} (r : Result A StoreFault) → Err Store ≡ conclusion r (Err Store)
store_at_worst (Ok a) = refl
store_at_worst (Err Memory) = refl
store_at_worst (Err Store) = refl

-- a failed call is that of a work that failed, or nothing was to be kept
called_ends : {X A : Type 0} (shown : Held X → State) (keeps : Bool) (worked r : Result A StoreFault) (old new : Held X) → (IsTrue keeps → r ≡ worked) → IfErr (called r) (EndsFor shown keeps worked old new)
called_ends shown keeps worked (Ok a) old new same = tt
called_ends shown keeps worked (Err fault) old new same = λ kept ok. let clash = same kept ∙ refl in absurd (cc)

pub returns-in-Err-clause-concludes : goal.returns-in-Err-clause-concludes
returns-in-Err-clause-concludes g c =
    let ends : Finishes _ _ c.args.keeps (Err Store) = record {
      committed = λ _ _. tt;
      over = λ clean undone. let it = c.in-Err.ensures.refused clean in (it.0, it.1);
      returned = λ _ unkept. absurd (cc);
      unsure = λ _. refl;
      live = λ _. c.commit.ensures.live;
      settled = λ trees now may. g.met.S.Store.settled _ trees now may;
      survives = Survives-weaker _ _ (λ trees is. (c.if-not-keeps.false, is)) c.commit.ensures.survives;
    } in
    record { ended = Err Store; ends = ends; answer = store_at_worst c.args.worked }

pub returns-in-Err-clause-refused : goal.returns-in-Err-clause-refused
returns-in-Err-clause-refused g c clean = (c.if-not-keeps.false, (c.in-Err.ensures.refused clean).2)
