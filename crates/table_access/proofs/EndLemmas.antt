-- How a transaction ends.
use Rattle.std.proofs.Common.{◌≡◌, inl, inr, IsTrue, Result, sym, subst, ◌∙◌, arith, ap}
use Rattle.sqlite.specs.{Tree.{Trees}, Effect.{Database, IsDatabase}, State.{State, HasCleanDisk, Survives, Commits, IsLive}}
use Rattle.table_access.specs.{Unit.{Begins}, declared.StoreFault.{StoreFault}, Calls.{CallsTablesBetween, KeepsLastCommit}}
use Rattle.table_access.specs.Durability.{HoldsDurably, IsOnDisk, HoldsEither}

IsOnDisk-of_trees : (P : Database → Type 0) (db : Database) (trees : Trees) → IsDatabase db → P db → trees ≡ db.trees → IsOnDisk P trees
IsOnDisk-of_trees P db trees sound has is = record {
  schema = db.schema;
  sound = subst (λ t. IsDatabase (record { schema = db.schema; trees = t })) (sym is) sound;
  has = subst (λ t. P (record { schema = db.schema; trees = t })) (sym is) has;
}

-- what was held is seen as the transaction begins
pub begins : (P : Database → Type 0) (old mid : State) → Begins old mid → HoldsDurably P old → P mid.now
begins P old mid begun keeps = let was = keeps.held begun.1.was_open in subst P (sym (begun.1.now_is ∙ was.same)) was.has

-- it is committed
pub commits : (Q : Database → Type 0) (done new : State) → Commits done new → IsLive done → ((db : Trees) → IsTrue new.is_open → new.may_leave db → db ≡ new.committed.trees) → Q done.now → HoldsDurably Q new
commits Q done new it live law has =
    let sound : IsDatabase new.committed = subst IsDatabase (sym it.0.committed_is) (live it.0.was_open).0 in
    let now : Q new.committed = subst Q (sym it.0.committed_is) has in
    record {
      held = λ _. record { autocommit = it.0.mode; same = it.0.now_is ∙ sym it.0.committed_is; sound = sound; has = now };
      left = λ trees may. IsOnDisk-of_trees Q new.committed trees sound now (law trees it.0.is_open may);
    }

module _ {A : Type 0} (P : Database → Type 0) (old mid done : State) (r : Result A StoreFault) (X : A → Type 0) (keeps : HoldsDurably P old) (begun : Begins old mid) (s : Survives old mid (λ _. ⊥)) (work : CallsTablesBetween mid done r X) (clean : HasCleanDisk done) where
  -- what a crash leaves KeepsLastCommit-before_end the end, it left KeepsLastCommit-before_end the transaction
  may_leave-IsOnDisk : (trees : Trees) → done.may_leave trees → IsOnDisk P trees
  may_leave-IsOnDisk trees may = elim (work.survives.crash clean trees may) [
    | inl mids ↦ elim (s.crash (omega (arith, work.survives.clean, clean)) trees mids) [ inl olds ↦ keeps.left trees olds | inr never ↦ absurd never ]
    | inr outside ↦ absurd (let inside = begun.1.mode in cc)
  ]

  -- nothing is committed in the transaction
  KeepsLastCommit-before_end : KeepsLastCommit mid done
  KeepsLastCommit-before_end = work.commits clean begun.1.mode

  -- the commit is HoldsEither-refused_commit
  pub HoldsEither-refused_commit : (new : State) (Q : Database → Type 0) → IsTrue done.is_open → IsLive done → ((db : Trees) → IsTrue new.is_open → new.may_leave db → db ≡ new.committed.trees) → KeepsLastCommit done new → HasCleanDisk new
      → Survives done new (λ db. db ≡ done.now.trees) → Q done.now → HoldsEither P Q new
  HoldsEither-refused_commit new Q is_open live law it now_clean t has =
      let same : IsTrue new.is_open → new.committed ≡ old.committed = λ now. it.committed now ∙ KeepsLastCommit-before_end.committed (it.was_open now) ∙ begun.1.committed_is in
      let was = keeps.held begun.1.was_open in
      record {
        committed = λ now. subst P (sym (same now)) was.has;
        left_open = λ now trees may. IsOnDisk-of_trees P old.committed trees was.sound was.has (law trees now may ∙ ap (λ (d : Database). d.trees) (same now));
        left = λ trees may. elim (t.crash now_clean trees may) [
          | inl dones ↦ inl (may_leave-IsOnDisk trees dones)
          | inr is ↦ inr (IsOnDisk-of_trees Q done.now trees (live is_open).0 has is)
        ];
      }

-- if P is held durably, the connection is as a HoldsEither-refused_commit commit from P to any Q leaves it
pub HoldsDurably-HoldsEither : (P Q : Database → Type 0) (c : State) → HoldsDurably P c → HoldsEither P Q c
HoldsDurably-HoldsEither P Q c keeps = record { committed = λ now. (keeps.held now).has; left_open = λ _. keeps.left; left = λ trees may. inl (keeps.left trees may) }
