-- Why a database isn't opened or migrated: the store failed, or the table meta is such that no format is found.
use Rattle.std.specs.Prelude.{if◌then◌else◌}
use Rattle.std.proofs.Common.{◌≡◌, ◌⊎◌, inl, inr, ℕ, Option, Some, None, Result, Ok, Err, IfErr, Bool, true, false, ◌==◌, arith, refl, subst, ◌∙◌}
use Rattle.std.proofs.lemmas.Result.{IfErr-weaker}
use Rattle.sqlite.specs.{Effect.{Database}, State.{State, HasCleanDisk}}
use Rattle.table_access.specs.{Calls.{HasFailed}, Unit.{FailsToBegin}, declared.StoreFault.{StoreFault}, declared.StoreFault.TheVariants.{Memory, Store}}
use Rattle.registry_tables.specs.Format.{FailsToFind, HasNoFormat, SharesTree}
use Rattle.broker_database.specs.{Opening.{IsFresh, ReportsNothing, judgement, open_fault}, declared.opening.OpenFault.{OpenFault}}
use Rattle.broker_database.proofs.{Transaction.{WholeTransaction, Begins-transaction}, StoreFailures.{HasFailed-of_transaction}}
use Rattle.broker_database.specs.declared.opening.OpenFault.TheVariants as returned

-- BEGIN was refused: the store failed, as no transaction was open
pub HasFailed-unbegun : (old new : State) (fault : StoreFault) → IsFresh old → FailsToBegin old new fault → fault ≡ Store → HasFailed old new Store
HasFailed-unbegun old new fault fresh why is = elim why.1 [
  | inl failed ↦ subst (HasFailed old new) is failed
  | inr inside ↦ absurd (let outside = fresh.0 in let is_open = inside.0 in cc)
]

module _ {A : Type 0} (old mid done new : State) (X Keeps : A → Type 0) (result : Result A StoreFault) (t : WholeTransaction old mid done new X Keeps result) (clean : HasCleanDisk new) (fresh : IsFresh old) where
  -- a transaction that looks for a format: as the look-up fails, or since Why, by which something is to be kept too
  pub ReportsNothing-of_look_up : (Why : Database → Type 0) → (HasCleanDisk done → mid.step_limit ≡ None → IfErr t.worked (λ fault. FailsToFind mid done fault ⊎ Why mid.now)) → ((a : A) → X a → Keeps a → Why mid.now)
      → result ≡ Err Store → ReportsNothing old new ⊎ Why old.now
  ReportsNothing-of_look_up Why looks kept is =
      let begun = Begins-transaction old mid done new X Keeps result t clean in
      let worked : HasCleanDisk done = omega (arith, t.concludes.ends.survives.clean, clean) in
      let same : mid.now ≡ old.now = begun.1.now_is in
      elim (HasFailed-of_transaction old mid done new X Keeps ((HasNoFormat old.now ⊎ SharesTree old.now) ⊎ Why old.now) clean result t
      (IfErr-weaker t.worked _ _ (λ fault why store. elim why [
        | inl found ↦ elim found [ inl failed ↦ inl failed | inr silent ↦ inr (inl (subst (λ db. HasNoFormat db ⊎ SharesTree db) same silent.1)) ]
        | inr other ↦ inr (inr (subst Why same other))
      ]) (looks worked (t.begins.limit ∙ fresh.1)))
      (λ a it keeps _ _. inr (inr (subst Why same (kept a it keeps)))) is) [
        | inl failed ↦ inl (inl failed)
        | inr why ↦ elim why [ inl silent ↦ inl (inr silent) | inr other ↦ inr other ]
      ]

-- ---- the fault that is reported

-- a judgement isn't a failure
pub judgement-not_store : (wanted : ℕ) (found : Option ℕ) → ¬ (judgement wanted found ≡ Err returned.Store)
judgement-not_store wanted None is = cc
judgement-not_store wanted (Some n) is = go (n == wanted) is
  where
    go : (b : Bool) → ¬ (◌≡◌ {A = Result (Unit {0}) OpenFault} (if b then Ok tt else Err (returned.Format n)) (Err returned.Store))
    go true is = cc
    go false is = cc

-- Store is reported only for Store
pub open_fault-store : (fault : StoreFault) → ◌≡◌ {A = Result (Unit {0}) OpenFault} (Err (open_fault fault)) (Err returned.Store) → fault ≡ Store
open_fault-store Memory is = absurd (cc)
open_fault-store Store is = refl
