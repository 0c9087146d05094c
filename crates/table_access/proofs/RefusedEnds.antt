-- Why BEGIN, COMMIT and ROLLBACK are refused: the store failed, or they are out of place.
use Rattle.std.proofs.Common.{◌≡◌, ◌≤◌, inl, inr, [], codes, false, IsTrue, Err, refl, ap, sym, subst, arith}
use Rattle.sqlite.specs.{Command.TheVariants.{Begin, Commit, Rollback}, declared.error.Error.{Error}}
use Rattle.sqlite.specs.State.{State, Executes, HasCause, IsMisplaced, IsUnchanged, Fails}
use Rattle.sqlite_trees.specs.{declared.error.StoreError.{StoreError}, declared.error.StoreError.TheVariants.{OutOfMemory, Broken, Unstorable}, View.{Tells}}
use Rattle.table_access.specs.{Calls.{HasFailed, fault_of}, Unit.{FailsToBegin, FailsToCommit, FailsToRollBack, IsIdle}, declared.StoreFault.{StoreFault}}
use Rattle.table_access.{specs.declared.StoreFault.TheVariants.{Store}, proofs.Texts.{codes-begin, codes-commit, codes-rollback}}
use Rattle.table_access.proofs.Refused.{Executes-change_fails, Fails-weaken}

module _ (old new : State) where
  -- the store failed, which ended the transaction
  Fails-HasFailed : (e : Error) → Fails old new ⊥ e → HasFailed old new (fault_of e)
  Fails-HasFailed e it = record { cause = it.0; fault_is = ap fault_of it.1; has = it.2; over = it.3.autocommit; blamed = it.4 }

  -- BEGIN is out of place within a transaction
  abbrev IsWithin : Error → Type 0
  IsWithin e = IsTrue old.in_transaction × IsUnchanged old new × (fault_of e ≡ Store)

  IsMisplaced-begin : (e : Error) → IsMisplaced old Begin e → IsUnchanged old new → IsWithin e
  IsMisplaced-begin e (inl (is, inl begins)) same = (begins.1, same, ap fault_of is)
  IsMisplaced-begin e (inl (is, inr (inl commits, outside))) same = absurd (let k = commits in cc)
  IsMisplaced-begin e (inl (is, inr (inr rolls, outside))) same = absurd (let k = rolls in cc)
  IsMisplaced-begin e (inr (is, name, inl releases, none)) same = absurd (let k = releases in cc)
  IsMisplaced-begin e (inr (is, name, inr back, none)) same = absurd (let k = back in cc)

  pub Executes-begin_fails : (e : Error) → Executes (codes "BEGIN") [] old new (Err e) → FailsToBegin old new (fault_of e)
  Executes-begin_fails e h = (
    (e, refl, h),
    elim (Executes-change_fails (codes "BEGIN") [] old new Begin IsWithin (codes-begin old.now.schema).0 (codes-begin old.now.schema).1 refl refl IsMisplaced-begin (λ e writes does. absurd writes) e h) [
      | inl fails ↦ inl (Fails-HasFailed e (Fails-weaken old new e (λ big. let never = big in cc) fails))
      | inr within ↦ inr within
    ],
  )

  IsMisplaced-commit : (e : Error) → IsMisplaced old Commit e → old.in_transaction ≡ false
  IsMisplaced-commit e (inl (is, inl begins)) = absurd (let k = begins.0 in cc)
  IsMisplaced-commit e (inl (is, inr ends)) = ends.1
  IsMisplaced-commit e (inr (is, name, inl releases, none)) = absurd (let k = releases in cc)
  IsMisplaced-commit e (inr (is, name, inr back, none)) = absurd (let k = back in cc)

  pub Executes-commit_fails : (e : Error) → Executes (codes "COMMIT") [] old new (Err e) → FailsToCommit old new (fault_of e)
  Executes-commit_fails e h = (
    (e, refl, h),
    elim (Executes-change_fails (codes "COMMIT") [] old new Commit (λ e. old.in_transaction ≡ false) (codes-commit old.now.schema).0 (codes-commit old.now.schema).1 refl refl (λ e is same. IsMisplaced-commit e is) (λ e writes does. absurd writes) e h) [
      | inl fails ↦ inl (Fails-HasFailed e (Fails-weaken old new e (λ big. let never = big in cc) fails))
      | inr outside ↦ inr outside
    ],
  )

  IsMisplaced-rollback : (e : Error) → IsMisplaced old Rollback e → old.in_transaction ≡ false
  IsMisplaced-rollback e (inl (is, inl begins)) = absurd (let k = begins.0 in cc)
  IsMisplaced-rollback e (inl (is, inr ends)) = ends.1
  IsMisplaced-rollback e (inr (is, name, inl releases, none)) = absurd (let k = releases in cc)
  IsMisplaced-rollback e (inr (is, name, inr back, none)) = absurd (let k = back in cc)

  pub Executes-rollback_fails : (e : Error) → Executes (codes "ROLLBACK") [] old new (Err e) → IsTrue old.in_transaction → FailsToRollBack old new (fault_of e)
  Executes-rollback_fails e h inside =
      elim (Executes-change_fails (codes "ROLLBACK") [] old new Rollback (λ e. old.in_transaction ≡ false) (codes-rollback old.now.schema).0 (codes-rollback old.now.schema).1 refl refl (λ e is same. IsMisplaced-rollback e is) (λ e writes does. absurd writes) e h) [
        | inl fails ↦ ((e, refl, h), (inside, fails.3), Fails-HasFailed e (Fails-weaken old new e (λ big. let never = big in cc) fails))
        | inr outside ↦ absurd (let clash = outside in cc)
      ]

-- ---- after a failure

-- a cause of an earlier call is one of both
HasCause-earlier_call : (a b c : State) (cause : StoreError) → b.faults ≤ c.faults → HasCause a b ⊥ cause → HasCause a c ⊥ cause
HasCause-earlier_call a b c OutOfMemory up h = tt
HasCause-earlier_call a b c Broken up h = h
HasCause-earlier_call a b c Unstorable up h = h
HasCause-earlier_call a b c _ up h = omega (arith, up, h)

-- a failure that ended the transaction is still one after a call that had nothing left to end
pub HasFailed-then_IsIdle : (a b c : State) (f : StoreFault) → HasFailed a b f → b.faults ≤ c.faults → IsIdle b c → HasFailed a c f
HasFailed-then_IsIdle a b c f failed up idle = record {
  cause = failed.cause;
  fault_is = failed.fault_is;
  has = HasCause-earlier_call a b c failed.cause up failed.has;
  over = idle.mode;
  blamed = subst (λ b. Tells b failed.cause) (sym idle.blamed_is) failed.blamed;
}
