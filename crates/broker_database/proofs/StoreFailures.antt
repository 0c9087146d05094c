-- Why a transaction is answered Store: the store failed, or what the work fails by besides.
use Rattle.std.proofs.Common.{◌≡◌, ◌⊎◌, inl, inr, ◌≤◌, Bool, true, false, IsTrue, Result, Ok, Err, IfErr, refl, sym, ◌∙◌, arith}
use Rattle.sqlite.specs.State.{State, HasCleanDisk, HasCause, store_error}
use Rattle.sqlite_trees.specs.declared.error.StoreError.{StoreError}
use Rattle.sqlite_trees.specs.declared.error.StoreError.TheVariants.{OutOfMemory, Io, Corrupt, Full, Broken, Unstorable}
use Rattle.table_access.specs.{Calls.{HasFailed, GoesOn, FailsAs, fault_of}, Unit.{Begins, ReportsRollback}, declared.StoreFault.{StoreFault}}
use Rattle.table_access.{specs.declared.StoreFault.TheVariants.{Memory, Store}, proofs.{CallLemmas.{EndsBy-later_call}, RefusedEnds.{HasFailed-then_IsIdle}}}
use Rattle.broker_database.{specs.Transaction.{conclusion}, proofs.Transaction.{IsTransaction, WholeTransaction, IsTransaction-of_whole, Begins-transaction}}

-- if the store failed, but not for lack of memory, the disk failed or the connection was shut
pub HasFailed-disk_at_fault : (old new : State) → HasFailed old new Store → HasCause old new ⊥ Io ⊎ HasCause old new ⊥ Broken
HasFailed-disk_at_fault old new failed = by failed.cause failed.fault_is failed.has
  where
    by : (cause : StoreError) → Store ≡ fault_of (store_error cause) → HasCause old new ⊥ cause → HasCause old new ⊥ Io ⊎ HasCause old new ⊥ Broken
    by OutOfMemory is has = absurd (let clash : Store ≡ Memory = is in cc)
    by Io is has = inl has
    by Corrupt is has = inl has
    by Full is has = inl has
    by Broken is has = inr has
    by Unstorable is has = absurd has

module _ {A : Type 0} (old mid done new : State) (X Keeps : A → Type 0) (clean : HasCleanDisk new) where
  -- the failure of the work is that of the transaction
  HasFailed-of_rolled_back_work : (r : Result A StoreFault) (ended : Result (Unit {0}) StoreFault) → Begins old mid → IsTransaction old mid done new r X Keeps false ended → ReportsRollback done new ended → (f : StoreFault) → HasFailed mid done f → HasFailed old new f
  HasFailed-of_rolled_back_work r (Ok u) begun t (inl idle) f failed =
      HasFailed-then_IsIdle old done new f (EndsBy-later_call old mid done f (begun.1.mode, λ _. begun.1.is_open) t.begins.counts failed) t.ends.survives.counts idle
  HasFailed-of_rolled_back_work r (Ok u) begun t (inr back) f failed = absurd (let clash = failed.over in let inside = back.0 in cc)
  HasFailed-of_rolled_back_work r (Err e) begun t refused f failed = absurd (let clash = failed.over in let inside = refused.1.0 in cc)

  -- then nothing is kept
  HasFailed-within : (r : Result A StoreFault) (keeps : Bool) (ended : Result (Unit {0}) StoreFault) → IsTransaction old mid done new r X Keeps keeps ended
      → Begins old mid → HasCleanDisk done → (f : StoreFault) → HasFailed mid done f → HasFailed old new f
  HasFailed-within r false ended t begun worked f failed = HasFailed-of_rolled_back_work r ended begun t (t.ends.returned clean refl) f failed
  HasFailed-within (Ok a) true ended t begun worked f failed = absurd (let clash = failed.over in let inside = (t.works.goes_on worked begun.1.mode).0 in cc)
  HasFailed-within (Err e) true ended t begun worked f failed = absurd (t.kept.0 refl)

  pub HasFailed-of_work : (result : Result A StoreFault) → WholeTransaction old mid done new X Keeps result → (f : StoreFault) → HasFailed mid done f → HasFailed old new f
  HasFailed-of_work result t =
      let worked : HasCleanDisk done = omega (arith, t.concludes.ends.survives.clean, clean) in
      HasFailed-within t.worked t.keeps t.concludes.ended (IsTransaction-of_whole old mid done new X Keeps result t)
      (Begins-transaction old mid done new X Keeps result t clean) worked

module _ {A : Type 0} (old mid done new : State) (X Keeps : A → Type 0) (Why : Type 0) (clean : HasCleanDisk new) where
  -- what is to be kept isn't
  abbrev Unkept : Bool → Type 0
  Unkept keeps = (a : A) → X a → Keeps a → IsTrue keeps → GoesOn mid done → HasFailed old new Store ⊎ Why

  -- the failure of the end is that of the transaction
  HasFailed-of_end : (r : Result A StoreFault) (e : StoreFault) → Begins old mid → IsTransaction old mid done new r X Keeps false (Err e) → GoesOn mid done → ReportsRollback done new (Err e) → HasFailed old new e
  HasFailed-of_end r e begun t on refused =
      let up : old.faults ≤ done.faults = omega (arith, t.begins.counts, t.works.survives.counts) in
      EndsBy-later_call old done new e (refused.1.0, λ _. on.1 begun.1.is_open) up refused.2

  -- a transaction that goes on to a refused end
  GoesOn-of_failed_rollback : (e : StoreFault) → ReportsRollback done new (Err e) → (f : StoreFault) → FailsAs mid done f → GoesOn mid done
  GoesOn-of_failed_rollback e refused f (inl on) = on
  GoesOn-of_failed_rollback e refused f (inr ended) = absurd (let clash = ended.over in let inside = refused.1.0 in cc)

  fails : (r : Result A StoreFault) (keeps : Bool) (ended : Result (Unit {0}) StoreFault) → IsTransaction old mid done new r X Keeps keeps ended → Begins old mid → HasCleanDisk done → IfErr r (λ f. f ≡ Store → HasFailed mid done f ⊎ Why) → Unkept keeps
      → conclusion r ended ≡ Err Store → HasFailed old new Store ⊎ Why
  fails (Ok a) keeps (Ok u) t begun worked why kept is = absurd (cc)
  fails (Ok a) true (Err e) t begun worked why kept is = kept a (t.works.ok worked) (t.kept.0 refl) refl (t.works.goes_on worked begun.1.mode)
  fails (Ok a) false (Err Memory) t begun worked why kept is = absurd (cc)
  fails (Ok a) false (Err Store) t begun worked why kept is = inl (HasFailed-of_end (Ok a) Store begun t (t.works.goes_on worked begun.1.mode) (t.ends.returned clean refl))
  fails (Err f) true ended t begun worked why kept is = absurd (t.kept.0 refl)
  fails (Err Memory) false (Ok u) t begun worked why kept is = absurd (cc)
  fails (Err Memory) false (Err Memory) t begun worked why kept is = absurd (cc)
  fails (Err Memory) false (Err Store) t begun worked why kept is =
      let refused = t.ends.returned clean refl in
      inl (HasFailed-of_end (Err Memory) Store begun t (GoesOn-of_failed_rollback Store refused Memory (t.works.fails worked begun.1.mode)) refused)
  fails (Err Store) false ended t begun worked why kept is = elim (why refl) [
    | inl failed ↦ inl (HasFailed-of_rolled_back_work old mid done new X Keeps clean (Err Store) ended begun t (t.ends.returned clean refl) Store failed)
    | inr may ↦ inr may
  ]

  -- a transaction is answered Store as its work, its begin or its end is, or since what is to be kept isn't
  pub HasFailed-of_transaction : (result : Result A StoreFault) (t : WholeTransaction old mid done new X Keeps result) → IfErr t.worked (λ f. f ≡ Store → HasFailed mid done f ⊎ Why) → Unkept t.keeps → result ≡ Err Store → HasFailed old new Store ⊎ Why
  HasFailed-of_transaction result t why kept is =
      let worked : HasCleanDisk done = omega (arith, t.concludes.ends.survives.clean, clean) in
      fails t.worked t.keeps t.concludes.ended (IsTransaction-of_whole old mid done new X Keeps result t) (Begins-transaction old mid done new X Keeps result t clean) worked why kept (sym t.concludes.answer ∙ is)
