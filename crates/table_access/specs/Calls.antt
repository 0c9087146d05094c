-- What a call on the tables leaves of a connection.
use Rattle.std.specs.Prelude.{◌≡◌, ◌⊎◌, ℕ, Bool, true, false, IsTrue, ⊤, List, Result, Err, IfOk, IfErr, OnOk}
use Rattle.sqlite.specs.declared.error.ErrorCode.TheVariants as code
use Rattle.sqlite.specs.declared.error.Error.{Error}
use Rattle.sqlite.specs.declared.error.Error.TheVariants.{SqliteFailure}
use Rattle.sqlite.specs.Order.{Row}
use Rattle.sqlite.specs.Held.{Held, state}
use Rattle.sqlite.specs.State.{State, HasCleanDisk, Survives, HasCause, Executes, store_error}
use Rattle.sqlite_trees.specs.declared.error.StoreError.{StoreError}
use Rattle.sqlite_trees.specs.declared.store.Store.{Ghosts}
use Rattle.sqlite_trees.specs.View.{Tells}
use Rattle.table_access.specs.declared.StoreFault.{StoreFault}
use Rattle.table_access.specs.declared.StoreFault.TheVariants.{Memory, Store}

-- the fault that a caller sees of an error of the database
abbrev pub fault_of : Error → StoreFault
fault_of (SqliteFailure code.OutOfMemory) = Memory
fault_of _ = Store

-- the statement was refused, and the fault is that of its error
abbrev pub FailsToRun : List ℕ → Row → State → State → StoreFault → Type 0
FailsToRun sql params old new fault = (e : Error) × (fault ≡ fault_of e) × Executes sql params old new (Err e)

-- nothing is committed
pub record KeepsLastCommit (old new : State) : Type 0 where
  pub was_open : IsTrue new.is_open → IsTrue old.is_open
  pub committed : IsTrue new.is_open → new.committed ≡ old.committed

-- the transaction is still open
abbrev pub GoesOn : State → State → Type 0
GoesOn old new = IsTrue new.in_transaction × (IsTrue old.is_open → IsTrue new.is_open)

-- The store failed, which ended the transaction, and the fault is that of its cause: after a fault of the disk there is
-- one more of them, and after a connection that was shut, it was shut before. If memory ran out, nothing is seen of it.
-- TooBig is what is so if a row was too big to be stored.
pub record EndsBy (TooBig : Type 0) (old new : State) (fault : StoreFault) : Type 0 where
  pub cause : StoreError
  pub fault_is : fault ≡ fault_of (store_error cause)
  pub has : HasCause old new TooBig cause
  pub over : new.in_transaction ≡ false
  pub blamed : Tells new.blamed cause

-- of any call: a row may have been too big
abbrev pub IsEnded : State → State → StoreFault → Type 0
IsEnded = EndsBy ⊤

-- of a query, which stores none: Store is a fault of the disk or a connection that was shut
abbrev pub HasFailed : State → State → StoreFault → Type 0
HasFailed = EndsBy ⊥

-- A statement was refused, a row broke the rules or an allocation failed, and the transaction is still open; or
-- the store failed.
abbrev pub FailsAs : State → State → StoreFault → Type 0
FailsAs old new fault = GoesOn old new ⊎ IsEnded old new fault

-- a call returns Memory only if the store had none, which ended the transaction
abbrev pub ReportsMemory : {A : Type 0} → State → State → Result A StoreFault → Type 0
ReportsMemory old new r = HasCleanDisk new → IsTrue old.in_transaction → r ≡ Err Memory → IsEnded old new Memory

-- so it is of a call that takes no memory of its own; of one that may, nothing is said
abbrev pub ReportsMemoryUnless : {A : Type 0} → Bool → State → State → Result A StoreFault → Type 0
ReportsMemoryUnless true old new r = ⊤
ReportsMemoryUnless false old new r = ReportsMemory old new r

-- P of the answer, in a transaction that goes on, or a failure. Nothing is committed, and a crash leaves what
-- it left before. `takes` is true if the call may take memory of its own.
pub record CallsBetween {A : Type 0} (takes : Bool) (old new : State) (r : Result A StoreFault) (P : A → Type 0)
    : Type 0 where
  pub ok : HasCleanDisk new → IfOk r P
  pub goes_on : HasCleanDisk new → IsTrue old.in_transaction → OnOk r (GoesOn old new)
  pub fails : HasCleanDisk new → IsTrue old.in_transaction → IfErr r (FailsAs old new)
  pub commits : HasCleanDisk new → IsTrue old.in_transaction → KeepsLastCommit old new
  pub survives : Survives old new (λ _. old.in_transaction ≡ false)
  -- if it takes none, only the store may be out of memory
  pub memory : ReportsMemoryUnless takes old new r

-- any call, also one that takes memory of its own
abbrev pub CallsTablesBetween : {A : Type 0} → State → State → Result A StoreFault → (A → Type 0) → Type 0
CallsTablesBetween = CallsBetween true

-- a call that takes no memory of its own, as a statement, or several
abbrev pub CallsStoreBetween : {A : Type 0} → State → State → Result A StoreFault → (A → Type 0) → Type 0
CallsStoreBetween = CallsBetween false

-- ---- the same of a connection over this store; P speaks of what it showed before, and of what it shows now

module _ {X A : Type 0} (store : Ghosts X) (old new : Held X) (r : Result A StoreFault)
    (P : A → State → State → Type 0) where
  abbrev pub CallsTables : Type 0
  CallsTables =
      CallsTablesBetween (state store old) (state store new) r (λ a. P a (state store old) (state store new))

  abbrev pub CallsStore : Type 0
  CallsStore =
      CallsStoreBetween (state store old) (state store new) r (λ a. P a (state store old) (state store new))
