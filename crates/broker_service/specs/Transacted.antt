-- For private clauses: what the transaction of a command leaves, before its failure is an answer.
use Rattle.std.specs.Prelude.{◌≡◌, ◌≢◌, ◌⊎◌, Option, Result, Err}
use Rattle.sqlite.specs.Held.{Held}
use Rattle.sqlite.specs.State.{State, HasCleanDisk}
use Rattle.table_access.specs.Calls.{HasFailed}
use Rattle.table_access.specs.declared.StoreFault.{StoreFault}
use Rattle.table_access.specs.declared.StoreFault.TheVariants as faults
use Rattle.broker_core.specs.Laws.{IsDone}
use Rattle.broker_core.specs.SoundNames.{AreNames}
use Rattle.broker_core.specs.State.{State as Broker}
use Rattle.broker_core.specs.Text.{Text}
use Rattle.broker_core.specs.declared.answer.Answer.{Answer}
use Rattle.broker_core.specs.declared.answer.Answer.TheVariants.{Memory, Store, Stopped}
use Rattle.broker_core.specs.declared.command.Command.{Command}
use Rattle.broker_database.specs.Causes.{CommitLacksMemory, HoldsReadable, IsToBeDone, KeepsRoom}
use Rattle.broker_database.specs.Ends.{HoldsNext, Steps, KeepsAtPattern, IsUnchangedUnless, CommitsAtMostOnce, LeavesNoTransaction}
use Rattle.broker_database.specs.Stored.{Stores, HoldsState}
use Rattle.broker_database.specs.Transaction.{EndsOrFails, returned}
use Rattle.broker_database.specs.declared.ending.Failure.{Failure}
use Rattle.broker_database.specs.declared.ending.Failure.TheVariants.{Call, Commit}
use Rattle.broker_tables.specs.Room.{HasRoomFor, enough}

-- an answer that a command may have inside its transaction: only the broker itself answers a failure, or Stopped
abbrev pub IsNoFailure : Answer → Type 0
IsNoFailure answer = (answer ≢ Memory) × (answer ≢ Store) × (answer ≢ Stopped)

-- a step, or a refused pattern; or, without memory, the same; or the database failed, as of `Applies`
abbrev pub AppliesOrFails : Broker → Option Text → Command → State → Result Answer StoreFault → Type 0
AppliesOrFails s token command new =
    EndsOrFails (λ db. Stores db s) (HoldsNext s token command)
    (λ answer. Steps s token command new answer ⊎ KeepsAtPattern s token command new answer) new

-- the answer to a command that failed by this
abbrev pub failed_as : StoreFault → Answer
failed_as faults.Memory = Memory
failed_as faults.Store = Store

-- a call of a command that was to be done failed; and if each table has numbers for its rows, since the store failed
abbrev pub FailsInside : Broker → Option Text → Command → State → State → Type 0
FailsInside s token command old new =
    IsToBeDone s token command × (HasRoomFor enough old.now → HasFailed old new faults.Store)

-- its COMMIT was refused by this fault, since memory ran out
abbrev pub FailsAtCommit : {X : Type 0} → (Held X → State) → Broker → Option Text → Command → Held X → Held X → StoreFault
    → Type 0
FailsAtCommit shown s token command old new why =
    (why ≡ faults.Memory) × IsToBeDone s token command × CommitLacksMemory shown s token command old new

-- What it leaves, and its result. Shown is what a connection shows.
pub record Transacted {X : Type 0} (shown : Held X → State) (token : Option Text) (command : Command) (old new : Held X)
    (result : Result Answer Failure) : Type 0 where
  pub ends : HasCleanDisk (shown new) → (s : Broker) → HoldsState s (shown old)
      → AppliesOrFails s token command (shown new) (returned result)
  pub unchanged : HasCleanDisk (shown new) → IsUnchangedUnless IsDone (shown old) (shown new) (returned result)
  -- a call failed by Store: the store failed, or the tables have no numbers left for what was to be done
  pub failure : HasCleanDisk (shown new) → AreNames command → (s : Broker) → HoldsReadable s (shown old)
      → result ≡ Err (Call faults.Store)
      → HasFailed (shown old) (shown new) faults.Store ⊎ FailsInside s token command (shown old) (shown new)
  -- COMMIT was refused by this: the store failed, or what was to be done was done, and there was no memory for COMMIT
  pub refused : HasCleanDisk (shown new) → (s : Broker) → HoldsReadable s (shown old)
      → (why : StoreFault) → result ≡ Err (Commit why)
      → HasFailed (shown old) (shown new) faults.Store ⊎ FailsAtCommit shown s token command old new why
  pub room : HasCleanDisk (shown new) → (s : Broker) → HoldsState s (shown old) → KeepsRoom (shown old) (shown new)
  pub over : LeavesNoTransaction (shown old) (shown new)
  pub survives : CommitsAtMostOnce (shown old) (shown new)
