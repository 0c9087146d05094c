-- what a command leaves of the broker's connection
use Rattle.std.specs.Prelude.{◌≡◌, ◌⊎◌, true, false, IsTrue, Option, Result, Ok, Err}
use Rattle.sqlite.specs.Tree.{Trees}
use Rattle.sqlite.specs.Effect.{Database}
use Rattle.sqlite.specs.State.{State, HasCleanDisk, Survives}
use Rattle.table_access.specs.declared.StoreFault.{StoreFault}
use Rattle.table_access.specs.declared.StoreFault.TheVariants as fault
use Rattle.table_access.specs.Calls.{KeepsLastCommit}
use Rattle.table_access.specs.Durability.{HoldsEither}
use Rattle.table_access.specs.Unit.{IsOver}
use Rattle.broker_core.specs.Text.{Text}
use Rattle.broker_core.specs.State.{State as Broker}
use Rattle.broker_core.specs.Machine.{Step, is_step}
use Rattle.broker_core.specs.Laws.{TeamsDiffer}
use Rattle.broker_core.specs.declared.command.Command.{Command}
use Rattle.broker_core.specs.declared.answer.Answer.{Answer}
use Rattle.broker_core.specs.declared.answer.Answer.TheVariants.{Pattern, Memory, Store}
use Rattle.command_facts.specs.Primitives.{broker_primitives}
use Rattle.command_facts.specs.Patterns.{AsksPattern}
use Rattle.broker_database.specs.Stored.{Stores, HoldsState}

-- what a crash leaves, it left before
abbrev pub AddsNoCrashState : State → State → Type 0
AddsNoCrashState old new = (trees : Trees) → new.may_leave trees → old.may_leave trees

-- What the store promises of a call, if the disk is clean afterwards: what a crash may leave then it could leave before,
-- or it is one more database. If the program is stopped in the call, it leaves no more than that.
abbrev pub CommitsAtMostOnce : State → State → Type 0
CommitsAtMostOnce old new = (commit : Trees) × Survives old new (λ trees. trees ≡ commit)

-- no transaction is open afterwards if none was before
abbrev pub LeavesNoTransaction : State → State → Type 0
LeavesNoTransaction old new = HasCleanDisk new → IsOver old → IsOver new

-- The database is as it was: what was last committed still is, a crash leaves nothing that it didn't leave before,
-- and no transaction is open if none was.
pub record IsAsBefore (old new : State) : Type 0 where
  pub commit : KeepsLastCommit old new
  pub left : AddsNoCrashState old new
  pub ended : old.in_transaction ≡ false → old.now ≡ old.committed → IsTrue new.is_open
      → (new.in_transaction ≡ false) × (new.now ≡ new.committed)

module _ (s : Broker) (token : Option Text) (command : Command) where
  -- the database holds a state that the command leads to
  abbrev pub HoldsNext : Database → Type 0
  HoldsNext db =
      (answer : Answer) × (t : Broker)
      × Step broker_primitives s token command (record { answer = answer; state = t }) × Stores db t

  -- the answer is that of a step of the machine, from a state in which no two teams have tokens with one digest, and
  -- the connection keeps the next state: it holds it, and a crash leaves it
  pub record Steps (new : State) (answer : Answer) : Type 0 where
    pub next : Broker
    pub step : Step broker_primitives s token command (record { answer = answer; state = next })
    pub is_machines : is_step answer ≡ true
    pub teams_differ : TeamsDiffer s
    pub keeps : HoldsState next new

  -- no step: a pattern of the pact with which replies were to be compared was refused, and the state is kept
  abbrev pub KeepsAtPattern : State → Answer → Type 0
  KeepsAtPattern new answer = (answer ≡ Pattern) × AsksPattern s token command × HoldsState s new

  -- A step; or a pattern was refused, or there was no memory, and the state is kept; or the database failed, and a
  -- crash may leave the state or the next one.
  abbrev pub Applies : State → Answer → Type 0
  Applies new answer =
      Steps new answer
      ⊎ (KeepsAtPattern new answer
      ⊎ (((answer ≡ Memory) × HoldsState s new)
      ⊎ ((answer ≡ Store) × HoldsEither (λ db. Stores db s) HoldsNext new)))

-- For private clauses: of any database, only an answer by which something is kept and a failure of the database
-- leave it otherwise than it was, and after that failure the last commit is the old one while the connection is open.
abbrev pub IsUnchangedUnless : {A : Type 0} → (A → Type 0) → State → State → Result A StoreFault → Type 0
IsUnchangedUnless Keeps old new (Ok a) = ¬ (Keeps a) → IsAsBefore old new
IsUnchangedUnless Keeps old new (Err fault.Memory) = IsAsBefore old new
IsUnchangedUnless Keeps old new (Err fault.Store) = KeepsLastCommit old new
