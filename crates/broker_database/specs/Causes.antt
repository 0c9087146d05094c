-- why a command is answered Store (this project's own)
use Rattle.std.specs.Prelude.{◌≡◌, ◌⊎◌, IsTrue, Option, None}
use Rattle.sqlite.specs.Held.{Held}
use Rattle.sqlite.specs.State.{State, Survives}
use Rattle.table_access.specs.Calls.{HasFailed}
use Rattle.table_access.specs.Unit.{RefusesCommit}
use Rattle.table_access.specs.declared.StoreFault.TheVariants as faults
use Rattle.broker_core.specs.Change.{Transition}
use Rattle.broker_core.specs.Laws.{IsDone}
use Rattle.broker_core.specs.Machine.{Step}
use Rattle.broker_core.specs.State.{State as Broker}
use Rattle.broker_core.specs.Text.{Text}
use Rattle.broker_core.specs.declared.command.Command.{Command}
use Rattle.broker_tables.specs.Readable.{IsReadable}
use Rattle.broker_tables.specs.Room.{HasRoomFor, TakesRoom, enough}
use Rattle.command_facts.specs.Primitives.{broker_primitives}
use Rattle.broker_database.specs.Ends.{HoldsNext}
use Rattle.broker_database.specs.Stored.{Stores, HoldsState}

-- the machine's step of the command from this state is Done
abbrev pub IsToBeDone : Broker → Option Text → Command → Type 0
IsToBeDone s token command = (out : Transition) × IsDone out.answer × Step broker_primitives s token command out

-- The connection holds this state, which can be read back, and no query has a limit of steps. From the opening state,
-- commands whose names are names lead only to states that can be read back (the law `readable_stays`).
pub record HoldsReadable (s : Broker) (c : State) : Type 0 where
  pub held : HoldsState s c
  pub readable : IsReadable s
  pub unlimited : c.step_limit ≡ None

-- A command from this state was done in a transaction that was begun on the old connection, in which nothing was
-- committed, and COMMIT was refused since memory ran out: the last commit was of that state, and its next state was
-- seen. Shown is what a connection shows.
pub record CommitLacksMemory {X : Type 0} (shown : Held X → State) (s : Broker) (token : Option Text) (command : Command)
    (old new : Held X) : Type 0 where
  pub worked : Held X
  pub inside : IsTrue (shown worked).in_transaction
  pub survives : Survives (shown old) (shown worked) (λ _. ⊥)
  pub last : Stores (shown worked).committed s
  pub next : HoldsNext s token command (shown worked).now
  pub refused : RefusesCommit shown worked new faults.Memory

-- a command that was to be done isn't; and if each table has numbers for the rows that a command adds, since the store
-- failed, or had no memory for COMMIT
abbrev pub IsNotKept : {X : Type 0} → (Held X → State) → Broker → Option Text → Command → Held X → Held X → Type 0
IsNotKept shown s token command old new =
    IsToBeDone s token command
    × (HasRoomFor enough (shown old).now
    → HasFailed (shown old) (shown new) faults.Store ⊎ CommitLacksMemory shown s token command old new)

-- a step of the command leads from a state that can be read back to one that can
abbrev pub StaysReadable : Option Text → Command → Type 0
StaysReadable token command =
    (s : Broker) (out : Transition) → IsReadable s → Step broker_primitives s token command out → IsReadable out.state

-- while the connection is open, each table has numbers for at least as many rows more as before, but for those of a
-- command
abbrev pub KeepsRoom : State → State → Type 0
KeepsRoom old new = IsTrue new.is_open → TakesRoom enough old.now new.now
