-- why a broker that serves a file is stopped, if the disk works: a command was to be done (this project's own choice)
use Rattle.std.specs.Prelude.{◌≡◌, List, [], ◌∷◌, ◌++◌, IsTrue}
use Rattle.sqlite_disk.specs.Disk.{MoreFaults}
use Rattle.sqlite_disk.specs.declared.Disk.{Ghosts}
use Rattle.sqlite.specs.Files.{file_state}
use Rattle.sqlite.specs.Held.{Held}
use Rattle.sqlite.specs.Recovery.{Image}
use Rattle.sqlite.specs.declared.FileStore.{FileStore}
use Rattle.sqlite.specs.declared.file.Leftover.{Leftover}
use Rattle.broker_core.specs.Laws.{Exit, LeavesAll}
use Rattle.broker_core.specs.Laws.Exit.{WasCut}
use Rattle.broker_core.specs.Machine.{Request}
use Rattle.broker_core.specs.State.{State as Broker}
use Rattle.broker_tables.specs.Readable.{IsReadable}
use Rattle.command_facts.specs.Primitives.{broker_primitives}
use Rattle.broker_database.specs.Causes.{IsToBeDone}
use Rattle.broker_database.specs.Life.{IsKeptIn, LifeLeads}
use Rattle.broker_database.specs.Life.Kept.{OfToday}
use Rattle.program_io.specs.Entrance.{Visit}
use Rattle.broker_program.specs.Files.{EndsClean}
use Rattle.broker_program.specs.Life.{periods_of}
use Rattle.broker_program.specs.Serving.{ServesOver, StartsAfter, Work}

-- Of these commands of a broker, from this state on, the one that was answered `store` was to be done, in the state to
-- which those before it had led. A broker is stopped by no other answer, and after it each answer is `stopped`.
pub record StopsAtChange (first : Broker) (calls : List (Request × Exit)) : Type 0 where
  pub before : List (Request × Exit)
  pub request : Request
  pub after : List (Request × Exit)
  pub split : calls ≡ before ++ (request, WasCut) ∷ after
  pub state : Broker
  pub leads : LeavesAll broker_primitives first before state
  pub done : IsToBeDone state request.token request.command

-- so it is of the commands over one opening, from the state to which those over the openings before it led
abbrev pub StopsFrom : Broker → Work → List Work → Type 0
StopsFrom first work before =
    (state : Broker) × LifeLeads (OfToday first) (periods_of before) (OfToday state) × StopsAtChange state work.calls

abbrev pub MayStop : Broker → Work → List Work → Type 0
MayStop first work before = ∥ StopsFrom first work before ∥₁

-- and so of each of these openings
abbrev pub AllMayStop : Broker → List Work → Type 0
AllMayStop first [] = Unit {0}
AllMayStop first (work ∷ works) = MayStop first work works × AllMayStop first works

module _ {D : Type 0} (g : Ghosts D) where
  -- no call on the disk failed from the one connection to the other
  abbrev pub DiskWorks : Held (FileStore D g) → Held (FileStore D g) → Type 0
  DiskWorks first last = ¬ MoreFaults (file_state first).faults (file_state last).faults

  -- nor over these openings, each up to the stop of its broker
  abbrev pub DiskWorked : (held : Image) (works : List Work) (conn : Held (FileStore D g)) → StartsAfter held works conn
      → Type 0
  DiskWorked held [] conn it = Unit {0}
  DiskWorked held (work ∷ works) conn it = DiskWorks it.0 it.1.connection × DiskWorked held works it.0 it.2

  -- Over files that hold a state that can be read back, on a disk that works, brokers serve. Each that is stopped is so
  -- at a command that was to be done.
  abbrev pub StopsOnlyAtChanges : Type 0
  StopsOnlyAtChanges =
      (first : Broker) (held : Image) (visits : List Visit) (rest : Leftover D g) (it : ServesOver g held visits rest)
      → IsReadable first → IsKeptIn (OfToday first) held
      → EndsClean rest → DiskWorked held it.before it.connection it.starts → DiskWorks it.connection it.end.connection
      → AllMayStop first it.before × (IsTrue it.end.is_stopped → MayStop first it.last it.before)
