-- a call on the database in a file that failed, and what is left of the file (this project's own choice)
use Rattle.std.specs.Prelude.{◌≡◌, ◌⊎◌, ⊤, Ok, Err}
use Rattle.sqlite_disk.specs.declared.Disk.{Ghosts}
use Rattle.sqlite_disk.specs.declared.Files.{Files}
use Rattle.sqlite.specs.Files.{FailsToClose, FailsToOpenFiles, IsCleanLeft, IsClosed, LeavesFiles, file_state, image_of}
use Rattle.sqlite.specs.WalFiles.{outcomes}
use Rattle.sqlite.specs.declared.error.Error.{Error}
use Rattle.sqlite.specs.declared.error.Error.TheVariants.{SqliteFailure}
use Rattle.sqlite.specs.declared.error.ErrorCode.TheVariants.{OutOfMemory}
use Rattle.sqlite.specs.declared.file.Leftover.{Leftover}
use Rattle.sqlite.specs.FileStore.{view}
use Rattle.sqlite.specs.Held.{Held}
use Rattle.sqlite.specs.Recovery.{Image}
use Rattle.sqlite.specs.State.{HasCleanDisk}
use Rattle.sqlite.specs.View.{IsClean}
use Rattle.sqlite.specs.declared.FileStore.{FileStore}
use Rattle.broker_core.specs.Text.{Text}
use Rattle.broker_database.specs.BrokerView.{BrokerView}
use Rattle.broker_database.specs.Calls.{Created, Migrated, Opened}
use Rattle.broker_database.specs.Life.{IsGivenBack}
use Rattle.broker_database.specs.declared.opening.OpenFault.{OpenFault}
use Rattle.command_facts.specs.Primitives.{broker_primitives}
use Rattle.broker_program.specs.Files.{GivesUpAs, LeavesStore, StartsFrom}
use Rattle.program_io.specs.declared.fault.RunFault.{RunFault}
use Rattle.program_io.specs.declared.fault.RunFault.TheVariants as run_fault
use Rattle.program_io.specs.Reported.{IsFromOutside}
use Rattle.broker_program.specs.declared.run_end.FileAfter.{FileAfter}
use Rattle.broker_program.specs.declared.run_end.FileAfter.TheVariants.{Unopened, Untaken}

-- the fault that reports an error of the files: Memory only if memory ran out
abbrev pub returned_of : Error → RunFault
returned_of (SqliteFailure OutOfMemory) = run_fault.Memory
returned_of _ = run_fault.File

-- a broker couldn't be made
abbrev pub IsOpeningFault : RunFault → Type 0
IsOpeningFault (run_fault.Open f) = ⊤
IsOpeningFault run_fault.Memory = ⊤
IsOpeningFault _ = ⊥

-- a broker's file couldn't be opened again, or not closed
abbrev pub IsReopeningFault : RunFault → Type 0
IsReopeningFault f = IsFromOutside f ⊎ IsOpeningFault f

module _ {D : Type 0} {g : Ghosts D} where
  -- The connection's files couldn't be closed, and the store is what is left of them.
  pub record IsNotClosed (conn : Held (FileStore D g)) (fault : RunFault) (store : FileStore D g) : Type 0 where
    pub closed : IsClosed conn store
    pub error : Error
    pub returned : fault ≡ returned_of error
    pub cause : IsClean (view store) → FailsToClose conn store error

  -- ---- the calls that fail, from a connection to what they leave of it

  -- no broker is opened: `judges` of `TablesFound` says of which database each fault is reported
  abbrev pub OpensNone : Held (FileStore D g) → Held (FileStore D g) → OpenFault → Type 0
  OpensNone old new fault = Opened file_state old (Err (record { fault = fault; connection = new }))

  -- For private clauses: no broker is opened on the connection, which was given up as that left it.
  abbrev pub GivesUpUnopened : Held (FileStore D g) → OpenFault → FileStore D g → Type 0
  GivesUpUnopened conn fault store = (end : Held (FileStore D g)) × OpensNone conn end fault × GivesUpAs end store

  -- none is made whose office has this token: `not_empty` and `refuses` of `TablesMade`
  abbrev pub MakesNone : Text → Held (FileStore D g) → Held (FileStore D g) → OpenFault → Type 0
  MakesNone office old new fault =
      Created file_state old (broker_primitives.digest_of office) (Err (record { fault = fault; connection = new }))

  -- nothing is migrated: `judges` of `Migrated`
  abbrev pub MigratesNone : Held (FileStore D g) → Held (FileStore D g) → OpenFault → Type 0
  MigratesNone old new fault = Migrated file_state old new (Err fault)

-- Held is what the log and the database file held at first.
module _ {D : Type 0} {g : Ghosts D} (held : Image) where
  -- The files were taken and not opened, and rest is what is left of them.
  pub record IsUnopened (fault : RunFault) (rest : Leftover D g) : Type 0 where
    pub files : Files D
    -- they held this, and a crash left nothing else
    pub seen : image_of g files ≡ held
    pub settled : (image : Image) → outcomes g files.log files.db image → image ≡ held
    -- why, and Memory is reported only if memory ran out
    pub error : Error
    pub returned : fault ≡ returned_of error
    pub cause : IsCleanLeft rest → FailsToOpenFiles files rest error
    -- a crash leaves what was there; if there was no database, perhaps a beginning of one
    pub left : IsCleanLeft rest → LeavesFiles files rest

  -- No connection is opened: the file isn't there or couldn't be taken, which only a call that asked for it says; or it
  -- isn't opened.
  abbrev pub FailsToConnect : RunFault → FileAfter D g → Type 0
  FailsToConnect fault (Untaken it) = IsFromOutside fault
  FailsToConnect fault (Unopened rest) = IsUnopened fault rest
  FailsToConnect fault _ = ⊥

  -- The database there was worked on so, from one connection to the other, and then the file couldn't be closed: it was
  -- given up, and the store is what is left of it.
  pub record IsUnclosed (Does : Held (FileStore D g) → Held (FileStore D g) → Type 0) (fault : RunFault)
      (store : FileStore D g) : Type 0 where
    pub connection : Held (FileStore D g)
    pub end : Held (FileStore D g)
    pub starts : StartsFrom held connection
    pub does : Does connection end
    pub clean : HasCleanDisk (file_state end)
    -- a crash leaves what it might have left before it was to be closed
    pub closed : IsClosed end store
    -- why, and Memory is reported only if memory ran out
    pub error : Error
    pub returned : fault ≡ returned_of error
    pub cause : FailsToClose end store error

  -- the same, if the disk is clean to the end
  abbrev pub EndsUnclosed : (Held (FileStore D g) → Held (FileStore D g) → Type 0) → RunFault → FileAfter D g → Type 0
  EndsUnclosed Does fault rest =
      IsFromOutside fault × LeavesStore (λ store. IsClean (view store) → IsUnclosed Does fault store) rest

  -- Such a call on the database there failed with this fault, and the store is what is left of its file.
  pub record FailsThere (Fails : Held (FileStore D g) → Held (FileStore D g) → OpenFault → Type 0) (fault : OpenFault)
      (store : FileStore D g) : Type 0 where
    pub connection : Held (FileStore D g)
    pub end : Held (FileStore D g)
    pub starts : StartsFrom held connection
    pub fails : Fails connection end fault
    -- the file was given up as the call left it
    pub clean : HasCleanDisk (file_state end)
    pub left : IsGivenBack g end store

  -- The fault is `open n`, and if the disk is clean to the end, such a call failed with it.
  abbrev pub IsOfDatabase : (Held (FileStore D g) → Held (FileStore D g) → OpenFault → Type 0) → RunFault → FileAfter D g
      → Type 0
  IsOfDatabase Fails (run_fault.Open fault) rest = LeavesStore (λ store. IsClean (view store) → FailsThere Fails fault store) rest
  IsOfDatabase Fails _ rest = ⊥

  -- The broker there was opened, and given up as it was: the store is what is left of its file.
  pub record IsLeftUnserved (store : FileStore D g) : Type 0 where
    pub connection : Held (FileStore D g)
    pub broker : BrokerView (FileStore D g)
    pub starts : StartsFrom held connection
    pub opened : Opened file_state connection (Ok broker)
    pub clean : HasCleanDisk (file_state broker.connection)
    pub left : IsGivenBack g broker.connection store
