-- a connection over a file, from what the file held to what is left of it (this project's own choice)
use Rattle.std.specs.Prelude.{◌≡◌, true, Ok}
use Rattle.sqlite_disk.specs.declared.Disk.{Ghosts}
use Rattle.sqlite_disk.specs.declared.Files.{Files}
use Rattle.sqlite.specs.FileStore.{files as store_files, is_shielded, view}
use Rattle.sqlite.specs.Files.{IsBlankAs, IsCleanLeft, IsOpened, file_state}
use Rattle.sqlite.specs.Held.{Held, IsNew}
use Rattle.sqlite.specs.Recovery.{Image}
use Rattle.sqlite.specs.Start.{FindsIn}
use Rattle.sqlite.specs.State.{HasCleanDisk}
use Rattle.sqlite.specs.View.{IsClean}
use Rattle.sqlite.specs.declared.FileStore.{FileStore}
use Rattle.sqlite.specs.declared.file.Leftover.{Leftover}
use Rattle.sqlite.specs.declared.file.Leftover.TheVariants as left
use Rattle.broker_database.specs.BrokerView.{BrokerView}
use Rattle.broker_database.specs.Calls.{Opened}
use Rattle.broker_database.specs.Life.{EndsAs}
use Rattle.program_io.specs.declared.check.FilesRead.{FilesRead}
use Rattle.broker_program.specs.declared.run_end.CutService.{CutService}
use Rattle.broker_program.specs.declared.run_end.FileAfter.{FileAfter}
use Rattle.broker_program.specs.declared.run_end.FileAfter.TheVariants.{Closed, Cut, GivenUp, Read, Served}
use Rattle.broker_program.specs.declared.run_end.ServiceEnd.{ServiceEnd}

module _ {D : Type 0} {g : Ghosts D} where
  -- A connection was opened on a log and a database file that held this.
  pub record StartsFrom (held : Image) (conn : Held (FileStore D g)) : Type 0 where
    -- it is open, and no transaction is
    pub opened : IsOpened conn
    -- it shows the database that they held; if there was none, one without tables
    pub found : FindsIn held (file_state conn)
    -- if there was none, each page of the new file has a sum
    pub sums : IsBlankAs true held → (view conn.store).has_sums ≡ true
    -- no query on it has a limit of steps
    pub fresh : IsNew conn
    -- and each later read is tested against a digest of what was there
    pub shielded : (file_state conn).IsShielded

  -- the same, if the disk is clean as it was opened
  abbrev pub OpensOn : Image → Held (FileStore D g) → Type 0
  OpensOn held conn = HasCleanDisk (file_state conn) → StartsFrom held conn

  -- what is left is the store of a connection whose reads were tested to the end, or the files of one
  abbrev pub IsTested : Leftover D g → Type 0
  IsTested (left.Store store) = is_shielded store
  IsTested (left.Files files) = (last : FileStore D g) × (store_files last ≡ (files.log, files.db)) × is_shielded last
  IsTested (left.Unopened it) = ⊥

  -- the disk is clean to the end
  abbrev pub EndsClean : Leftover D g → Type 0
  EndsClean (left.Store store) = IsClean (view store)
  EndsClean rest = IsCleanLeft rest

  -- A connection's files were closed, or it was given up, and this is left.
  pub record Leaves (conn : Held (FileStore D g)) (rest : Leftover D g) : Type 0 where
    -- If the disk is clean, its last commit is in the database file; or what a crash leaves of its store it left before.
    pub ends : EndsClean rest → HasCleanDisk (file_state conn) × EndsAs g conn rest
    -- if the reads of the connection are tested, they were to the end
    pub shield : (file_state conn).IsShielded → IsTested rest

  -- For private clauses: the connection's files were closed.
  abbrev pub ClosesAs : Held (FileStore D g) → Files D → Type 0
  ClosesAs conn files = Leaves conn (left.Files files)

  -- For private clauses: the connection was given up.
  abbrev pub GivesUpAs : Held (FileStore D g) → FileStore D g → Type 0
  GivesUpAs conn store = Leaves conn (left.Store store)

  -- a broker was opened over files that held this, if the disk is clean as they were opened
  abbrev pub OpensBroker : Image → BrokerView (FileStore D g) → Type 0
  OpensBroker held broker =
      (conn : Held (FileStore D g)) × OpensOn held conn × Opened file_state conn (Ok broker)

  -- ---- what is left of the file that a command worked on

  -- files were read, such ones
  abbrev pub LeavesRead : (FilesRead → Type 0) → FileAfter D g → Type 0
  LeavesRead P (Read read) = P read
  LeavesRead P _ = ⊥

  -- it was closed, and its files are such
  abbrev pub LeavesClosed : (Files D → Type 0) → FileAfter D g → Type 0
  LeavesClosed P (Closed files) = P files
  LeavesClosed P _ = ⊥

  -- it was given up, and its store is such
  abbrev pub LeavesStore : (FileStore D g → Type 0) → FileAfter D g → Type 0
  LeavesStore P (GivenUp store) = P store
  LeavesStore P _ = ⊥

  -- it was served, in such a way
  abbrev pub LeavesServed : (ServiceEnd D → Type 0) → FileAfter D g → Type 0
  LeavesServed P (Served service) = P service
  LeavesServed P _ = ⊥

  -- it was served up to a fault, in such a way
  abbrev pub LeavesCut : (CutService D g → Type 0) → FileAfter D g → Type 0
  LeavesCut P (Cut service) = P service
  LeavesCut P _ = ⊥
