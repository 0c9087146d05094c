-- What the caller that closes a broker's files and opens them again promises (this project's own).
use Rattle.std.specs.Prelude.{◌≡◌, ◌⊎◌, false, IsTrue}
use Rattle.sqlite_disk.specs.declared.Disk.{Ghosts}
use Rattle.sqlite_disk.specs.declared.Files.{Files}
use Rattle.sqlite.specs.Closing.{IsCopied}
use Rattle.sqlite.specs.FileStore.{recovers}
use Rattle.sqlite.specs.Files.{Finds, IsOpened, IsCleanLeft, LeavesFiles, file_state, image_of}
use Rattle.sqlite.specs.Held.{Held}
use Rattle.sqlite.specs.Recovery.{Image}
use Rattle.sqlite.specs.State.{HasCleanDisk}
use Rattle.sqlite.specs.Tree.{Trees}
use Rattle.sqlite.specs.WalFiles.{outcomes}
use Rattle.sqlite.specs.WalReads.{AreClean}
use Rattle.sqlite.specs.declared.FileStore.{FileStore}
use Rattle.sqlite.specs.declared.file.Leftover.{Leftover}
use Rattle.broker_core.specs.State.{State as Broker}
use Rattle.broker_database.specs.BrokerView.{BrokerView}
use Rattle.broker_database.specs.Ends.{IsAsBefore}
use Rattle.broker_database.specs.Life.{AreTreesOf, IsKeptIn, IsUnharmed, MayLeave}
use Rattle.broker_database.specs.Life.Kept.{OfToday}
use Rattle.broker_database.specs.Stored.{HoldsState}
use Rattle.broker_database.specs.declared.opening.OpenFault.{OpenFault}
use Rattle.broker_database.specs.declared.opening.OpenFault.TheVariants as fault
use Rattle.worked_examples.specs.declared.reopening.NotReopened.{NotReopened}
use Rattle.worked_examples.specs.declared.reopening.NotReopened.TheVariants.{Unclosed, Unopened, NoBroker}

-- the database failed, or had no memory
abbrev pub IsOfDatabase : OpenFault → Type 0
IsOfDatabase why = (why ≡ fault.Memory) ⊎ (why ≡ fault.Store)

-- any trees that a crash may leave keep the state
abbrev pub KeepsOverCrash : Broker → (Trees → Type 0) → Type 0
KeepsOverCrash s may_leave = (trees : Trees) → may_leave trees → AreTreesOf (OfToday s) trees

module _ {D : Type 0} (g : Ghosts D) where
  -- Files that keep the state: as they read, as a crash may leave them, and as a connection finds them.
  pub record KeepState (s : Broker) (files : Files D) : Type 0 where
    pub seen : IsKeptIn (OfToday s) (image_of g files)
    pub left : (image : Image) → outcomes g files.log files.db image → IsKeptIn (OfToday s) image
    pub found : (conn : Held (FileStore D g)) → IsOpened conn → Finds files conn → HoldsState s (file_state conn)

module _ {D : Type 0} {g : Ghosts D} where
  -- ---- the broker that is opened

  -- What the new broker has of the old one, on a disk that returned what was written.
  pub record IsOpenedAgain (old new : BrokerView (FileStore D g)) : Type 0 where
    -- it runs, also if the old one was stopped
    pub runs : new.is_stopped ≡ false
    -- it holds each state that the old one held
    pub holds : HasCleanDisk (file_state new.connection)
        → (s : Broker) → HoldsState s (file_state old.connection) → HoldsState s (file_state new.connection)
    -- for any database, also one that holds no state, as after a command answered Store: the last commit is the old one
    pub commit : HasCleanDisk (file_state new.connection) → IsTrue (file_state new.connection).is_open
        → (file_state new.connection).committed.trees ≡ (file_state old.connection).committed.trees

  -- ---- the files between the two

  -- For private clauses: a broker's files that were closed have its last commit, and keep each state that it held.
  pub record AreClosed (old : BrokerView (FileStore D g)) (files : Files D) : Type 0 where
    pub copied : IsCopied old.connection files
    pub keep : (s : Broker) → HoldsState s (file_state old.connection) → KeepState g s files

  -- For private clauses: a broker over a connection that was opened on these files has what this one found.
  pub record IsOpenedOver (files : Files D) (new : BrokerView (FileStore D g)) : Type 0 where
    pub conn : Held (FileStore D g)
    pub opened : IsOpened conn
    pub finds : Finds files conn
    pub same : IsAsBefore (file_state conn) (file_state new.connection)
    pub holds : (s : Broker) → HoldsState s (file_state conn) → HoldsState s (file_state new.connection)

  -- Such files couldn't be opened. What is left of them keeps the state too, on a disk that returned what was written,
  -- if the opening did no harm that the contract of `open_files` leaves open.
  pub record IsLeftOf (s : Broker) (left : Leftover D g) : Type 0 where
    pub files : Files D
    pub kept : AreClean g files.log files.db → KeepState g s files
    pub leaves : IsCleanLeft left → LeavesFiles files left
    pub still : AreClean g files.log files.db → IsCleanLeft left → IsUnharmed g (image_of g files) left
        → (image : Image) → MayLeave g left image → IsKeptIn (OfToday s) image

  -- ---- no broker

  -- What is handed back keeps the state over a crash; and if there is no broker in files that were opened, it is the
  -- database that failed.
  abbrev pub StillKeeps : Broker → NotReopened D g → Type 0
  StillKeeps s (Unclosed error store) = KeepsOverCrash s (recovers store)
  StillKeeps s (Unopened error left) = IsLeftOf s left
  StillKeeps s (NoBroker refused) =
      HasCleanDisk (file_state refused.connection)
      → KeepsOverCrash s (file_state refused.connection).may_leave × IsOfDatabase refused.fault

  -- for private clauses: each state that these files kept, it keeps
  abbrev pub KeepsAsFiles : Files D → NotReopened D g → Type 0
  KeepsAsFiles files lost =
      (s : Broker) → (AreClean g files.log files.db → KeepState g s files) → StillKeeps s lost

  -- each state that the broker held, it keeps
  abbrev pub LosesNothing : BrokerView (FileStore D g) → NotReopened D g → Type 0
  LosesNothing old lost = (s : Broker) → HoldsState s (file_state old.connection) → StillKeeps s lost
