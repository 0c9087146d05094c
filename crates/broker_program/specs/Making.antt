-- what a command made of the database in a file: a new broker's, or today's of one of format 1 (this project's own
-- choice)
use Rattle.std.specs.Prelude.{◌≡◌, Ok}
use Rattle.sqlite_disk.specs.declared.Disk.{Ghosts}
use Rattle.sqlite_disk.specs.declared.Files.{Files}
use Rattle.sqlite.specs.Closing.{IsCopied}
use Rattle.sqlite.specs.Files.{file_state}
use Rattle.sqlite.specs.Held.{Held}
use Rattle.sqlite.specs.Recovery.{Image}
use Rattle.sqlite.specs.State.{HasCleanDisk}
use Rattle.sqlite.specs.WalReads.{AreClean}
use Rattle.sqlite.specs.declared.FileStore.{FileStore}
use Rattle.broker_core.specs.Text.{Text}
use Rattle.command_facts.specs.Primitives.{broker_primitives}
use Rattle.broker_database.specs.BrokerView.{BrokerView}
use Rattle.broker_database.specs.Calls.{Created, Migrated}
use Rattle.broker_program.specs.Files.{StartsFrom}

module _ {D : Type 0} {g : Ghosts D} where
  -- A new broker is made, whose office has this token; new is its connection.
  abbrev pub MakesOn : Text → Held (FileStore D g) → Held (FileStore D g) → Type 0
  MakesOn office old new =
      (broker : BrokerView (FileStore D g)) × (new ≡ broker.connection)
      × Created file_state old (broker_primitives.digest_of office) (Ok broker)

  -- today's database is made of one of format 1
  abbrev pub MigratesOn : Held (FileStore D g) → Held (FileStore D g) → Type 0
  MigratesOn old new = Migrated file_state old new (Ok tt)

-- Held is what the log and the database file held at first; the files are what is left of them.
module _ {D : Type 0} (g : Ghosts D) (held : Image) where
  -- a new broker was made there, whose office has this token
  pub record MakesBroker (office : Text) (files : Files D) : Type 0 where
    pub connection : Held (FileStore D g)
    pub broker : BrokerView (FileStore D g)
    pub starts : StartsFrom held connection
    pub made : Created file_state connection (broker_primitives.digest_of office) (Ok broker)
    -- and its database is in the file that was closed
    pub closed : IsCopied broker.connection files

  -- For private clauses: such a broker was made, if the disk is clean.
  abbrev pub MakesThere : Text → BrokerView (FileStore D g) → Type 0
  MakesThere office broker =
      HasCleanDisk (file_state broker.connection)
      → (conn : Held (FileStore D g)) × StartsFrom held conn
      × Created file_state conn (broker_primitives.digest_of office) (Ok broker)

  -- today's database was made of it
  pub record MigratesFile (files : Files D) : Type 0 where
    pub old : Held (FileStore D g)
    pub new : Held (FileStore D g)
    pub starts : StartsFrom held old
    pub migrated : Migrated file_state old new (Ok tt)
    -- and it is in the file that was closed
    pub closed : IsCopied new files

  -- For private clauses: it was made there, if the disk is clean.
  abbrev pub MigratesThere : Held (FileStore D g) → Type 0
  MigratesThere new =
      HasCleanDisk (file_state new)
      → (old : Held (FileStore D g)) × StartsFrom held old × Migrated file_state old new (Ok tt)

  -- the same, if the disk is clean to the end
  abbrev pub BrokerIsMade : Text → Files D → Type 0
  BrokerIsMade office files = AreClean g files.log files.db → MakesBroker office files

  abbrev pub FileIsMigrated : Files D → Type 0
  FileIsMigrated files = AreClean g files.log files.db → MigratesFile files
