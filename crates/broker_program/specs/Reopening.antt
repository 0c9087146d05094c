-- For private clauses: a broker's file that is served, and opened again once its broker stopped.
use Rattle.std.specs.Prelude.{◌≡◌, ◌⊎◌, ◌++◌, Bool, true, false, List, length, Contains, Option, Some, Ok, Result, MatchOption, MatchResult}
use Rattle.sqlite_disk.specs.declared.Disk.{Ghosts}
use Rattle.sqlite_disk.specs.declared.Files.{Files}
use Rattle.sqlite.specs.FileStore.{view}
use Rattle.sqlite_store.specs.Calls.{IsQuietCall}
use Rattle.sqlite.specs.Files.{file_state}
use Rattle.sqlite.specs.Held.{Held, IsNew}
use Rattle.sqlite.specs.Recovery.{Image}
use Rattle.sqlite.specs.State.{HasCleanDisk}
use Rattle.sqlite.specs.View.{IsClean}
use Rattle.sqlite.specs.declared.FileStore.{FileStore}
use Rattle.sqlite.specs.declared.file.Leftover.{Leftover}
use Rattle.sqlite.specs.declared.file.Leftover.TheVariants as left
use Rattle.broker_database.specs.BrokerView.{BrokerView}
use Rattle.broker_database.specs.Calls.{Opened}
use Rattle.broker_database.specs.Life.{IsOpenedAfter}
use Rattle.broker_program.specs.Cuts.{BreaksInCopy, CutsVisits, IsBrokerless, IsNotReopened, OfStore, StaysShut}
use Rattle.broker_program.specs.Files.{GivesUpAs}
use Rattle.broker_program.specs.FileRefusals.{OpensNone}
use Rattle.program_io.specs.Entrance.{AreVisited, Queue, Visit}
use Rattle.program_io.specs.declared.fault.RunFault.{RunFault}
use Rattle.program_io.specs.declared.fault.RunFault.TheVariants as run_fault
use Rattle.broker_program.specs.Serving.{IsPeerOf, LosesFiles, LosesSync, ReopensOn, ServesPeers, ServesVisits}
use Rattle.broker_program.specs.Serving.{StartsAfter, Work, visits_of}
use Rattle.broker_program.specs.declared.seed.NoSeed.{NoSeed}

module _ {D : Type 0} {g : Ghosts D} where
  -- the log of a store that was given up was copied into the database file, or not; unless it broke, which is said, the
  -- store shows what it showed
  pub record EmptiesLog (old : FileStore D g) (new : FileStore D g × Bool) : Type 0 where
    pub quiet : IsQuietCall old new.0
    pub same : new.1 ≡ false → IsClean (view new.0) → view new.0 ≡ view old
    pub broke : new.1 ≡ true → BreaksInCopy old new.0

  -- a store that was given up, as it is now: nothing was called on it
  pub record IsStillGiven (store now : FileStore D g) : Type 0 where
    pub clean : IsClean (view now)
    pub quiet : IsQuietCall store now
    pub same : view now ≡ view store

  -- its files were opened again, if the disk is clean; or not, since a sync of them failed
  abbrev pub OpensFilesAgain : FileStore D g → Option (Held (FileStore D g)) → Type 0
  OpensFilesAgain store found =
      MatchOption found (LosesSync store) (λ conn.
      HasCleanDisk (file_state conn)
      → (now : FileStore D g) × IsStillGiven store now × IsOpenedAfter g (left.Store now) conn × IsNew conn
      × (file_state conn).IsShielded)

  -- a stopped broker's files were given up and opened again, with the broker in them
  abbrev pub OpensBrokerAgain : BrokerView (FileStore D g) → Option (BrokerView (FileStore D g)) → Type 0
  OpensBrokerAgain stopped found =
      MatchOption found ((store : FileStore D g) × LosesSync store × GivesUpAs stopped.connection store) (λ broker.
      (conn : Held (FileStore D g)) × ReopensOn stopped conn × Opened file_state conn (Ok broker))

  -- its file was given up and isn't opened again; or no broker is found in it
  abbrev pub FindsNoneAgain : BrokerView (FileStore D g) → RunFault → Leftover D g → Type 0
  FindsNoneAgain stopped (run_fault.Open fault) rest =
      OfStore (λ store. (conn : Held (FileStore D g)) × (end : Held (FileStore D g)) × ReopensOn stopped conn
      × OpensNone conn end fault × GivesUpAs end store) rest
  FindsNoneAgain stopped _ rest = ⊥

  abbrev pub FailsToReopen : BrokerView (FileStore D g) → RunFault → Leftover D g → Option NoSeed → Type 0
  FailsToReopen stopped fault rest seed =
      ((store : FileStore D g) × GivesUpAs stopped.connection store × StaysShut store fault rest seed)
      ⊎ FindsNoneAgain stopped fault rest

  -- brokers in files that held this have served these peers, and this is the last of them as it is now
  pub record ServesSoFar (held : Image) (visits : List Visit) (now : BrokerView (FileStore D g)) : Type 0 where
    pub before : List Work
    pub served : List Visit
    pub connection : Held (FileStore D g)
    pub broker : BrokerView (FileStore D g)
    pub starts : StartsAfter held before connection
    pub opened : Opened file_state connection (Ok broker)
    pub peers : ServesPeers served broker now
    pub all : visits ≡ visits_of before ++ served

  -- it goes on so, over its files that are opened again if it is stopped; or a sync of them failed
  abbrev pub ServesOn : Image → List Visit → Option (BrokerView (FileStore D g)) → Type 0
  ServesOn held visits found = MatchOption found (LosesFiles g held visits) (ServesSoFar held visits)

  -- it doesn't, since they aren't opened again
  abbrev pub ServesNoMore : Image → List Visit → RunFault → Leftover D g → Option NoSeed → Type 0
  ServesNoMore held visits fault rest seed =
      IsNotReopened held visits fault rest seed ⊎ IsBrokerless held visits fault rest

  -- if it has served these, it goes on, or not
  abbrev pub KeepsServing : Image → BrokerView (FileStore D g)
      → Result (Option (BrokerView (FileStore D g))) (RunFault × Leftover D g × Option NoSeed) → Type 0
  KeepsServing held broker found =
      (visits : List Visit) → ServesSoFar held visits broker
      → MatchResult found (ServesOn held visits) (λ failed. ServesNoMore held visits failed.0 failed.1 failed.2)

module _ {D : Type 0} (g : Ghosts D) where
  -- brokers served the peers that came in between, over any files
  pub record ServesBetween (old new : Queue) : Type 0 where
    pub visits : List Visit
    pub visited : AreVisited old new visits
    pub served : (visit : Visit) → Contains visits visit → IsPeerOf g visit

  -- they were served over files that held this, and this is left of the files
  abbrev pub ServesAll : Image → Queue → Queue → Option (Files D) → Type 0
  ServesAll held old new found = (it : ServesBetween old new) × ServesVisits g held it.visits found

  -- so they were, up to this fault
  abbrev pub CutsAll : Image → Queue → Queue → RunFault → Leftover D g → Option NoSeed → Type 0
  CutsAll held old new fault rest seed =
      (it : ServesBetween old new) × CutsVisits held it.visits (length new.coming) fault (Some rest) seed

module _ {D : Type 0} {g : Ghosts D} where
  -- they were served over such files by this broker as the last one
  abbrev pub ServesMore : Image → Queue → Queue → BrokerView (FileStore D g) → Type 0
  ServesMore held old new broker = (it : ServesBetween g old new) × ServesSoFar held it.visits broker

  -- they were served before this broker was opened, by others on a disk as its own
  abbrev pub ServesBefore : Queue → Queue → BrokerView (FileStore D g) → Type 0
  ServesBefore old new broker = ServesBetween g old new
