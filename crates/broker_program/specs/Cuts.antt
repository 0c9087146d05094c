-- `serve` that failed once it served: what was done up to there, and what is left of its file (this project's own
-- choice)
use Rattle.std.specs.Prelude.{◌≡◌, ◌⊎◌, ℕ, ◌+◌, ◌<◌, List, length, Contains, Option, None, Some, IsTrue}
use Rattle.sqlite_disk.specs.Disk.{MoreFaults}
use Rattle.sqlite_disk.specs.declared.Disk.{Ghosts}
use Rattle.sqlite_disk.specs.declared.Files.{Files}
use Rattle.sqlite.specs.FileStore.{files as store_files, faults, view, IsStep}
use Rattle.sqlite_store.specs.Calls.{IsQuietCall}
use Rattle.sqlite.specs.Files.{FailsToOpenFiles, IsCleanLeft, LeavesFiles}
use Rattle.sqlite.specs.Held.{Held}
use Rattle.sqlite.specs.Recovery.{Image}
use Rattle.sqlite.specs.View.{IsClean}
use Rattle.sqlite.specs.declared.FileStore.{FileStore}
use Rattle.sqlite.specs.declared.error.Error.{Error}
use Rattle.sqlite.specs.declared.file.Leftover.{Leftover}
use Rattle.sqlite.specs.declared.file.Leftover.TheVariants as left
use Rattle.broker_database.specs.declared.opening.OpenFault.{OpenFault}
use Rattle.program_io.specs.Entrance.{AreVisited, Queue, Visit}
use Rattle.program_io.specs.Reported.{IsFromOutside}
use Rattle.program_io.specs.declared.fault.RunFault.{RunFault}
use Rattle.program_io.specs.declared.fault.RunFault.TheVariants as run_fault
use Rattle.broker_program.specs.FileRefusals.{IsNotClosed, IsReopeningFault, OpensNone, returned_of}
use Rattle.broker_program.specs.Serving.{IsPeerOf, LosesFiles, ServesOver, ServesTo, StartsAfter, Work, visits_of}
use Rattle.broker_program.specs.Files.{Leaves, LeavesCut}
use Rattle.broker_program.specs.declared.run_end.CutService.{CutService}
use Rattle.broker_program.specs.declared.run_end.FileAfter.{FileAfter}
use Rattle.broker_program.specs.declared.seed.NoSeed.{NoSeed}

module _ {D : Type 0} {g : Ghosts D} where
  -- a store is left, such a one
  abbrev pub OfStore : (FileStore D g → Type 0) → Leftover D g → Type 0
  OfStore P (left.Store store) = P store
  OfStore P _ = ⊥

  -- The files were to be opened, and it was refused: rest is what is left of them.
  pub record AreRefused (files : Files D) (fault : RunFault) (rest : Leftover D g) : Type 0 where
    -- why, and Memory is reported only if memory ran out
    pub error : Error
    pub returned : fault ≡ returned_of error
    pub cause : IsCleanLeft rest → FailsToOpenFiles files rest error
    -- a crash leaves what was there
    pub left : IsCleanLeft rest → LeavesFiles files rest

  -- The log of a store was to be copied into the database file, and the disk failed in that.
  pub record BreaksInCopy (store last : FileStore D g) : Type 0 where
    pub fails : IsClean (view last) → MoreFaults (faults store) (faults last)
    -- what it counts beside the disk's failures, it met
    pub step : IsStep store last None

  -- A store that was given up isn't opened again. Without a seed it is left so. With one its log was to be copied into the
  -- database file: in that the disk failed; or the store shows what it showed, and then its files were refused.
  abbrev pub StaysShut : FileStore D g → RunFault → Leftover D g → Option NoSeed → Type 0
  StaysShut store fault rest (Some seed) = (fault ≡ run_fault.File) × (rest ≡ left.Store store)
  StaysShut store fault rest None =
      (last : FileStore D g) × IsQuietCall store last × (files : Files D) × ((files.log, files.db) ≡ store_files last)
      × (((fault ≡ run_fault.File) × (rest ≡ left.Files files) × BreaksInCopy store last)
      ⊎ ((IsClean (view last) → view last ≡ view store) × AreRefused files fault rest))

-- Held is what the log and the database file held at first, and the visits are those of the peers that were served.
module _ {D : Type 0} {g : Ghosts D} (held : Image) (visits : List Visit) where
  -- Brokers in the file served them. The last one is stopped, its file was given up, and isn't opened again.
  pub record IsNotReopened (fault : RunFault) (rest : Leftover D g) (seed : Option NoSeed) : Type 0 where
    pub store : FileStore D g
    pub served : (it : ServesOver g held visits (left.Store store)) × IsTrue it.end.is_stopped
    pub shut : StaysShut store fault rest seed

  -- The file was opened again, and no broker is found in it: it was given up, and the store is what is left of it.
  pub record FindsNoBroker (fault : OpenFault) (store : FileStore D g) : Type 0 where
    -- what was done over the openings before that one
    pub works : List Work
    pub connection : Held (FileStore D g)
    pub end : Held (FileStore D g)
    pub starts : StartsAfter held works connection
    pub all : visits ≡ visits_of works
    pub fails : OpensNone connection end fault
    pub left : Leaves end (left.Store store)

  -- the fault is `open n`, and such a database was found
  abbrev pub IsBrokerless : RunFault → Leftover D g → Type 0
  IsBrokerless (run_fault.Open fault) rest = OfStore (FindsNoBroker fault) rest
  IsBrokerless _ rest = ⊥

  -- All were served, and then the file couldn't be closed: it was given up, and the store is what is left of it.
  abbrev pub StaysUnclosed : RunFault → FileStore D g → Type 0
  StaysUnclosed fault store = ServesTo g held visits (λ conn. IsNotClosed conn fault store)

  -- So many were still to come, and rest is what is left of the file; or a sync of it failed, and the fault is of the file
  -- that its path had afterwards.
  abbrev pub CutsVisits : ℕ → RunFault → Option (Leftover D g) → Option NoSeed → Type 0
  CutsVisits coming fault None seed = IsReopeningFault fault × LosesFiles g held visits
  CutsVisits coming fault (Some rest) seed =
      ((0 < length visits) × (IsNotReopened fault rest seed ⊎ IsBrokerless fault rest))
      ⊎ ((coming ≡ 0) × IsFromOutside fault × OfStore (StaysUnclosed fault) rest)

-- Later is what was opened once a sync failed.
module _ {D L : Type 0} (g : Ghosts D) (later : Ghosts L) where
  -- Serving ended with this fault. Up to there whoever came was served or lost as he came in.
  pub record CutsQueue (held : Image) (old new : Queue) (fault : RunFault) (rest : Option (Leftover D g))
      (seed : Option NoSeed) : Type 0 where
    pub visits : List Visit
    pub visited : AreVisited old new visits
    pub served : (visit : Visit) → Contains visits visit → IsPeerOf g visit ⊎ IsPeerOf later visit
    pub file : CutsVisits held visits (length new.coming) fault rest seed

  -- so it did, and this is said of it
  abbrev pub CountsCut : Image → Queue → Queue → RunFault → CutService D g → Type 0
  CountsCut held old new fault service =
      (service.served ≡ length new.went) × (service.lost ≡ new.lost)
      × CutsQueue held old new fault service.rest service.seed

  abbrev pub CutsService : Image → Queue → Queue → RunFault × FileAfter D g → Type 0
  CutsService held old new failed = LeavesCut (CountsCut held old new failed.0) failed.1

module _ {D : Type 0} {g : Ghosts D} where
  -- Of so many connections some were taken, each served or lost as it came in. Then serving ended with this fault.
  abbrev pub CutsFile : Image → ℕ → RunFault → CutService D g → Type 0
  CutsFile held all fault service =
      (coming : ℕ) × (service.served + service.lost + coming ≡ all)
      × ((visits : List Visit) × (length visits ≡ service.served)
      × CutsVisits held visits coming fault service.rest service.seed)
