-- the connections that a broker in a file serves, one after another, over one opening after another (this project's
-- own choice)
use Rattle.std.specs.Prelude.{◌≡◌, ◌⊎◌, ℕ, ◌+◌, false, List, [], ◌∷◌, ◌++◌, length, Contains, Option, Ok, Result, IsTrue}
use Rattle.std.specs.Prelude.{◌&&◌, MatchOption}
use Rattle.sqlite_disk.specs.declared.Disk.{Ghosts}
use Rattle.sqlite_disk.specs.declared.Files.{Files}
use Rattle.sqlite.specs.FileStore.{files as store_files}
use Rattle.sqlite_store.specs.Calls.{IsQuietCall}
use Rattle.sqlite.specs.Files.{file_state}
use Rattle.sqlite.specs.Held.{Held, IsNew}
use Rattle.sqlite.specs.Recovery.{Image}
use Rattle.sqlite.specs.State.{HasCleanDisk}
use Rattle.sqlite.specs.declared.FileStore.{FileStore}
use Rattle.sqlite.specs.declared.file.Leftover.{Leftover}
use Rattle.sqlite.specs.declared.file.Leftover.TheVariants as left
use Rattle.broker_core.specs.Laws.{Exit}
use Rattle.broker_core.specs.Machine.{Request}
use Rattle.broker_database.specs.BrokerView.{BrokerView}
use Rattle.broker_database.specs.Calls.{Opened}
use Rattle.broker_database.specs.Life.{IsGivenBack, IsOpenedAfter}
use Rattle.broker_http.specs.Calls.{IsServed}
use Rattle.broker_http.specs.declared.served.StreamFault.{StreamFault}
use Rattle.broker_http.specs.declared.served.Served.{Served}
use Rattle.program_io.specs.Entrance.{AreVisited, IsLost, IsVisited, Queue, Visit}
use Rattle.broker_program.specs.Asked.{calls_of_served}
use Rattle.broker_program.specs.Files.{Leaves, OpensOn}
use Rattle.broker_program.specs.declared.run_end.ServiceEnd.{ServiceEnd}

-- what a broker does over one opening of its file: it serves these peers, and runs these commands for them
pub record Work : Type 0 where
  pub visits : List Visit
  pub calls : List (Request × Exit)

-- the peers of all these, of which the last one is first
abbrev pub visits_of : List Work → List Visit
visits_of [] = []
visits_of (work ∷ works) = visits_of works ++ work.visits

module _ {D : Type 0} {g : Ghosts D} where
  -- a broker that isn't stopped serves a peer: what it sends, as far as it is read, is answered by what it takes
  abbrev pub ServesPeer : Visit → BrokerView (FileStore D g) → BrokerView (FileStore D g) → Type 0
  ServesPeer visit s t =
      (s.is_stopped ≡ false) × (result : Result Served StreamFault)
      × IsServed file_state s t visit.before.sends visit.after.sends visit.before.took visit.after.took result

  -- these peers, one after another
  abbrev pub ServesPeers : List Visit → BrokerView (FileStore D g) → BrokerView (FileStore D g) → Type 0
  ServesPeers [] s t = t ≡ s
  ServesPeers (visit ∷ visits) s t =
      (mid : BrokerView (FileStore D g)) × ServesPeer visit s mid × ServesPeers visits mid t

  -- the commands that are run for them, in order
  abbrev pub calls_of_peers : (visits : List Visit) (s t : BrokerView (FileStore D g)) → ServesPeers visits s t → List (Request × Exit)
  calls_of_peers [] s t it = []
  calls_of_peers (visit ∷ visits) s t it =
      calls_of_served file_state s it.0 visit.before.sends visit.after.sends visit.before.took visit.after.took it.1.1 it.1.2
      ++ calls_of_peers visits it.0 t it.2

  -- the broker on the connection was opened and did this work, to this end
  pub record Works (work : Work) (conn : Held (FileStore D g)) (end : BrokerView (FileStore D g)) : Type 0 where
    pub broker : BrokerView (FileStore D g)
    pub opened : Opened file_state conn (Ok broker)
    pub peers : ServesPeers work.visits broker end
    pub calls : work.calls ≡ calls_of_peers work.visits broker end peers

  -- The broker is stopped: its file was given up as it was, and the connection was opened on what that left.
  pub record OpensAfter (stopped : BrokerView (FileStore D g)) (conn : Held (FileStore D g)) : Type 0 where
    pub store : FileStore D g
    pub stops : IsTrue stopped.is_stopped
    pub clean : HasCleanDisk (file_state stopped.connection)
    pub given : IsGivenBack g stopped.connection store
    pub after : IsOpenedAfter g (left.Store store) conn
    -- no query on it has a limit of steps, and each later read is tested
    pub fresh : IsNew conn
    pub shielded : (file_state conn).IsShielded

  -- the same, if the disk is clean as the connection was opened
  abbrev pub ReopensOn : BrokerView (FileStore D g) → Held (FileStore D g) → Type 0
  ReopensOn stopped conn = HasCleanDisk (file_state conn) → OpensAfter stopped conn

  -- The connection was opened on files that held this; or on those files again, once brokers over them had done these
  -- works, the last one first, and each was stopped.
  abbrev pub StartsAfter : Image → List Work → Held (FileStore D g) → Type 0
  StartsAfter held [] conn = OpensOn held conn
  StartsAfter held (work ∷ works) conn =
      (old : Held (FileStore D g)) × (stopped : BrokerView (FileStore D g))
      × StartsAfter held works old × Works work old stopped × ReopensOn stopped conn

  -- a sync of one of the two files failed, so that nothing more may be asked of them
  abbrev pub HasFailedSync : FileStore D g → Type 0
  HasFailedSync store = let files = store_files store in (g.is_usable files.0 && g.is_usable files.1) ≡ false

  -- so it is of a store that was given up, at the latest once its log was to be copied into the database file
  abbrev pub LosesSync : FileStore D g → Type 0
  LosesSync store = (last : FileStore D g) × IsQuietCall store last × HasFailedSync last

  -- For private clauses: the next peer is served, or it was lost.
  abbrev pub ServesNext : BrokerView (FileStore D g) → BrokerView (FileStore D g) → Queue → Queue → Type 0
  ServesNext s t old new = (IsLost old new × (t ≡ s)) ⊎ ((visit : Visit) × IsVisited old new visit × ServesPeer visit s t)

module _ {D : Type 0} (g : Ghosts D) where
  -- a broker served this peer
  abbrev pub IsPeerOf : Visit → Type 0
  IsPeerOf visit = (s : BrokerView (FileStore D g)) × (t : BrokerView (FileStore D g)) × ServesPeer visit s t

  -- Brokers in files that held this served these peers, over one opening after another. The last connection ends so.
  pub record ServesTo (held : Image) (visits : List Visit) (Ends : Held (FileStore D g) → Type 0) : Type 0 where
    -- what was done over the last opening, and over those before it
    pub last : Work
    pub before : List Work
    pub connection : Held (FileStore D g)
    pub end : BrokerView (FileStore D g)
    pub starts : StartsAfter held before connection
    pub works : Works last connection end
    pub all : visits ≡ visits_of (last ∷ before)
    pub ends : Ends end.connection

  -- The files were closed, or given up as they were, and this is left of them.
  abbrev pub ServesOver : Image → List Visit → Leftover D g → Type 0
  ServesOver held visits rest = ServesTo held visits (λ conn. Leaves conn rest)

  -- The first of these peers were served over files that held this, and then a sync of them failed.
  abbrev pub LosesFiles : Image → List Visit → Type 0
  LosesFiles held visits =
      (front : List Visit) × (back : List Visit) × (visits ≡ front ++ back) × (store : FileStore D g) × LosesSync store
      × ServesOver held front (left.Store store)

  -- The brokers in the file served these peers, and it was closed; or a sync of it failed.
  abbrev pub ServesVisits : Image → List Visit → Option (Files D) → Type 0
  ServesVisits held visits found =
      MatchOption found (LosesFiles held visits) (λ files. ServesOver held visits (left.Files files))

-- Later is what was opened once a sync failed.
module _ {D L : Type 0} (g : Ghosts D) (later : Ghosts L) where
  -- Whoever was to come was served or lost as he came in, also if the disk isn't clean. If it is to the end, the brokers
  -- in the file served these peers, and it was closed; or a sync of it failed, and the file of that path then was opened.
  pub record ServesQueue (held : Image) (old new : Queue) (found : Option (Files D)) : Type 0 where
    pub visits : List Visit
    pub visited : AreVisited old new visits
    pub all : length new.coming ≡ 0
    pub served : (visit : Visit) → Contains visits visit → IsPeerOf g visit ⊎ IsPeerOf later visit
    pub file : ServesVisits g held visits found

module _ {D : Type 0} (g : Ghosts D) where
  -- So many connections were taken, each served or lost as it came in. If the disk is clean to the end, the brokers in
  -- the file served them, and it was closed; or a sync of it failed, and the file of that path then was opened: over
  -- that one others were served, of which no more is said.
  abbrev pub ServesFile : Image → ℕ → ServiceEnd D → Type 0
  ServesFile held all service =
      (service.served + service.lost ≡ all)
      × ((visits : List Visit) × (length visits ≡ service.served) × ServesVisits g held visits service.files)
