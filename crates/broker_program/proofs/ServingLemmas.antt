-- peers that are served one after another, over one opening of the files after another
use Rattle.std.proofs.Common.{◌≡◌, ◌≢◌, ◌<◌, ◌⊎◌, ◌+◌, inl, inr, false, ℕ, List, Contains, [], ◌∷◌, ◌++◌, length, append_assoc, append-nil, Option, None, Some, IfErr, IfOk, IfSome, IsTrue, MatchOption, Result, Err, Ok, refl, sym, ap, subst, ◌∙◌, arith}
use Rattle.std.proofs.lemmas.List.Elements.{Contains-append_cases, Contains-push_cases}
use Rattle.sqlite_disk.specs.{declared.Disk.{Ghosts}, declared.Files.{Files}}
use Rattle.sqlite.specs.{Files.{file_state}, Held.{Held}, Recovery.{Image}, State.{HasCleanDisk}, declared.FileStore.{FileStore}}
use Rattle.sqlite.specs.declared.file.Leftover.{Leftover}
use Rattle.broker_database.specs.{BrokerView.{BrokerView}, Life.{IsGivenBack}}
use Rattle.broker_http.specs.{Calls.{IsServed}, declared.served.StreamFault.{StreamFault}, declared.served.Served.{Served}}
use Rattle.program_io.specs.{Entrance.{IsLetGo, IsLetIn, NoneIsIn, Peer, Queue, Visit}, declared.fault.RunFault.{RunFault}}
use Rattle.broker_program.specs.{Cuts.{CutsFile, CutsQueue, CountsCut, IsBrokerless, StaysUnclosed}, Files.{ClosesAs, Leaves, OpensBroker}}
use Rattle.broker_program.specs.FileRefusals.{IsLeftUnserved, IsNotClosed, IsReopeningFault}
use Rattle.broker_program.specs.Reopening.{CutsAll, FailsToReopen, FindsNoneAgain, OpensBrokerAgain, ServesAll, ServesBetween, ServesMore, ServesNoMore, ServesOn, ServesSoFar}
use Rattle.broker_program.specs.Serving.{IsPeerOf, LosesFiles, ServesFile, ServesNext, ServesOver, ServesPeer, ServesPeers, ServesQueue, ServesTo, ServesVisits, Work, Works, calls_of_peers, visits_of}
use Rattle.broker_program.specs.{declared.run_end.CutService.{CutService}, declared.run_end.ServiceEnd.{ServiceEnd}, declared.seed.NoSeed.{NoSeed}}
use Rattle.broker_program.proofs.VisitLemmas.{AreVisited-none_is_in, IsLost-fewer_coming, AreVisited-then_lost, AreVisited-went_length, AreVisited-none, AreVisited-one, IsVisited-fewer_coming, AreVisited-append}
use Rattle.program_io.specs.declared.fault.RunFault.TheVariants as run_fault
use Rattle.sqlite.specs.declared.file.Leftover.TheVariants as left

module _ {D : Type 0} (g : Ghosts D) where
  abbrev pub none_between : (queue : Queue) → ServesBetween g queue queue
  none_between queue = record { visits = []; visited = AreVisited-none queue; served = λ visit none. let e : ⊥ = omega (arith, none.1) in absurd e }

  -- those that were served in between, and then others
  pub ServesBetween-trans : (old mid new : Queue) → ServesBetween g old mid → ServesBetween g mid new → ServesBetween g old new
  ServesBetween-trans old mid new it more = record {
    visits = it.visits ++ more.visits;
    visited = AreVisited-append old mid new it.visits more.visits it.visited more.visited;
    served = λ visit is. elim (Contains-append_cases it.visits more.visits visit is) [ inl front ↦ it.served visit front | inr back ↦ more.served visit back ];
  }

module _ {D : Type 0} {g : Ghosts D} where
  -- however serving ended
  pub ServesBetween-of_result : (held : Image) (old new : Queue) (r : Result (Option (Files D)) (RunFault × Leftover D g × Option NoSeed)) → IfOk r (ServesAll g held old new) → IfErr r (λ failed. CutsAll g held old new failed.0 failed.1 failed.2)
      → ServesBetween g old new
  ServesBetween-of_result held old new (Ok found) all cut = all.0
  ServesBetween-of_result held old new (Err failed) all cut = cut.0

  -- one more peer
  ServesPeers-append : (visits : List Visit) (visit : Visit) (s mid t : BrokerView (FileStore D g)) → ServesPeers visits s mid → ServesPeer visit mid t → ServesPeers (visits ++ visit ∷ []) s t
  ServesPeers-append [] visit s mid t same it = (t, subst (λ (b : BrokerView (FileStore D g)). ServesPeer visit b t) same it, refl)
  ServesPeers-append (first ∷ visits) visit s mid t more it = (more.0, more.1, ServesPeers-append visits visit more.0 mid t more.2 it)

  -- one that was let in, served, and let go from the queue that has the door as it was then
  pub ServesNext-visited : (old mid following new : Queue) (before after : Peer) (s t : BrokerView (FileStore D g)) → IsLetIn old mid before → following ≡ mid → IsLetGo following new after → s.is_stopped ≡ false
      → (result : Result Served StreamFault) → IsServed file_state s t before.sends after.sends before.took after.took result → ServesNext s t old new
  ServesNext-visited old mid following new before after s t let_in same let_go runs result served =
      inr (record { before = before; after = after }, (mid, let_in, subst (λ (q : Queue). IsLetGo q new after) same let_go), (runs, result, served))

  pub ServesMore-none : (held : Image) (queue : Queue) (broker : BrokerView (FileStore D g)) → OpensBroker held broker → ServesMore held queue queue broker
  ServesMore-none held queue broker opens = (
    none_between g queue,
    record { before = []; served = []; connection = opens.0; broker = broker; starts = opens.1; opened = opens.2; peers = refl; all = refl },
  )

  pub ServesMore-next : (held : Image) (old mid new : Queue) (s t : BrokerView (FileStore D g)) (it : ServesBetween g old mid) → ServesSoFar held it.visits s → ServesNext s t mid new → ServesMore held old new t
  ServesMore-next held old mid new s t more so_far (inl lost) = (
    record { visits = more.visits; visited = AreVisited-then_lost old mid new more.visits more.visited lost.0; served = more.served },
    subst (λ (b : BrokerView (FileStore D g)). ServesSoFar held more.visits b) (sym lost.1) so_far,
  )
  ServesMore-next held old mid new s t more so_far (inr next) = (
    record {
      visits = more.visits ++ next.0 ∷ [];
      visited = AreVisited-append old mid new more.visits (next.0 ∷ []) more.visited (AreVisited-one mid new next.0 next.1);
      served = λ visit is. elim (Contains-push_cases more.visits next.0 visit is) [
        | inl front ↦ more.served visit front
        | inr same ↦ subst (λ v. IsPeerOf g v) same (s, t, next.2)
      ];
    },
    record {
      before = so_far.before;
      served = so_far.served ++ next.0 ∷ [];
      connection = so_far.connection;
      broker = so_far.broker;
      starts = so_far.starts;
      opened = so_far.opened;
      peers = ServesPeers-append so_far.served next.0 so_far.broker s t so_far.peers next.2;
      all = ap (λ visits. visits ++ next.0 ∷ []) so_far.all ∙ append_assoc (visits_of so_far.before) so_far.served (next.0 ∷ []);
    },
  )

  -- one fewer is to come, and one more was let go, or the broker is the one that it was
  pub ServesNext-counts : (old new : Queue) (s t : BrokerView (FileStore D g)) → ServesNext s t old new → NoneIsIn old
      → NoneIsIn new × (length old.coming ≡ length new.coming + 1) × (((t ≡ s) × (length new.went ≡ length old.went)) ⊎ (length new.went ≡ length old.went + 1))
  ServesNext-counts old new s t (inl lost) idle =
      let it = AreVisited-then_lost old old new [] (AreVisited-none old) lost.0 in
      let same : length new.went ≡ length old.went = omega (arith, AreVisited-went_length old new [] it) in
      (AreVisited-none_is_in old new [] it idle, IsLost-fewer_coming old new lost.0, inl (lost.1, same))
  ServesNext-counts old new s t (inr next) idle =
      let it = AreVisited-one old new next.0 next.1 in
      let more : length new.went ≡ length old.went + 1 = omega (arith, AreVisited-went_length old new (next.0 ∷ []) it) in
      (AreVisited-none_is_in old new (next.0 ∷ []) it idle, IsVisited-fewer_coming old new next.0 next.1, inr more)

  pub ServesNext-fewer_coming : (old new : Queue) (s t : BrokerView (FileStore D g)) → ServesNext s t old new → NoneIsIn old → length new.coming < length old.coming
  ServesNext-fewer_coming old new s t next none = let goes = ServesNext-counts old new s t next none in omega (arith, goes.1)

  -- what was done over the opening that is the last one now
  module _ (held : Image) (visits : List Visit) (now : BrokerView (FileStore D g)) (it : ServesSoFar held visits now) where
    abbrev last : Work
    last = record { visits = it.served; calls = calls_of_peers it.served it.broker now it.peers }

    works : Works last it.connection now
    works = record { broker = it.broker; opened = it.opened; peers = it.peers; calls = refl }

    to : (Ends : Held (FileStore D g) → Type 0) → Ends now.connection → ServesTo g held visits Ends
    to Ends ends = record {
      last = last;
      before = it.before;
      connection = it.connection;
      end = now;
      starts = it.starts;
      works = works;
      all = it.all;
      ends = ends;
    }

    pub over : (rest : Leftover D g) → Leaves now.connection rest → ServesOver g held visits rest
    over rest = to (λ conn. Leaves conn rest)

  pub ServesOn-opened_again : (held : Image) (visits : List Visit) (stopped : BrokerView (FileStore D g)) (found : Option (BrokerView (FileStore D g))) → OpensBrokerAgain stopped found → ServesSoFar held visits stopped
      → ServesOn held visits found
  ServesOn-opened_again held visits stopped None lost so_far = (
    visits,
    [],
    sym (append-nil visits),
    lost.0,
    lost.1,
    over held visits stopped so_far (left.Store lost.0) lost.2,
  )
  ServesOn-opened_again held visits stopped (Some broker) again so_far = record {
    before = last held visits stopped so_far ∷ so_far.before;
    served = [];
    connection = again.0;
    broker = broker;
    starts = (so_far.connection, stopped, so_far.starts, works held visits stopped so_far, again.1);
    opened = again.2;
    peers = refl;
    all = so_far.all ∙ sym (append-nil (visits_of so_far.before ++ so_far.served));
  }

  -- the file that was opened again, with no broker in it
  IsBrokerless-of_none_found : (held : Image) (visits : List Visit) (stopped : BrokerView (FileStore D g)) → ServesSoFar held visits stopped → (fault : RunFault) (rest : Leftover D g) → FindsNoneAgain stopped fault rest
      → IsBrokerless held visits fault rest
  IsBrokerless-of_none_found held visits stopped so_far (run_fault.Open fault) (left.Store store) none = record {
    works = last held visits stopped so_far ∷ so_far.before;
    connection = none.0;
    end = none.1;
    starts = (so_far.connection, stopped, so_far.starts, works held visits stopped so_far, none.2);
    all = so_far.all;
    fails = none.3;
    left = none.4;
  }
  IsBrokerless-of_none_found held visits stopped so_far (run_fault.Open fault) (left.Files files) none = none
  IsBrokerless-of_none_found held visits stopped so_far (run_fault.Open fault) (left.Unopened it) none = none
  IsBrokerless-of_none_found held visits stopped so_far _ rest none = absurd none

  pub ServesNoMore-not_reopened : (held : Image) (visits : List Visit) (stopped : BrokerView (FileStore D g)) (fault : RunFault) (rest : Leftover D g) (seed : Option NoSeed) → IsTrue stopped.is_stopped → FailsToReopen stopped fault rest seed
      → ServesSoFar held visits stopped → ServesNoMore held visits fault rest seed
  unfolding over to
  ServesNoMore-not_reopened held visits stopped fault rest seed is (inl shut) so_far = inl (record {
    store = shut.0;
    served = (over held visits stopped so_far (left.Store shut.0) shut.1, is);
    shut = shut.2;
  })
  ServesNoMore-not_reopened held visits stopped fault rest seed is (inr none) so_far = inr (IsBrokerless-of_none_found held visits stopped so_far fault rest none)

  -- the file of the broker that served last couldn't be closed
  pub StaysUnclosed-of_not_closed : (held : Image) (visits : List Visit) (end : BrokerView (FileStore D g)) (fault : RunFault) (store : FileStore D g) → ServesSoFar held visits end → IsNotClosed end.connection fault store
      → StaysUnclosed held visits fault store
  StaysUnclosed-of_not_closed held visits end fault store so_far closes = to held visits end so_far (λ conn. IsNotClosed conn fault store) closes

  pub ServesOver-closed : (held : Image) (visits : List Visit) (end : BrokerView (FileStore D g)) (files : Files D) → ServesSoFar held visits end → ClosesAs end.connection files
      → ServesOver g held visits (left.Files files)
  ServesOver-closed held visits end files so_far closes = over held visits end so_far (left.Files files) closes

  -- the broker there was opened, and given up without a peer
  pub IsLeftUnserved-given_back : (held : Image) (broker : BrokerView (FileStore D g)) (store : FileStore D g) → OpensBroker held broker
      → HasCleanDisk (file_state broker.connection) × IsGivenBack g broker.connection store → IsLeftUnserved held store
  IsLeftUnserved-given_back held broker store opens given =
      let early : HasCleanDisk (file_state opens.0) = omega (arith, given.0, opens.2.tables.survives.clean) in
      record { connection = opens.0; broker = broker; starts = opens.1 early; opened = opens.2; clean = given.0; left = given.1 }

None-ne_some : {T : Type 0} (x : T) → None ≢ Some x
None-ne_some {T} x is = subst (λ (o : Option T). MatchOption o (Unit {0}) (λ _. ⊥)) is tt

module _ {D L : Type 0} (g : Ghosts D) (later : Ghosts L) where
  -- all that came were served over the files
  pub ServesQueue-all : (held : Image) (old new : Queue) (found : Option (Files D)) (files : Files D) → found ≡ Some files → IfSome found (λ _. length new.coming ≡ 0) → ServesAll g held old new found
      → ServesQueue g later held old new (Some files)
  ServesQueue-all held old new None files is all it = absurd (None-ne_some files is)
  ServesQueue-all held old new (Some kept) files is all it =
      let file = subst (λ (f : Option (Files D)). ServesVisits g held it.0.visits f) is it.1 in
      record { visits = it.0.visits; visited = it.0.visited; all = all; served = λ visit is. inl (it.0.served visit is); file = file }

  -- or others once a sync of the files failed
  LosesFiles-append : (held : Image) (first more : List Visit) → LosesFiles g held first → LosesFiles g held (first ++ more)
  LosesFiles-append held first more lost =
      (lost.0, lost.1 ++ more, ap (λ visits. visits ++ more) lost.2 ∙ append_assoc lost.0 lost.1 more, lost.3, lost.4, lost.5)

  Contains-served_later : (old mid new : Queue) (it : ServesBetween g old mid) (more : ServesBetween later mid new) (visit : Visit) → Contains (it.visits ++ more.visits) visit → IsPeerOf g visit ⊎ IsPeerOf later visit
  Contains-served_later old mid new it more visit is =
      elim (Contains-append_cases it.visits more.visits visit is) [ inl front ↦ inl (it.served visit front) | inr back ↦ inr (more.served visit back) ]

  pub ServesQueue-files_lost : (held : Image) (old mid new : Queue) (found : Option (Files D)) → found ≡ None → length new.coming ≡ 0 → ServesAll g held old mid found → ServesBetween later mid new
      → ServesQueue g later held old new None
  ServesQueue-files_lost held old mid new found none all it more =
      record {
        visits = it.0.visits ++ more.visits;
        visited = AreVisited-append old mid new it.0.visits more.visits it.0.visited more.visited;
        all = all;
        served = Contains-served_later old mid new it.0 more;
        file = LosesFiles-append held it.0.visits more.visits (subst (λ (f : Option (Files D)). ServesVisits g held it.0.visits f) none it.1);
      }

  -- and then the file of the path that was opened failed
  pub CutsQueue-reopening_failed : (held : Image) (old mid new : Queue) (found : Option (Files D)) (fault : RunFault) → found ≡ None → IsReopeningFault fault → ServesAll g held old mid found → ServesBetween later mid new
      → CutsQueue g later held old new fault None None
  CutsQueue-reopening_failed held old mid new found fault none is it more = record {
    visits = it.0.visits ++ more.visits;
    visited = AreVisited-append old mid new it.0.visits more.visits it.0.visited more.visited;
    served = Contains-served_later old mid new it.0 more;
    file = (is, LosesFiles-append held it.0.visits more.visits (subst (λ (f : Option (Files D)). ServesVisits g held it.0.visits f) none it.1));
  }

  -- or the file that was opened first
  pub CutsQueue-first_file : (held : Image) (old new : Queue) (fault : RunFault) (rest : Leftover D g) (seed : Option NoSeed) → CutsAll g held old new fault rest seed → CutsQueue g later held old new fault (Some rest) seed
  CutsQueue-first_file held old new fault rest seed it =
      record { visits = it.0.visits; visited = it.0.visited; served = λ visit is. inl (it.0.served visit is); file = it.1 }

  -- so many connections
  pub ServesFile-counts : (held : Image) (old new : Queue) (all : ℕ) (service : ServiceEnd D) → (length old.went ≡ 0) × (length old.coming + old.lost ≡ all) → ServesQueue g later held old new service.files
      → (service.served ≡ length new.went) × (service.lost ≡ new.lost) → ServesFile g held all service
  ServesFile-counts held old new all service first it counts =
      let went = AreVisited-went_length old new it.visits it.visited in (
        omega (arith, it.visited.count, went, it.all, first.0, first.1, counts.0, counts.1),
        (it.visits, omega (arith, went, first.0, counts.0), it.file),
      )

  pub CutsFile-counts : (held : Image) (old new : Queue) (all : ℕ) (fault : RunFault) (service : CutService D g) → (length old.went ≡ 0) × (length old.coming + old.lost ≡ all)
      → CountsCut g later held old new fault service → CutsFile held all fault service
  CutsFile-counts held old new all fault service first cuts =
      let it = cuts.2 in
      let went = AreVisited-went_length old new it.visits it.visited in (
        length new.coming,
        omega (arith, it.visited.count, went, first.0, first.1, cuts.0, cuts.1),
        (it.visits, omega (arith, went, first.0, cuts.0), it.file),
      )
