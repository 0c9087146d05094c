-- a broker in a file is stopped, on a disk that works, only at a command that was to be done
use Rattle.std.proofs.{Common.{◌≡◌, inl, inr, true, false, IsTrue, List, [], ◌∷◌, ◌++◌, None, refl, sym, ap, ◌∙◌, subst, arith}, Math.Logic.{∥∥₁_elim, ∥∥₁_map}}
use Rattle.std.proofs.lemmas.Bool.{cases_Bool}
use Rattle.sqlite_disk.specs.{declared.Disk.{Ghosts}, Disk.{MoreFaults}}
use Rattle.sqlite_trees.specs.Objects.{catalog_tree}
use Rattle.sqlite.specs.{Files.{IsOpened, file_state, HoldsDatabase}, Held.{Held, IsNew}, Recovery.{Image}, State.{HasCleanDisk}}
use Rattle.sqlite.specs.{declared.FileStore.{FileStore}, Effect.{IsDatabase}, Schema.{Schema}, Start.{FindsIn}, Tree.{Trees}}
use Rattle.table_access.specs.Durability.{IsOnDisk}
use Rattle.broker_core.specs.{Laws.{CallLeaves, Exit, LeavesAll}, Laws.Exit.{NoStep, Stepped, WasCut}, Machine.{Request, is_step}, State.{State as Broker}}
use Rattle.broker_core.specs.declared.answer.Answer.{Answer}
use Rattle.broker_tables.specs.Readable.{IsReadable}
use Rattle.command_facts.specs.Primitives.{broker_primitives}
use Rattle.broker_database.specs.{BrokerView.{BrokerView}, Calls.{Applied}, Sessions.{RunsCalls, exit_of}, Stored.{HoldsState, Stores}}
use Rattle.broker_database.specs.{Causes.{IsToBeDone, StaysReadable}, Life.{IsKeptIn, AreTreesOf, Kept, LifeLeads, Period, PeriodLeads}}
use Rattle.broker_database.{specs.{Life.Kept.{Blank, OfToday}, Life.Period.{Serving}}, proofs.SchemaLemmas.{Lists-unique_schema}}
use Rattle.broker_database.proofs.StoreFailures.{HasFailed-disk_at_fault}
use Rattle.sqlite_store.specs.Laws.{settled_at}
use Rattle.broker_program.specs.{Stops.{AllMayStop, DiskWorked, DiskWorks, StopsOnlyAtChanges, StopsAtChange, MayStop, StopsFrom}, Life.{periods_of}}
use Rattle.broker_program.specs.Serving.{StartsAfter, Work, Works}
use Rattle.broker_program.proofs.CallLemmas.{IsBefore, IsBefore-refl, IsBefore-calls, IsBefore-peers, RunsCalls-work, HasCleanDisk-before_works}
use Rattle.broker_program.proofs.PeriodLemmas.{Begins, Begins-after_works}
use Rattle.broker_core.specs.declared.answer.Answer.TheVariants as answers

-- an answer that is a step ends the call so
exit_of-step : (answer : Answer) → is_step answer ≡ true → exit_of answer ≡ Stepped answer
exit_of-step answers.Store is = cc
exit_of-step answers.Memory is = cc
exit_of-step answers.Pattern is = cc
exit_of-step answers.Stopped is = cc
exit_of-step _ is = refl

-- a command to be done among the later ones is one among all
StopsAtChange-later : (s t : Broker) (r : Request) (exit : Exit) (calls : List (Request × Exit)) → CallLeaves broker_primitives s r exit t → StopsAtChange t calls → StopsAtChange s ((r, exit) ∷ calls)
StopsAtChange-later s t r exit calls leaves stop = record {
  before = (r, exit) ∷ stop.before;
  request = stop.request;
  after = stop.after;
  split = ap (λ (cs : List (Request × Exit)). (r, exit) ∷ cs) stop.split;
  state = stop.state;
  leads = (t, leaves, stop.leads);
  done = stop.done;
}

module _ {D : Type 0} {g : Ghosts D} where
  -- a broker that runs, on an open connection, in a state that can be read back
  pub record RunsIn (s : Broker) (b : BrokerView (FileStore D g)) : Type 0 where
    pub runs : b.is_stopped ≡ false
    pub is_open : IsTrue (file_state b.connection).is_open
    pub unlimited : (file_state b.connection).step_limit ≡ None
    pub held : HoldsState s (file_state b.connection)
    pub readable : IsReadable s

  -- after a call that doesn't stop it, it runs in the state to which the call leads
  RunsIn-after_call : (s : Broker) (r : Request) (given : Answer) (b next : BrokerView (FileStore D g)) → Applied file_state b r.token r.command given next → RunsIn s b
      → HasCleanDisk (file_state next.connection) → ¬ MoreFaults (file_state b.connection).faults (file_state next.connection).faults → next.is_stopped ≡ false
      → (t : Broker) × CallLeaves broker_primitives s r (exit_of given) t × RunsIn t next
  RunsIn-after_call s r given b next applied it clean works runs =
      let one = applied.survives.1 in
      let is_open : IsTrue (file_state next.connection).is_open = elim (one.closes clean it.is_open) [ inl now ↦ now | inr more ↦ absurd (works more) ] in
      let unlimited = one.limit ∙ it.unlimited in
      let runs_in : (t : Broker) → HoldsState t (file_state next.connection) → IsReadable t → RunsIn t next = λ t held readable.
      record { runs = runs; is_open = is_open; unlimited = unlimited; held = held; readable = readable } in
      elim (applied.applies clean it.runs s it.held) [
        | inl steps ↦ (
          steps.next,
          subst (λ (exit : Exit). CallLeaves broker_primitives s r exit steps.next) (sym (exit_of-step given steps.is_machines)) steps.step,
          runs_in steps.next steps.keeps (applied.readable s (record { answer = given; state = steps.next }) it.readable steps.step),
        )
        | inr (inl pattern) ↦ (s, subst (λ (a : Answer). CallLeaves broker_primitives s r (exit_of a) s) (sym pattern.0) refl, runs_in s pattern.2 it.readable)
        | inr (inr (inl memory)) ↦ (s, subst (λ (a : Answer). CallLeaves broker_primitives s r (exit_of a) s) (sym memory.0) refl, runs_in s memory.1 it.readable)
        | inr (inr (inr store)) ↦ absurd (let bad : true ≡ false = sym ((applied.stops it.runs).1 store.0) ∙ runs in cc)
      ]

  pub StopsAtChange-calls : (calls : List (Request × Exit)) (s : Broker) (b end : BrokerView (FileStore D g)) → RunsCalls file_state b calls end → RunsIn s b
      → HasCleanDisk (file_state end.connection) → ¬ MoreFaults (file_state b.connection).faults (file_state end.connection).faults → IsTrue end.is_stopped → StopsAtChange s calls
  StopsAtChange-calls [] s b end same it clean works stopped =
      let bad : true ≡ false = sym stopped ∙ ap (λ (t : BrokerView (FileStore D g)). t.is_stopped) same ∙ it.runs in cc
  StopsAtChange-calls ((r, exit) ∷ calls) s b end (given, next, applied, rest) it clean works stopped =
      let since : IsBefore next.connection end.connection = elim rest [ inl on ↦ IsBefore-calls calls next end on.1 | inr cut ↦ IsBefore-refl next end cut.3 ] in
      let now : HasCleanDisk (file_state next.connection) = omega (arith, clean, since.clean) in
      let first : ¬ MoreFaults (file_state b.connection).faults (file_state next.connection).faults = λ more. works (omega (arith, more, since.counts)) in
      elim (cases_Bool next.is_stopped) [
        | inl stops ↦
            let store = (applied.stops it.runs).0 stops in
            let cut : exit ≡ WasCut = elim rest [ inl on ↦ on.0 ∙ ap exit_of store | inr killed ↦ killed.0 ] in
            let done : IsToBeDone s r.token r.command = elim (applied.failure now it.runs store s (record { held = it.held; readable = it.readable; unlimited = it.unlimited })) [
              | inl failed ↦ elim (HasFailed-disk_at_fault _ _ failed) [ inl more ↦ absurd (first more) | inr shut ↦ absurd (let bad : true ≡ false = sym it.is_open ∙ shut in cc) ]
              | inr lacks ↦ lacks.0
            ] in
            record { before = []; request = r; after = calls; split = ap (λ (e : Exit). (r, e) ∷ calls) cut; state = s; leads = refl; done = done }
        | inr runs ↦ elim rest [
          | inl on ↦
              let later = RunsIn-after_call s r given b next applied it now first runs in
              StopsAtChange-later s later.0 r exit calls (subst (λ (e : Exit). CallLeaves broker_primitives s r e later.0) (sym on.0) later.1)
              (StopsAtChange-calls calls later.0 next end on.1 later.2 clean (λ more. works (omega (arith, more, applied.survives.1.counts))) stopped)
          | inr cut ↦ let bad : true ≡ false = sym stopped ∙ ap (λ (t : BrokerView (FileStore D g)). t.is_stopped) cut.3 ∙ runs in cc
        ]
      ]

  -- the broker that was opened runs in the state that the connection held
  pub StopsAtChange-opened : (work : Work) (conn : Held (FileStore D g)) (end : BrokerView (FileStore D g)) (it : Works work conn end) (s : Broker) → IsOpened conn → IsNew conn
      → HasCleanDisk (file_state end.connection) → DiskWorks g conn end.connection → HoldsState s (file_state conn) → IsReadable s → IsTrue end.is_stopped → StopsAtChange s work.calls
  StopsAtChange-opened work conn end it s opened fresh clean works held readable stopped =
      let since = IsBefore-peers work conn end it in
      let early : HasCleanDisk (file_state it.broker.connection) = omega (arith, clean, since.clean) in
      let opens = it.opened.tables.survives in
      let first : ¬ MoreFaults (file_state conn).faults (file_state it.broker.connection).faults = λ more. works (omega (arith, more, since.counts)) in
      StopsAtChange-calls work.calls s it.broker end (RunsCalls-work work conn end it) (record {
        runs = it.opened.runs;
        is_open = elim (opens.closes early opened.0.is_open) [ inl now ↦ now | inr more ↦ absurd (first more) ];
        unlimited = opens.limit ∙ fresh.unlimited;
        held = it.opened.holds early s held;
        readable = readable;
      }) clean (λ more. works (omega (arith, more, opens.counts))) stopped

-- ---- the state over one opening after another

-- the last of the periods, and those before it
LifeLeads-split_last : (old new : Kept) (life : List Period) (period : Period) → LifeLeads old (life ++ (period ∷ [])) new → (mid : Kept) × LifeLeads old life mid × PeriodLeads mid period new
LifeLeads-split_last old new [] period it = (old, refl, subst (λ (k : Kept). PeriodLeads old period k) (sym it.2) it.1)
LifeLeads-split_last old new (first ∷ life) period it =
    let more = LifeLeads-split_last it.0 new life period it.2 in (more.0, (it.0, it.1, more.1), more.2)

CallLeaves-readable : (s t : Broker) (r : Request) (exit : Exit) → StaysReadable r.token r.command → CallLeaves broker_primitives s r exit t → IsReadable s → IsReadable t
CallLeaves-readable s t r (Stepped answer) stays leaves readable = stays s (record { answer = answer; state = t }) readable leaves
CallLeaves-readable s t r NoStep stays leaves readable = subst IsReadable (sym leaves) readable
CallLeaves-readable s t r WasCut stays (inl same) readable = subst IsReadable (sym same) readable
CallLeaves-readable s t r WasCut stays (inr step) readable = stays s (record { answer = step.0; state = t }) readable step.1

module _ {D : Type 0} (g : Ghosts D) (stays : (file : D) → g.may_leave file (g.seen file)) where
  -- commands lead from a state that can be read back to one that can
  LeavesAll-readable : (calls : List (Request × Exit)) (b end : BrokerView (FileStore D g)) → RunsCalls file_state b calls end → (s t : Broker) → LeavesAll broker_primitives s calls t → IsReadable s → IsReadable t
  LeavesAll-readable [] b end same s t leaves readable = subst IsReadable (sym leaves) readable
  LeavesAll-readable ((r, exit) ∷ calls) b end it s t leaves readable =
      let now = CallLeaves-readable s leaves.0 r exit it.2.readable leaves.1 readable in
      elim it.3 [
        | inl on ↦ LeavesAll-readable calls it.1 end on.1 leaves.0 t leaves.2 now
        | inr cut ↦
            let last : LeavesAll broker_primitives leaves.0 [] t = subst (λ (cs : List (Request × Exit)). LeavesAll broker_primitives leaves.0 cs t) cut.2 leaves.2 in
            subst IsReadable (sym last) now
      ]

  -- so do the openings, one after another
  abbrev IsToday : Kept → Type 0
  IsToday kept = (s : Broker) × (kept ≡ OfToday s) × IsReadable s

  LifeLeads-readable : (held : Image) (works : List Work) (conn : Held (FileStore D g)) → StartsAfter held works conn → (first : Broker) → IsReadable first → (new : Kept) → LifeLeads (OfToday first) (periods_of works) new → IsToday new
  LifeLeads-readable held [] conn it first readable new same = (first, same, readable)
  LifeLeads-readable held (work ∷ works) conn it first readable new leads =
      let split = LifeLeads-split_last (OfToday first) new (periods_of works) (Serving work.calls) leads in
      let before = LifeLeads-readable held works it.0 it.2 first readable split.0 split.1 in
      let runs : PeriodLeads (OfToday before.0) (Serving work.calls) new = subst (λ (k : Kept). PeriodLeads k (Serving work.calls) new) before.1 split.2 in
      (runs.0, runs.3, LeavesAll-readable work.calls it.3.broker it.1 (RunsCalls-work work it.0 it.1 it.3) before.0 runs.0 runs.2 before.2)

  -- a connection that was opened on files which keep a state holds it
  HoldsState-opened_file : (s : Broker) (held : Image) (conn : Held (FileStore D g)) → (trees : Trees) → HoldsDatabase held trees → AreTreesOf (OfToday s) trees → IsOpened conn → FindsIn held (file_state conn) → HoldsState s (file_state conn)
  HoldsState-opened_file s held conn trees holds are opened finds =
      let c = file_state conn in
      let found : c.committed.trees ≡ trees = finds.holds trees holds in
      let sound : IsDatabase c.committed = (opened.1 opened.0.is_open).1 in
      let on : IsOnDisk (λ db. Stores db s) c.committed.trees = subst (IsOnDisk (λ db. Stores db s)) (sym found) are in
      let schema = Lists-unique_schema (c.committed.trees catalog_tree) on.schema c.committed.schema on.sound.lists sound.lists (ap (λ (x : Schema). x.views) on.has.tables.broker.schema) in
      let has : Stores c.committed s = subst (λ (x : Schema). Stores (record { schema = x; trees = c.committed.trees }) s) schema on.has in
      record {
        held = λ _. record { autocommit = opened.0.autocommit; same = opened.0.clean; sound = sound; has = has };
        left = λ t may. subst (IsOnDisk (λ db. Stores db s)) (sym (settled_at conn.store stays t opened.0.is_open may)) on;
      }

  abbrev HoldsToday : Broker → List Work → Held (FileStore D g) → Type 0
  HoldsToday first works conn = (s : Broker) × LifeLeads (OfToday first) (periods_of works) (OfToday s) × IsReadable s × HoldsState s (file_state conn)

  HoldsToday-starts_after : (first : Broker) (held : Image) (works : List Work) (conn : Held (FileStore D g)) → IsReadable first → IsKeptIn (OfToday first) held → StartsAfter held works conn → HasCleanDisk (file_state conn) → ∥ HoldsToday first works conn ∥₁
  HoldsToday-starts_after first held works conn readable are it clean =
      ∥∥₁_elim (Begins-after_works g stays (OfToday first) held works conn are it clean) squash₁ (λ (one : Begins g stays (OfToday first) (periods_of works) conn).
      let today = LifeLeads-readable held works conn it first readable one.1.0 one.1.1 in
      let leads = subst (λ (k : Kept). LifeLeads (OfToday first) (periods_of works) k) today.1 one.1.1 in
      ∥∥₁_map (subst (λ (k : Kept). IsKeptIn k one.0) today.1 one.1.2) (λ keeps. elim keeps [
        | inl some ↦ let r : HoldsToday first works conn = (today.0, leads, today.2, HoldsState-opened_file today.0 one.0 conn some.0 some.1 some.2 one.2 one.3) in r
        | inr none ↦ absurd (let bad : OfToday today.0 ≡ Blank = none.0 in cc)
      ]))

  -- a connection is as it is opened, whichever opening it is
  StartsAfter-fresh : (held : Image) (works : List Work) (conn : Held (FileStore D g)) → StartsAfter held works conn → HasCleanDisk (file_state conn) → IsOpened conn × IsNew conn
  StartsAfter-fresh held [] conn it clean = let starts = it clean in (starts.opened, starts.fresh)
  StartsAfter-fresh held (work ∷ works) conn it clean = let opens = it.4 clean in (opens.after.2, opens.fresh)

  MayStop-works : (first : Broker) (held : Image) (work : Work) (works : List Work) (conn : Held (FileStore D g)) (end : BrokerView (FileStore D g)) → IsReadable first → IsKeptIn (OfToday first) held
      → StartsAfter held works conn → Works work conn end → HasCleanDisk (file_state end.connection) → DiskWorks g conn end.connection → IsTrue end.is_stopped → MayStop first work works
  MayStop-works first held work works conn end readable are starts does clean disk stopped =
      let early = HasCleanDisk-before_works work conn end does clean in
      let fresh = StartsAfter-fresh held works conn starts early in
      ∥∥₁_map (HoldsToday-starts_after first held works conn readable are starts early) (λ (it : HoldsToday first works conn).
      let r : StopsFrom first work works = (it.0, it.1, StopsAtChange-opened work conn end does it.0 fresh.0 fresh.1 clean disk it.3 it.2 stopped) in r)

  AllMayStop-works : (first : Broker) (held : Image) (works : List Work) (conn : Held (FileStore D g)) → IsReadable first → IsKeptIn (OfToday first) held → (starts : StartsAfter held works conn)
      → HasCleanDisk (file_state conn) → DiskWorked g held works conn starts → AllMayStop first works
  AllMayStop-works first held [] conn readable are starts clean worked = tt
  AllMayStop-works first held (work ∷ works) conn readable are starts clean worked =
      let opens = starts.4 clean in (
        MayStop-works first held work works starts.0 starts.1 readable are starts.2 starts.3 opens.clean worked.0 opens.stops,
        AllMayStop-works first held works starts.0 readable are starts.2 (HasCleanDisk-before_works work starts.0 starts.1 starts.3 opens.clean) worked.1,
      )

  pub StopsOnlyAtChanges-holds : StopsOnlyAtChanges g
  StopsOnlyAtChanges-holds first held visits rest it readable are to_the_end worked works =
      let clean = (it.ends.ends to_the_end).0 in (
        AllMayStop-works first held it.before it.connection readable are it.starts (HasCleanDisk-before_works it.last it.connection it.end it.works clean) worked,
        λ stopped. MayStop-works first held it.last it.before it.connection it.end readable are it.starts it.works clean works stopped,
      )
