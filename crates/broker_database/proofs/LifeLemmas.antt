-- What files keep over any number of periods.
use Rattle.std.{specs.Coded.{coded_list}, proofs.lemmas.List.{length-take}}
use Rattle.std.proofs.Common.{codes, get_or-take, slice_index, take, unwrap_or, ◌≤◌, OnOk, IfErr, ◌≡◌, ◌≢◌, ◌<◌, ◌⊎◌, inl, inr, ℕ, List, [], ◌∷◌, ◌++◌, map, ◌==◌, length, Option, Some, None, Result, Ok, Err, true, false, IsTrue, refl, sym, subst, ap, ◌∙◌, arith}
use Rattle.std.proofs.{Math.Logic.{∥∥₁_elim, ∥∥₁_map}, Math.Path.{fun_ext}}
use Rattle.sqlite_disk.specs.{declared.Disk.{Ghosts}, declared.Files.{Files}}
use Rattle.sqlite_trees.specs.Objects.{catalog_tree}
use Rattle.sqlite_value.specs.contracts.row.Row.{the_row}
use Rattle.sqlite.specs.{Tree.{Trees}, Recovery.{Image}, Schema.{Schema}, Effect.{Database, IsDatabase}, declared.FileStore.{FileStore}}
use Rattle.sqlite.specs.{declared.file.Leftover.{Leftover}, Held.{Held, AreDatabases}, Start.{FindsIn}, State.{State, HasCleanDisk}}
use Rattle.sqlite.specs.Files.{HoldsDatabase, AreFoundIn, LeavesFiles, IsNothing, IsOpened, IsEmpty, file_state, image_of}
use Rattle.sqlite.proofs.{ListingLemmas.{empty_is_sound}, Theorems.{opens_again}, FileLemmas.{is_something}}
use Rattle.sqlite_catalog.specs.Listing.{IsSound}
use Rattle.sqlite_store.specs.{Laws.{settled_at, stays_at}, Listing.{IsOurs}, declared.catalog.Wanted.{Wanted}, FileStore.{recovers}, Unopened.{state_of}}
use Rattle.sqlite_store.specs.declared.store.open.Unopened.{Unopened}
use Rattle.sqlite_pool.specs.{File.{header_in}, Header.{first_page}, Stored.{Adopts, sealed, stored_size, used_size}, StoredLaws.{trimmed_some}}
use Rattle.sqlite_pool.proofs.ProbeLemmas.{first_byte}
use Rattle.sqlite_pages.specs.PageMap.{PageMap}
use Rattle.sqlite_wal.proofs.{AppendLemmas.{some_value}, CreateLemmas.{begun_is_not_blank}}
use Rattle.table_access.specs.Durability.{HoldsDurably, IsOnDisk}
use Rattle.broker_core.specs.{Text.{Text}, Machine.{Request}, State.{State as Broker, opening}, Laws.{Exit, LeavesSessions}}
use Rattle.broker_core.proofs.{DoneLemmas.{SessionsRun-holds}, SessionLemmas.{sessions, RunsOnce-holds}}
use Rattle.broker_tables.specs.{Format1.{format_1, format_1_tables}, Holds.{format}, Making.{IsBlank, IsMarked}, Schema.{no_schema, schema_of, broker_schema}}
use Rattle.command_facts.specs.Primitives.{broker_primitives}
use Rattle.broker_database.specs.{BrokerView.{BrokerView}, Calls.{Created, Opened, Migrated}, Ends.{AddsNoCrashState}, Handed.{verdict}}
use Rattle.broker_database.specs.Life.{Kept, Period, calls_of, RunsFrom, LeavesAsWas, PeriodLeads, LifeLeads, BeginsFrom, sessions_in, LivesRun, AreTreesOf, PeriodRuns, PeriodsLead, MayLeave, EndsAs, HoldsAsBefore, IsKeptIn, LeavesUnopened, OpenedFilesHold, IsUnharmed, OpeningSpares, PeriodLeaves, Programs, ProgramsLead, RunsOver}
use Rattle.broker_database.specs.{Life.Kept.{Blank, OfFormat1, OfToday}, Life.Period.{Serving, Making, Migrating, NotOpened}}
use Rattle.broker_database.specs.{Migration.{StoresFormat1, IsFormat1}, Opening.{Refuses, Judged, judgement}, Sessions.{IsOpenedOn, GivenRuns}}
use Rattle.broker_database.specs.{Stored.{Stores, HoldsState}, declared.opening.Refused.{Refused}, declared.opening.OpenFault.{OpenFault}}
use Rattle.broker_database.proofs.{Judgements.{Finds-blank_none, Finds-marked}, MigrationLemmas.{IsMarked-of_format_1, HoldsDurably-now}}
use Rattle.broker_database.proofs.{SchemaLemmas.{Lists-unique_schema}, SessionLemmas.{GivenRuns-clean, Leads-of_given}}
use Rattle.broker_database.proofs.Transaction.{AddsNoCrashState-of_survives}
use base.Stored.{Coded-set}
use Rattle.sqlite.specs.declared.file.Leftover.TheVariants as left
use Rattle.broker_database.specs.declared.opening.OpenFault.TheVariants as fault

-- ---- the trees that a connection was opened on

module _ (trees : Trees) (c : State) (it : IsOpenedOn trees c) (settled : (t : Trees) → IsTrue c.is_open → c.may_leave t → t ≡ c.committed.trees) where
  -- a connection on trees that are of a kind holds them, and has the schema of that kind
  HoldsDurably-of_opened : (P : Database → Type 0) → ((db : Database) → P db → db.schema.views ≡ []) → IsOnDisk P trees → HoldsDurably P c
  HoldsDurably-of_opened P plain found =
      let sound : IsDatabase c.committed = (it.live it.opens.is_open).1 in
      let on : IsOnDisk P c.committed.trees = subst (IsOnDisk P) (sym it.found) found in
      let schema = Lists-unique_schema (c.committed.trees catalog_tree) on.schema c.committed.schema on.sound.lists sound.lists (plain _ on.has) in
      let has : P c.committed = subst (λ (x : Schema). P (record { schema = x; trees = c.committed.trees })) schema on.has in
      record {
        held = λ _. record { autocommit = it.opens.autocommit; same = it.opens.clean; sound = sound; has = has };
        left = λ t may. subst (IsOnDisk P) (sym (settled t it.opens.is_open may)) on;
      }

  HoldsDurably-blank : IsOnDisk IsBlank trees → HoldsDurably IsBlank c
  HoldsDurably-blank = HoldsDurably-of_opened IsBlank (λ db is. ap (λ (x : Schema). x.views) is.schema)

  HoldsDurably-format_1 : (s : Broker) → IsOnDisk (λ db. StoresFormat1 db s) trees → HoldsDurably (λ db. StoresFormat1 db s) c
  HoldsDurably-format_1 s = HoldsDurably-of_opened (λ db. StoresFormat1 db s) (λ db is. ap (λ (x : Schema). x.views) is.tables.schema)

  HoldsDurably-today : (s : Broker) → IsOnDisk (λ db. Stores db s) trees → HoldsDurably (λ db. Stores db s) c
  HoldsDurably-today s = HoldsDurably-of_opened (λ db. Stores db s) (λ db is. ap (λ (x : Schema). x.views) is.tables.broker.schema)

  -- it has no table, or some
  schema-no_table : IsOnDisk IsBlank trees → c.now.schema ≡ no_schema
  schema-no_table are = (HoldsDurably-now IsBlank c (HoldsDurably-blank are) it.opens.is_open).schema

  schema-some_table : (P : Database → Type 0) (schema : Schema) → ((db : Database) → P db → db.schema ≡ schema) → (length schema.tables == 0) ≡ false → HoldsDurably P c → ¬ (c.now.schema ≡ no_schema)
  schema-some_table P schema has some held none =
      let both : schema ≡ no_schema = sym (has c.now (HoldsDurably-now P c held it.opens.is_open)) ∙ none in
      absurd (let wrong : (length schema.tables == 0) ≡ true = ap (λ (x : Schema). length x.tables == 0) both in cc)

-- what is true of each database of a kind is true of what is held of that kind
HoldsDurably-weaker : (P Q : Database → Type 0) (c : State) → ((db : Database) → P db → Q db) → HoldsDurably P c → HoldsDurably Q c
HoldsDurably-weaker P Q c f h = record {
  held = λ now. let it = h.held now in record { autocommit = it.autocommit; same = it.same; sound = it.sound; has = f c.committed it.has };
  left = λ t may. let d = h.left t may in record { schema = d.schema; sound = d.sound; has = f _ d.has };
}

IsMarked-of_stores : (db : Database) (s : Broker) → Stores db s → IsMarked format s.office db
IsMarked-of_stores db s held = record { tables = _; indexes = _; schema = held.tables.broker.schema; row = held.tables.meta }

-- a database is opened only if it is judged so
Judged-not_ok : (found : Option ℕ) (v : Result (Unit {0}) OpenFault) → judgement format found ≢ Ok tt → Judged format found v → v ≢ Ok tt
Judged-not_ok found v other (inl is) ok = other (sym is ∙ ok)
Judged-not_ok found v other (inr (inl is)) ok = absurd (let wrong : Err fault.Memory ≡ Ok tt = sym is ∙ ok in cc)
Judged-not_ok found v other (inr (inr is)) ok = absurd (let wrong : Err fault.Store ≡ Ok tt = sym is ∙ ok in cc)

-- ---- a period on trees

module _ {X : Type 0} (shown : Held X → State) (settled : (c : Held X) (t : Trees) → IsTrue (shown c).is_open → (shown c).may_leave t → t ≡ (shown c).committed.trees) where
  module _ (first last : Held X) (trees end : Trees) (on : IsOpenedOn trees (shown first)) (clean : HasCleanDisk (shown last)) (may : (shown last).may_leave end) where
    -- nothing more may be left, so what was kept is
    as_was : (kept : Kept) → AreTreesOf kept trees → AddsNoCrashState (shown first) (shown last) → AreTreesOf kept end
    as_was kept are less = subst (AreTreesOf kept) (sym (settled first end on.opens.is_open (less end may) ∙ on.found)) are

    -- there is no broker, and nothing more may be left
    refused : (old : Kept) (r : Refused X) (calls : List (Request × Exit)) → AreTreesOf old trees → AddsNoCrashState (shown first) (shown r.connection)
        → GivenRuns shown (Err r) calls last → (new : Kept) × LeavesAsWas old calls new × AreTreesOf new end
    refused old r calls are less it = (old, (it.0, refl), as_was old are (subst (λ (c : Held X). AddsNoCrashState (shown first) (shown c)) it.1 less))

    -- commands were run from a state that the broker held
    ran : (s : Broker) (b : BrokerView X) (calls : List (Request × Exit)) → b.is_stopped ≡ false → HoldsState s (shown b.connection)
        → GivenRuns shown (Ok b) calls last → (new : Kept) × RunsFrom s calls new × AreTreesOf new end
    ran s b calls running holds it = let led = Leads-of_given shown s b calls last end running holds it clean may in (OfToday led.0, (led.0, led.1, led.2, refl), led.3)

    ran_none : (s : Broker) (calls : List (Request × Exit)) → calls ≡ [] → RunsFrom s calls (OfToday s)
    ran_none s calls none = subst (λ (cs : List (Request × Exit)). RunsFrom s cs (OfToday s)) (sym none) (s, tt, refl, refl)

    serves_today : (s : Broker) (given : Result (BrokerView X) (Refused X)) (calls : List (Request × Exit)) → IsOnDisk (λ db. Stores db s) trees → Opened shown first given
        → GivenRuns shown given calls last → (new : Kept) × RunsFrom s calls new × AreTreesOf new end
    serves_today s (Ok b) calls are opened it =
        ran s b calls opened.runs (opened.holds (GivenRuns-clean shown (Ok b) calls last it clean) s (HoldsDurably-today trees (shown first) on (settled first) s are)) it
    serves_today s (Err r) calls are opened it =
        let less = AddsNoCrashState-of_survives _ _ opened.tables.survives (GivenRuns-clean shown (Err r) calls last it clean) in
        (OfToday s, ran_none s calls it.0, as_was (OfToday s) are (subst (λ (c : Held X). AddsNoCrashState (shown first) (shown c)) it.1 less))

    -- a database of another kind is not opened
    serves_none : (old : Kept) (given : Result (BrokerView X) (Refused X)) (calls : List (Request × Exit)) → AreTreesOf old trees → Opened shown first given
        → verdict given ≢ Ok tt → GivenRuns shown given calls last → (new : Kept) × LeavesAsWas old calls new × AreTreesOf new end
    serves_none old (Ok b) calls are opened never it = absurd (never refl)
    serves_none old (Err r) calls are opened never it = refused old r calls are (AddsNoCrashState-of_survives _ _ opened.tables.survives (GivenRuns-clean shown (Err r) calls last it clean)) it

    -- if there are tables, no broker is made
    makes_none : (old : Kept) (office : Text) (given : Result (BrokerView X) (Refused X)) (calls : List (Request × Exit)) → AreTreesOf old trees → Created shown first office given
        → ¬ ((shown first).now.schema ≡ no_schema) → GivenRuns shown given calls last → (new : Kept) × LeavesAsWas old calls new × AreTreesOf new end
    makes_none old office (Ok b) calls are made some it = absurd (let no = made.tables.not_empty.1 some in cc)
    makes_none old office (Err r) calls are made some it =
        refused old r calls are (subst (λ (c : Held X). AddsNoCrashState (shown first) (shown c)) (sym (made.tables.same (made.tables.not_empty.1 some))) (λ t may. may)) it

    makes_new : (office : Text) (given : Result (BrokerView X) (Refused X)) (calls : List (Request × Exit)) → IsOnDisk IsBlank trees → Created shown first office given
        → GivenRuns shown given calls last → (new : Kept) × (LeavesAsWas Blank calls new ⊎ RunsFrom (opening office) calls new) × AreTreesOf new end
    makes_new office (Ok b) calls are made it =
        let led = ran (opening office) b calls made.runs (made.tables.made (GivenRuns-clean shown (Ok b) calls last it clean) (HoldsDurably-blank trees (shown first) on (settled first) are)).0 it in
        (led.0, inr led.1, led.2)
    makes_new office (Err r) calls are made it =
        by r.fault (made.tables.refuses (GivenRuns-clean shown (Err r) calls last it clean) (HoldsDurably-blank trees (shown first) on (settled first) are) (schema-no_table trees (shown first) on (settled first) are))
      where
        may_here : (shown r.connection).may_leave end
        may_here = subst (λ (c : Held X). (shown c).may_leave end) (sym it.1) may

        by : (f : OpenFault) → Refuses IsBlank (λ db. Stores db (opening office)) (shown r.connection) f → (new : Kept) × (LeavesAsWas Blank calls new ⊎ RunsFrom (opening office) calls new) × AreTreesOf new end
        by fault.Memory kept = (Blank, inl (it.0, refl), kept.left end may_here)
        by fault.Store either = elim (either.left end may_here) [
          | inl blank ↦ (Blank, inl (it.0, refl), blank)
          | inr new ↦ (OfToday (opening office), inr (ran_none (opening office) calls it.0), new)
        ]
        by fault.NotEmpty never = absurd never
        by fault.NotABroker never = absurd never
        by (fault.Format n) never = absurd never

    -- ---- a migration

    migrates_format_1 : (s : Broker) (given : Result (Unit {0}) OpenFault) → IsOnDisk (λ db. StoresFormat1 db s) trees → Migrated shown first last given
        → (new : Kept) × PeriodLeads (OfFormat1 s) Migrating new × AreTreesOf new end
    migrates_format_1 s given are migrated = by given (migrated.migrates clean s held) (migrated.refuses clean s held)
      where
        held : HoldsDurably (λ db. StoresFormat1 db s) (shown first)
        held = HoldsDurably-format_1 trees (shown first) on (settled first) s are

        by : (r : Result (Unit {0}) OpenFault) → OnOk r (HoldsState s (shown last)) → IfErr r (Refuses (λ db. StoresFormat1 db s) (λ db. Stores db s) (shown last)) → (new : Kept) × PeriodLeads (OfFormat1 s) Migrating new × AreTreesOf new end
        by (Ok u) now is = (OfToday s, inr refl, now.left end may)
        by (Err fault.Memory) now kept = (OfFormat1 s, inl refl, kept.left end may)
        by (Err fault.Store) now either = elim (either.left end may) [ inl is ↦ (OfFormat1 s, inl refl, is) | inr is ↦ (OfToday s, inr refl, is) ]
        by (Err fault.NotEmpty) now never = absurd never
        by (Err fault.NotABroker) now never = absurd never
        by (Err (fault.Format n)) now never = absurd never

  -- ---- a period

  pub PeriodsLead-holds : PeriodsLead shown
  PeriodsLead-holds (OfToday s) (Serving calls) first last trees end are on it clean may = serves_today first last trees end on clean may s it.0 calls are it.1 it.2
  PeriodsLead-holds (OfFormat1 s) (Serving calls) first last trees end are on it clean may =
      let held = HoldsDurably-weaker (λ db. StoresFormat1 db s) (IsMarked format_1 s.office) (shown first) (λ db is. IsMarked-of_format_1 db s is.tables) (HoldsDurably-format_1 trees (shown first) on (settled first) s are) in
      let judged = it.1.tables.marked (GivenRuns-clean shown it.0 calls last it.2 clean) format_1 s.office (λ same. absurd (let wrong : format_1 ≡ format = same in cc)) held in
      serves_none first last trees end on clean may (OfFormat1 s) it.0 calls are it.1 (Judged-not_ok (Some format_1) (verdict it.0) (λ ok. let wrong : Err (fault.Format format_1) ≡ Ok tt = ok in cc) judged) it.2
  PeriodsLead-holds Blank (Serving calls) first last trees end are on it clean may =
      let judged = it.1.tables.blank (GivenRuns-clean shown it.0 calls last it.2 clean) (HoldsDurably-blank trees (shown first) on (settled first) are) in
      serves_none first last trees end on clean may Blank it.0 calls are it.1 (Judged-not_ok None (verdict it.0) (λ ok. let wrong : Err fault.NotABroker ≡ Ok tt = ok in cc) judged) it.2
  PeriodsLead-holds (OfToday s) (Making office calls) first last trees end are on it clean may =
      let some = schema-some_table trees (shown first) on (settled first) (λ db. Stores db s) broker_schema (λ db is. is.tables.broker.schema) refl (HoldsDurably-today trees (shown first) on (settled first) s are) in
      makes_none first last trees end on clean may (OfToday s) office it.0 calls are it.1 some it.2
  PeriodsLead-holds (OfFormat1 s) (Making office calls) first last trees end are on it clean may =
      let some = schema-some_table trees (shown first) on (settled first) (λ db. StoresFormat1 db s) (schema_of (format_1_tables ++ [])) (λ db is. is.tables.schema) refl (HoldsDurably-format_1 trees (shown first) on (settled first) s are) in
      makes_none first last trees end on clean may (OfFormat1 s) office it.0 calls are it.1 some it.2
  PeriodsLead-holds Blank (Making office calls) first last trees end are on it clean may = makes_new first last trees end on clean may office it.0 calls are it.1 it.2
  PeriodsLead-holds (OfToday s) Migrating first last trees end are on it clean may =
      let marked = IsMarked-of_stores (shown first).now s (HoldsDurably-now (λ db. Stores db s) (shown first) (HoldsDurably-today trees (shown first) on (settled first) s are) on.opens.is_open) in
      let other : ¬ (IsFormat1 (shown first).now) = λ of_1. absurd (let wrong : Some format_1 ≡ Some format = Finds-marked format s.office (shown first).now (Some format_1) marked of_1.0 in cc) in
      (OfToday s, (refl, refl), as_was first last trees end on clean may (OfToday s) are (it.1.spares clean other))
  PeriodsLead-holds (OfFormat1 s) Migrating first last trees end are on it clean may = migrates_format_1 first last trees end on clean may s it.0 are it.1
  PeriodsLead-holds Blank Migrating first last trees end are on it clean may =
      let other : ¬ (IsFormat1 (shown first).now) = λ of_1. absurd (let wrong : Some format_1 ≡ None = Finds-blank_none (shown first).now (Some format_1) (schema-no_table trees (shown first) on (settled first) are) of_1.0 in cc) in
      (Blank, (refl, refl), as_was first last trees end on clean may Blank are (it.1.spares clean other))
  PeriodsLead-holds old NotOpened first last trees end are on it clean may = absurd it

-- ---- the same of the files

-- a period in which the files weren't opened
PeriodLeads-not_opened : (old : Kept) → PeriodLeads old NotOpened old
PeriodLeads-not_opened (OfToday s) = (refl, refl)
PeriodLeads-not_opened (OfFormat1 s) = (refl, refl)
PeriodLeads-not_opened Blank = (refl, refl)

-- trees without an entry have no tables
IsOnDisk-blank : (trees : Trees) → IsEmpty trees → IsOnDisk IsBlank trees
IsOnDisk-blank trees none = let sound = empty_is_sound trees none.1 in record { schema = no_schema; sound = sound; has = record { schema = refl; sound = sound } }

-- files in which pages of a database are found aren't nothing: their first page begins as one does
module _ (size : ℕ) (image : Image) (pages : PageMap) (wanted : List Wanted) (adopts : Adopts size image pages) (ours : IsOurs size true wanted pages) where
  stored-first_page : (page : List ℕ) → adopts.stored 1 ≡ Some page → (1 < stored_size size) × (slice_index page 0 ≡ 83)
  stored-first_page page is =
      let used : pages 1 ≡ Some (take size page) = ap (λ (p : PageMap). p 1) (sym adopts.shows) ∙ trimmed_some size _ 1 page is in
      let head : header_in pages ≡ take 100 (take size page) = ap (λ (o : Option (List ℕ)). take 100 (unwrap_or o [])) used in
      let magic : take 16 (take 100 (take size page)) ≡ codes "SQLite format 3" ++ 0 ∷ [] = ap (take 16) (sym head) ∙ ours.file.sound.header.0.magic in
      let whole : length (take size page) ≡ size = ours.file.whole.sized 1 (take size page) used in
      let sixteen : length (take 16 (take 100 (take size page))) ≡ 16 = ap length magic in
      let long : 16 ≤ size = omega (arith, sixteen, whole, length-take 16 (take 100 (take size page)), length-take 100 (take size page)) in (
        omega (arith, long),
        sym (get_or-take size page 0 0 (omega arith)) ∙ sym (get_or-take 100 (take size page) 0 0 (omega arith)) ∙ sym (get_or-take 16 (take 100 (take size page)) 0 0 (omega arith)) ∙ ap (λ (bytes : List ℕ). slice_index bytes 0) magic,
      )

  IsNothing-not_if_found : ¬ IsNothing image
  IsNothing-not_if_found nothing =
      let (page, is) = some_value (adopts.stored 1) adopts.whole.first in
      let (big, begins) = stored-first_page page is in
      let never = λ (other : ℕ) (some : 0 < other). let gate = first_byte other some in
      begun_is_not_blank (sealed (first_page other)) page (stored_size size) image adopts.stored adopts.found is (adopts.whole.sized 1 page is) big (begins ∙ sym gate) (λ none. let wrong = sym gate ∙ none in omega arith) in
      elim nothing [ inl plain ↦ never (used_size 4096 false) (omega arith) plain | inr summed ↦ never (used_size 4096 true) (omega arith) summed ]

-- nothing has no entry
IsNothing-found_empty : (image : Image) (trees : Trees) → IsNothing image → AreFoundIn image trees → IsEmpty trees
IsNothing-found_empty image trees nothing (inl found) =
    absurd (∥∥₁_elim found.4 (λ p q. absurd p) (λ (ours : IsOurs found.0 true found.2 found.1). IsNothing-not_if_found found.0 image found.1 found.2 found.3 ours nothing))
IsNothing-found_empty image trees nothing (inr found) = found.1

-- trees are the same if they are so by a thing that is there in some way
trees-same_of_truncated : {A : Type 0} (p q : Trees) → ∥ A ∥₁ → (A → p ≡ q) → p ≡ q
trees-same_of_truncated p q some so = fun_ext (λ n. ∥∥₁_elim some (Coded-set (coded_list the_row.coded) (p n) (q n)) (λ x. ap (λ (t : Trees). t n) (so x)))

-- the trees that the files hold which keep something, or it is nothing
abbrev Holds : Kept → Image → Type 0
Holds kept image = ((trees : Trees) × HoldsDatabase image trees × AreTreesOf kept trees) ⊎ ((kept ≡ Blank) × IsNothing image)

-- what holds the same keeps the same
IsKeptIn-as_before : (kept : Kept) (old new : Image) → IsKeptIn kept old → HoldsAsBefore old new → IsKeptIn kept new
IsKeptIn-as_before kept old new are same = ∥∥₁_elim are squash₁ (λ (it : Holds kept old). elim it [
  | inl found ↦ ∥∥₁_map (same.same found.0 found.1) (λ holds. let r : Holds kept new = inl (found.0, holds, found.2) in r)
  | inr none ↦ ∥∥₁_map (same.none none.1) (λ (now : IsNothing new ⊎ ((trees : Trees) × HoldsDatabase new trees × IsEmpty trees)). elim now [
    | inl nothing ↦ let r : Holds kept new = inr (none.0, nothing) in r
    | inr empty ↦ let r : Holds kept new = inl (empty.0, empty.1, subst (λ (k : Kept). AreTreesOf k empty.0) (sym none.0) (IsOnDisk-blank empty.0 empty.2)) in r
  ])
])

module _ {D : Type 0} (g : Ghosts D) where
  abbrev shown : Held (FileStore D g) → State
  shown = file_state {D = D} {g = g}

  -- what a connection found that was opened on such files
  abbrev Found : Kept → Held (FileStore D g) → Type 0
  Found old conn = (trees : Trees) × AreTreesOf old trees × IsOpenedOn trees (shown conn)

  found : (old : Kept) (held : Image) (conn : Held (FileStore D g)) → IsKeptIn old held → IsOpened conn → FindsIn held (shown conn) → ∥ Found old conn ∥₁
  found old held conn are opened finds = ∥∥₁_map are (λ (it : Holds old held). elim it [
    | inl some ↦ let r : Found old conn = (some.0, some.2, record { opens = opened.0; live = opened.1; found = finds.holds some.0 some.1 }) in r
    | inr none ↦
        let trees = (shown conn).committed.trees in
        let blank = subst (λ (k : Kept). AreTreesOf k trees) (sym none.0) (IsOnDisk-blank trees (IsNothing-found_empty held trees none.1 finds.reads)) in
        let r : Found old conn = (trees, blank, record { opens = opened.0; live = opened.1; found = refl }) in r
  ])

  -- trees in which a connection ends, as they are found in this image
  abbrev pub EndsIn : Held (FileStore D g) → Image → Type 0
  EndsIn conn image = (trees : Trees) × (shown conn).may_leave trees × HoldsDatabase image trees

  module _ (stays : (c : Held (FileStore D g)) → IsTrue (shown c).is_open → (shown c).may_leave (shown c).committed.trees)
      (settled : (c : Held (FileStore D g)) (t : Trees) → IsTrue (shown c).is_open → (shown c).may_leave t → t ≡ (shown c).committed.trees) where
    pub ends : (conn : Held (FileStore D g)) (rest : Leftover D g) (image : Image) → EndsAs g conn rest → MayLeave g rest image → ∥ EndsIn conn image ∥₁
    ends conn (left.Store store) image back may =
        ∥∥₁_map (opens_again store back.numbered back.sound image may) (λ db. let r : EndsIn conn image = (db.0, back.outcomes db.0 db.1, db.2) in r)
    ends conn (left.Files files) image closed may =
        ∥∥₁_map ((closed.left image may).both) (λ holds. let r : EndsIn conn image = ((shown conn).committed.trees, stays conn closed.was_open, holds) in r)
    ends conn (left.Unopened it) image never may = absurd never

    -- a period, from files which held this to what a crash may leave of its end
    pub file_leads : (old : Kept) (held : Image) (period : Period) (first last : Held (FileStore D g)) (rest : Leftover D g) (image : Image)
        → IsKeptIn old held → IsOpened first → FindsIn held (shown first) → PeriodRuns shown period first last → HasCleanDisk (shown last) → EndsAs g last rest → MayLeave g rest image
        → ∥ ((new : Kept) × PeriodLeads old period new × IsKeptIn new image) ∥₁
    file_leads old held period first last rest image are opened finds runs clean over may =
        ∥∥₁_elim (found old held first are opened finds) squash₁ (λ (one : Found old first).
        ∥∥₁_map (ends last rest image over may) (λ (end : EndsIn last image).
        let led = PeriodsLead-holds shown settled old period first last one.0 end.0 one.1 one.2 runs clean end.1 in
        let r : (new : Kept) × PeriodLeads old period new × IsKeptIn new image = (led.0, led.1, ∣ inl (end.0, end.2, led.2) ∣₁) in r))

    pub opened_files_hold : OpenedFilesHold g
    opened_files_hold s files trees conn some are opened finds =
        let on : IsOpenedOn trees (shown conn) = record { opens = opened.0; live = opened.1; found = trees-same_of_truncated (shown conn).committed.trees trees some (finds.holds trees) } in
        HoldsDurably-today trees (shown conn) on (settled conn) s are

-- ---- the same over programs, each with a disk of its own

module _ (all : Programs) where
  abbrev Led : Kept → List Period → Image → Type 0
  Led old life end = (new : Kept) × LifeLeads old life new × IsKeptIn new end

  RunsOver-leads : (old : Kept) (found end : Image) (period : Period) → IsKeptIn old found → (p : all.Program) × RunsOver all p found period end → ∥ ((new : Kept) × PeriodLeads old period new × IsKeptIn new end) ∥₁
  RunsOver-leads old found end period are (p, it) =
      file_leads (all.disk p) (λ conn now. stays_at conn.store it.stays now) (λ conn trees now may. settled_at conn.store it.stays trees now may)
      old found period it.first it.last it.rest end are it.opened it.finds it.runs it.clean it.ends it.may

  PeriodLeaves-leads : (old : Kept) (found end : Image) (period : Period) → IsKeptIn old found → PeriodLeaves all found period end → ∥ ((new : Kept) × PeriodLeads old period new × IsKeptIn new end) ∥₁
  PeriodLeaves-leads old found end NotOpened are (inl same) = ∣ (old, PeriodLeads-not_opened old, subst (IsKeptIn old) (sym same) are) ∣₁
  PeriodLeaves-leads old found end NotOpened are (inr as_before) = ∣ (old, PeriodLeads-not_opened old, IsKeptIn-as_before old found end are as_before) ∣₁
  PeriodLeaves-leads old found end (Serving calls) are it = RunsOver-leads old found end (Serving calls) are it
  PeriodLeaves-leads old found end (Making office calls) are it = RunsOver-leads old found end (Making office calls) are it
  PeriodLeaves-leads old found end Migrating are it = RunsOver-leads old found end Migrating are it

  pub programs_lead : ProgramsLead all
  programs_lead old found end [] are same = ∣ (old, refl, subst (IsKeptIn old) (sym same) are) ∣₁
  programs_lead old found end (period ∷ life) are it =
      ∥∥₁_elim (PeriodLeaves-leads old found it.0 period are it.1) squash₁ (λ (one : (mid : Kept) × PeriodLeads old period mid × IsKeptIn mid it.0).
      ∥∥₁_map (programs_lead one.0 it.0 end life one.2 it.2) (λ (more : Led one.0 life end). let r : Led old (period ∷ life) end = (more.0, (one.0, one.1, more.1), more.2) in r))

-- ---- the sessions of a life

-- the commands of a life were run, from the state that they begin from
abbrev Ran : Kept → List Period → Broker → Type 0
Ran old life last = (first : Broker) × BeginsFrom old life first × LeavesSessions broker_primitives first (map calls_of life) last

BeginsFrom-later : (old : Kept) (period : Period) (life : List Period) (first : Broker) → BeginsFrom old life first → BeginsFrom old (period ∷ life) first
BeginsFrom-later (OfToday s) period life first it = it
BeginsFrom-later (OfFormat1 s) period life first it = it
BeginsFrom-later Blank period life first it = (period ∷ it.0, it.1, it.2, it.3, ap (λ (more : List Period). period ∷ more) it.4, it.5)

-- a period in which nothing was run
Ran-idle : (old mid : Kept) (period : Period) (life : List Period) (last : Broker) → LeavesAsWas old (calls_of period) mid → Ran mid life last → Ran old (period ∷ life) last
Ran-idle old mid period life last was more =
    let here : Ran old life last = subst (λ (k : Kept). Ran k life last) was.1 more in
    (here.0, BeginsFrom-later old period life here.0 here.1, subst (λ (cs : List (Request × Exit)). LeavesSessions broker_primitives here.0 (cs ∷ map calls_of life) last) (sym was.0) (here.0, tt, refl, here.2))

-- one in which a broker's commands were
LeavesSessions-of_runs : (s : Broker) (mid : Kept) (calls : List (Request × Exit)) (life : List Period) (last : Broker) → RunsFrom s calls mid → Ran mid life last → LeavesSessions broker_primitives s (calls ∷ map calls_of life) last
LeavesSessions-of_runs s mid calls life last run more =
    let here : Ran (OfToday run.0) life last = subst (λ (k : Kept). Ran k life last) run.3 more in
    (run.0, run.1, run.2, subst (λ (t : Broker). LeavesSessions broker_primitives t (map calls_of life) last) here.1 here.2)

Ran-period : (old mid : Kept) (period : Period) (life : List Period) (last : Broker) → PeriodLeads old period mid → Ran mid life last → Ran old (period ∷ life) last
Ran-period (OfToday s) mid (Serving calls) life last run more = (s, refl, LeavesSessions-of_runs s mid calls life last run more)
Ran-period Blank mid (Making office calls) life last (inl was) more = Ran-idle Blank mid (Making office calls) life last was more
Ran-period Blank mid (Making office calls) life last (inr run) more = (opening office, ([], office, calls, life, refl, refl), LeavesSessions-of_runs (opening office) mid calls life last run more)
Ran-period (OfFormat1 s) mid Migrating life last (inl same) more = Ran-idle (OfFormat1 s) mid Migrating life last (refl, same) more
Ran-period (OfFormat1 s) mid Migrating life last (inr same) more =
    let here : Ran (OfToday s) life last = subst (λ (k : Kept). Ran k life last) same more in
    (here.0, here.1, (here.0, tt, refl, here.2))
Ran-period old mid period life last was more = Ran-idle old mid period life last was more

Ran-life : (old : Kept) (life : List Period) (last : Broker) → LifeLeads old life (OfToday last) → Ran old life last
Ran-life (OfToday s) [] last same = (s, refl, (let is : last ≡ s = cc in is))
Ran-life (OfFormat1 s) [] last same = absurd (cc)
Ran-life Blank [] last same = absurd (cc)
Ran-life old (period ∷ life) last it = Ran-period old it.0 period life last it.1 (Ran-life it.0 life last it.2)

pub lives_run : LivesRun
lives_run old life last it =
    let run = Ran-life old life last it in
    let are = sessions broker_primitives run.0 last (map calls_of life) run.2 in
    record {
      first = run.0;
      begins = run.1;
      sessions = are;
      done = (SessionsRun-holds broker_primitives run.0 last (sessions_in life)).0 are;
      again = λ again. RunsOnce-holds broker_primitives run.0 last (sessions_in life) again are;
    }

-- ---- an opening that failed

module _ {D : Type 0} (g : Ghosts D) (files : Files D) where
  LeavesUnopened-unopened : (now : Unopened D g) → LeavesFiles files (left.Unopened now) → IsUnharmed g (image_of g files) (left.Unopened now) → LeavesUnopened g files (left.Unopened now)
  LeavesUnopened-unopened now (inl nothing) more image may = elim (nothing.1 image may) [
    | inl before ↦ inl before
    | inr (inl none) ↦ inr (record { same = λ trees held. absurd (is_something (image_of g files) trees held nothing.0); none = λ _. ∣ inl none ∣₁ })
    | inr (inr empty) ↦ inr (record { same = λ trees held. absurd (is_something (image_of g files) trees held nothing.0); none = λ _. ∥∥₁_map empty (λ it. let r : IsNothing image ⊎ ((trees : Trees) × HoldsDatabase image trees × IsEmpty trees) = inr (it.0, it.1, it.2) in r) })
  ]
  LeavesUnopened-unopened now (inr kept) more image may = elim ((kept.4 image may).same) [
    | inl before ↦ inl before
    | inr is_present ↦ inr (record {
      same = λ trees held.
          let size = more trees held in
          let it = held.2 in
          let r : HoldsDatabase image trees = (
            (state_of now).page_size,
            rw size at held.1,
            record { pages = it.pages; wanted = it.wanted; schema = it.schema; found = is_present.1 it.pages (rw size at it.found); ours = rw size at it.ours; reads = rw size at it.reads; sound = it.sound },
          ) in ∣ r ∣₁;
      none = λ none. absurd (kept.0 none);
    })
  ]

  LeavesUnopened-store : (now : FileStore D g) → LeavesFiles files (left.Store now) → IsUnharmed g (image_of g files) (left.Store now) → LeavesUnopened g files (left.Store now)
  LeavesUnopened-store now found numbered image may =
      let again : AreDatabases (recovers now) → ∥ ((trees : Trees) × recovers now trees × HoldsDatabase image trees) ∥₁ = λ sound. opens_again now numbered sound image may in
      inr (record {
        same = λ trees held.
            let sound : AreDatabases (recovers now) = λ db is. (held.2.schema, subst (IsSound held.2.schema) (sym ((found db is).1 trees held)) held.2.sound) in
            ∥∥₁_map (again sound) (λ (it : (t : Trees) × recovers now t × HoldsDatabase image t). subst (HoldsDatabase image) ((found it.0 it.1).1 trees held) it.2);
        none = λ none.
            let empty : (db : Trees) → recovers now db → IsEmpty db = λ db is. IsNothing-found_empty (image_of g files) db none (found db is).0 in
            let sound : AreDatabases (recovers now) = λ db is. (no_schema, empty_is_sound db (empty db is).1) in
            ∥∥₁_map (again sound) (λ (it : (t : Trees) × recovers now t × HoldsDatabase image t). let r : IsNothing image ⊎ ((t : Trees) × HoldsDatabase image t × IsEmpty t) = inr (it.0, it.2, empty it.0 it.1) in r);
      })

pub OpeningSpares-holds : {D : Type 0} (g : Ghosts D) → OpeningSpares g
OpeningSpares-holds g files (left.Files now) leaves more image may = inl (leaves image may)
OpeningSpares-holds g files (left.Unopened now) leaves more image may = LeavesUnopened-unopened g files now leaves more image may
OpeningSpares-holds g files (left.Store now) leaves more image may = LeavesUnopened-store g files now leaves more image may
