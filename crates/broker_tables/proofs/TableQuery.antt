-- A query as a value: what a text asks of the broker's tables, and what a call that asks it answers, and why it fails.
use Rattle.std.specs.{Prelude.{Contains, option_map, is_some, IsUtf8}, List.Sorted.{IsPermutation}}
use Rattle.std.proofs.Common.{◌≡◌, ◌∙◌, inl, inr, ℕ, List, [], ◌∷◌, Option, Some, None, Result, IfErr, Bool, true, false, refl, sym, ap, subst, pos, slice_get, map, filter, arith}
use Rattle.std.proofs.lemmas.Result.{IfErr-weaker, IfOk-weaker}
use Rattle.sqlite.specs.{declared.types.Value.TheVariants.{Int, Text}, Order.{Row, column}, Term.{Term, col, eval_all}, Query.{Query}}
use Rattle.sqlite.specs.{Command.TheVariants.{Select}, Effect.{Database, Answers}, State.{State, Shown, HasCleanDisk}}
use Rattle.sqlite_value.specs.declared.keys.Key.{Key}
use Rattle.sqlite_rules.specs.Lists.{Has}
use Rattle.table_access.specs.{declared.StoreFault.{StoreFault}, declared.StoreFault.TheVariants.{Store}, Columns.{text, whole_at}}
use Rattle.table_access.specs.Calls.{CallsTablesBetween, CallsStoreBetween, HasFailed}
use Rattle.table_access.specs.Reading.{AreRead, FailsToRead, FailsToTake, IsRefusedAs, ReportsNumber, ReportsText, BeginsWithText, IsNumberRow, IsTextAt}
use Rattle.table_access.{specs.Statements.{from_table, from_both, up_to, keeps, keeps_both, shows}, proofs.Members.{map_has, filter_has}}
use Rattle.table_access.proofs.{Newest.{up_to-take_rows, up_to-take_joined}, Steps.{Means, IsPermutation-kept_rows, Shown-Answers, Shown-IsUnchanged}}
use Rattle.table_access.proofs.Answered.{Runs, IsRefusedAs-HasFailed, FailsToRead-HasFailed, FailsToTake-ReportsNumber, FailsToTake-ReportsText, slice_get-has_first, IsPermutation-has_each, take-sound, pair_shown}
use Rattle.broker_core.specs.{declared.command.Version.{Version}, State.{State as Broker}}
use Rattle.broker_tables.specs.{Schema.{broker_schema}, Numbers.{number_of}, Holds.{Holds, IsBroker, IsRead}}
use Rattle.broker_tables.specs.{Failures.{ShowsState, HasFailedOrMemory, LooksUpBetween, IfNoVersionBetween, TakesNoMemoryBetween}, Readable.{IsReadable}}
use Rattle.broker_tables.proofs.Frames.{Means-over_broker_schema, Runs-over_broker_schema, Shown-Holds_same}
use Rattle.broker_tables.proofs.{NoVersion.{AreRead-no_rows, option_map-no_rows, slice_get-no_rows}, QueryLemmas.{LooksUpBetween-read, fault-Memory_if_read}}
use Rattle.broker_tables.proofs.{ReadableRows.{IsLow, IsNumberAt-of_column}, Listed.{AreRead-complete}}

-- The text asks this query of the broker's tables, and can be run with these parameters: `refl` finds each field of both,
-- under `unfolding understood everything`, even if the parameters are variables.
pub record TableQuery (sql : List ℕ) (params : Row) (query : Query) : Type 0 where
  pub names : List (List ℕ)
  pub means : Means broker_schema sql (Select (record { lets = []; body = query }) names)
  pub runs : Runs broker_schema sql params query

-- these rows are its answer
abbrev pub IsShown : {sql : List ℕ} {params : Row} {query : Query} → TableQuery sql params query → Database → List Row → Type 0
IsShown {sql} {params} {query} asked db rows = Answers db (record { lets = []; body = query }) params rows

-- each row of any answer is such a row
abbrev pub EachShown : {sql : List ℕ} {params : Row} {query : Query} → TableQuery sql params query → Database → (Row → Type 0) → Type 0
EachShown asked db Is = (rows : List Row) → IsShown asked db rows → (row : Row) → Has rows row → Is row

-- and the first one is
abbrev pub FirstShown : {sql : List ℕ} {params : Row} {query : Query} → TableQuery sql params query → Database → (Row → Type 0) → Type 0
FirstShown asked db Is = (rows : List Row) → IsShown asked db rows → (row : Row) → slice_get rows 0 ≡ Some row → Is row

-- in each state that is held and can be read back
abbrev pub EachReads : {sql : List ℕ} {params : Row} {query : Query} → TableQuery sql params query → Database → (Row → Type 0) → Type 0
EachReads asked db Is = (s : Broker) → Holds db s → IsReadable s → EachShown asked db Is

abbrev pub FirstReads : {sql : List ℕ} {params : Row} {query : Query} → TableQuery sql params query → Database → (Row → Type 0) → Type 0
FirstReads asked db Is = (s : Broker) → Holds db s → IsReadable s → FirstShown asked db Is

-- no row is shown, if no version has this number
abbrev pub NoneFor : {sql : List ℕ} {params : Row} {query : Query} → TableQuery sql params query → Database → ℕ → Type 0
NoneFor asked db number = (s : Broker) → Holds db s → ((v : Version) → ¬ (number_of s.versions v ≡ Some number)) → EachShown asked db (λ row. ⊥)

-- a row fails with Store only if it isn't such a row
abbrev pub FailsOnly : (Row → StoreFault → Type 0) → (Row → Type 0) → Type 0
FailsOnly Fails Is = (row : Row) (fault : StoreFault) → Fails row fault → fault ≡ Store → ¬ Is row

-- rows that read are read into a list
AreRead-of_reading_rows : {B : Type 0} {Reads : Row → B → Type 0} {Is : Row → Type 0} → ((row : Row) → Is row → (x : B) × Reads row x) → (rows : List Row)
    → ((row : Row) → Has rows row → Is row) → (items : List B) × AreRead Reads rows items
AreRead-of_reading_rows reads [] is = ([], tt)
AreRead-of_reading_rows reads (r ∷ rows) is =
    let x = reads r (is r (inl refl)) in
    let more = AreRead-of_reading_rows reads rows (λ row has. is row (inr has)) in
    (x.0 ∷ more.0, (x.1, more.1))

module _ {sql : List ℕ} {params : Row} {query : Query} (asked : TableQuery sql params query) (old new : State) where
  Means-of_broker : IsBroker old.now → Means old.now.schema sql (Select (record { lets = []; body = query }) asked.names)
  Means-of_broker broker = Means-over_broker_schema old.now broker sql asked.means

  Runs-of_broker : IsBroker old.now → Runs old.now.schema sql params query
  Runs-of_broker broker = Runs-over_broker_schema old.now broker sql params query asked.runs

  -- what is shown is its answer
  pub Shown-IsShown : IsBroker old.now → (rows : List Row) → Shown sql params old new rows → IsShown asked old.now rows
  Shown-IsShown broker rows h = Shown-Answers sql params old new _ asked.names (Means-of_broker broker) rows h

  -- and the same state is held
  pub reads : (s : Broker) → Holds old.now s → (rows : List Row) → Shown sql params old new rows → IsShown asked old.now rows × Holds new.now s
  reads s held rows h = (Shown-IsShown held.broker rows h, Shown-Holds_same sql params old new rows s (Means-of_broker held.broker) h held)

  -- nothing changes
  pub Shown-now_same : IsBroker old.now → (rows : List Row) → Shown sql params old new rows → new.now ≡ old.now
  Shown-now_same broker rows h = (Shown-IsUnchanged sql params old new rows (Means-of_broker broker).plain h).0.now_is

  -- ---- why it fails

  -- a failure has this cause only as that
  abbrev Explains : (StoreFault → Type 0) → (StoreFault → Type 0) → Type 0
  Explains Why Cause = (s : Broker) → ShowsState old s → (fault : StoreFault) → Cause fault → Why fault

  pub IsRefusedAs-explained : Explains (HasFailed old new) (IsRefusedAs sql params old new)
  IsRefusedAs-explained s at =
      IsRefusedAs-HasFailed sql params old new query asked.names (Means-of_broker at.held.broker) (Runs-of_broker at.held.broker) at.unlimited

  pub FailsToTake-explained_number : EachReads asked old.now IsNumberRow → Explains (HasFailed old new) (FailsToTake ReportsNumber sql params old new)
  FailsToTake-explained_number each s at =
      FailsToTake-ReportsNumber sql params old new query asked.names (Means-of_broker at.held.broker) (Runs-of_broker at.held.broker) at.unlimited
      (λ rows row h head. each s at.held at.readable rows (reads s at.held rows h).0 row (slice_get-has_first rows row head))

  pub FailsToTake-explained_text : FirstReads asked old.now (IsTextAt 0) → Explains (HasFailedOrMemory old new) (FailsToTake ReportsText sql params old new)
  FailsToTake-explained_text first s at =
      FailsToTake-ReportsText sql params old new query asked.names (Means-of_broker at.held.broker) (Runs-of_broker at.held.broker) at.unlimited
      (λ rows row h head. first s at.held at.readable rows (reads s at.held rows h).0 row head)

  pub FailsToRead-explained : {B : Type 0} {Reads : Row → B → Type 0} {Fails : Row → StoreFault → Type 0} {Is : Row → Type 0} → FailsOnly Fails Is
      → EachReads asked old.now Is → Explains (HasFailedOrMemory old new) (FailsToRead Reads Fails sql params old new)
  FailsToRead-explained only each s at =
      FailsToRead-HasFailed sql params old new query asked.names (Means-of_broker at.held.broker) (Runs-of_broker at.held.broker) at.unlimited _ _
      (λ rows row h has fault why. fault-Memory_if_read fault (only row fault why) (each s at.held at.readable rows (reads s at.held rows h).0 row has))

  -- if no row is shown and the answer isn't read, the store failed: there is no first row to read
  pub FailsToTake-no_row_shown : (s : Broker) → ShowsState old s → FirstShown asked old.now (λ row. ⊥) → (fault : StoreFault) → FailsToTake ReportsText sql params old new fault
      → HasFailed old new fault
  FailsToTake-no_row_shown s at none fault (inl refused) = IsRefusedAs-explained s at fault refused
  FailsToTake-no_row_shown s at none fault (inr (rows, shown, row, head, reports)) = absurd (none rows (reads s at.held rows shown).0 row head)

  -- ---- a call that answers what was read of the rows

  -- what was read of them
  abbrev Was : {A : Type 0} → (A → List Row → Type 0) → A → Type 0
  Was Read a = (rows : List Row) × Shown sql params old new rows × Read a rows

  -- if what was read is Read, it has P of each state that is held
  abbrev Matches : {A : Type 0} → (A → List Row → Type 0) → (A → Broker → Type 0) → Type 0
  Matches {A} Read P = (s : Broker) → Holds old.now s → (rows : List Row) → IsShown asked old.now rows → (a : A) → Read a rows → P a s

  IsRead-of_Reports : {A : Type 0} (Read : A → List Row → Type 0) (P : A → Broker → Type 0) → Matches Read P → (a : A) → Was Read a → IsRead old new P a
  IsRead-of_Reports Read P reports a h s held = (reports s held h.0 (Shown-IsShown held.broker h.0 h.1) a h.2, Shown-now_same held.broker h.0 h.1)

  -- the call fails for this cause
  abbrev FailsFor : {A : Type 0} → Result A StoreFault → (StoreFault → Type 0) → Type 0
  FailsFor r Cause = HasCleanDisk new → IfErr r Cause

  -- a list
  pub LooksUpBetween-list : {A B : Type 0} {items : A → List B} {Reads : Row → B → Type 0} {FailsAs : Row → StoreFault → Type 0} {r : Result A StoreFault}
      {P : A → Broker → Type 0} {Is : Row → Type 0} → FailsOnly FailsAs Is → Matches (λ list rows. AreRead Reads rows (items list)) P
      → EachReads asked old.now Is → CallsTablesBetween old new r (Was (λ list rows. AreRead Reads rows (items list)))
      → FailsFor r (FailsToRead Reads FailsAs sql params old new) → LooksUpBetween true old new r P
  LooksUpBetween-list {r = r} {P = P} only reports each = LooksUpBetween-read old new r _ P _ (IsRead-of_Reports _ P reports) (FailsToRead-explained only each)

  -- if nothing is to be listed, no row is shown, and so none was refused
  pub TakesNoMemoryBetween-list : {A B : Type 0} {Reads : Row → B → Type 0} {Is : Row → Type 0} {Nothing : Broker → Type 0} (r : Result A StoreFault) (Fails : Row → StoreFault → Type 0)
      → ((row : Row) → Is row → (x : B) × Reads row x) → ((s : Broker) → Holds old.now s → Nothing s → (rows : List Row) → IsShown asked old.now rows → (items : List B)
      → AreRead Reads rows items → (x : B) → ¬ (Contains items x)) → EachReads asked old.now Is → FailsFor r (FailsToRead Reads Fails sql params old new)
      → TakesNoMemoryBetween old new r Nothing
  TakesNoMemoryBetween-list {Reads = Reads} r Fails read none each cause clean s at nothing = IfErr-weaker r _ _ because (cause clean) where
    because : (fault : StoreFault) → FailsToRead Reads Fails sql params old new fault → HasFailed old new fault
    because fault (inl refused) = IsRefusedAs-explained s at fault refused
    because fault (inr (rows, shown, row, has, why)) =
        let answer = (reads s at.held rows shown).0 in
        let all = AreRead-of_reading_rows read rows (each s at.held at.readable rows answer) in
        let one = AreRead-complete Reads rows all.0 row all.1 has in
        absurd (none s at.held nothing rows answer all.0 all.1 one.0 one.1)

  -- a number, or none without a row
  abbrev IsFirst : Option ℕ → List Row → Type 0
  IsFirst found rows = (option_map (λ n. Int (pos n)) found ≡ option_map (λ row. column row 0) (slice_get rows 0))

  pub LooksUpBetween-number : {r : Result (Option ℕ) StoreFault} {P : Option ℕ → Broker → Type 0} → Matches IsFirst P → EachReads asked old.now IsNumberRow
      → CallsStoreBetween old new r (Was IsFirst) → FailsFor r (FailsToTake ReportsNumber sql params old new) → LooksUpBetween false old new r P
  LooksUpBetween-number {r = r} {P = P} reports each = LooksUpBetween-read old new r _ P _ (IsRead-of_Reports IsFirst P reports) (FailsToTake-explained_number each)

  -- a text, or none without a row
  abbrev IsFirstText : {A : Type 0} → (A → List ℕ) → Option A → List Row → Type 0
  IsFirstText view found rows = (option_map view found ≡ option_map (text 0) (slice_get rows 0))

  pub LooksUpBetween-text : {A : Type 0} {view : A → List ℕ} {r : Result (Option A) StoreFault} {P : Option A → Broker → Type 0} → Matches (IsFirstText view) P
      → FirstReads asked old.now (IsTextAt 0)
      → CallsTablesBetween old new r (λ found. (rows : List Row) × Shown sql params old new rows × IsFirstText view found rows × BeginsWithText rows)
      → FailsFor r (FailsToTake ReportsText sql params old new) → LooksUpBetween true old new r P
  LooksUpBetween-text {view = view} {r = r} {P = P} reports first =
      LooksUpBetween-read old new r _ P _ (λ found h. IsRead-of_Reports (IsFirstText view) P reports found (h.0, h.1, h.2)) (FailsToTake-explained_text first)

  -- whether there is a row
  abbrev IsThere : Bool → List Row → Type 0
  IsThere has rows = (has ≡ is_some (slice_get rows 0))

  pub LooksUpBetween-is_there : {r : Result Bool StoreFault} {P : Bool → Broker → Type 0} → Matches IsThere P → CallsStoreBetween old new r (Was IsThere)
      → FailsFor r (IsRefusedAs sql params old new) → LooksUpBetween false old new r P
  LooksUpBetween-is_there {r = r} {P = P} reports = LooksUpBetween-read old new r _ P _ (IsRead-of_Reports _ P reports) IsRefusedAs-explained

  -- ---- if no version has the number

  pub IfNoVersionBetween-list : {A B : Type 0} {items : A → List B} {Reads : Row → B → Type 0} {r : Result A StoreFault} {number : ℕ} → NoneFor asked old.now number
      → CallsTablesBetween old new r (Was (λ list rows. AreRead Reads rows (items list))) → IfNoVersionBetween old new r number (λ list. items list ≡ [])
  IfNoVersionBetween-list {items = items} {r = r} none call clean s held free =
      IfOk-weaker r _ _ (λ list h. AreRead-no_rows _ h.0 (items list) (none s held free h.0 (reads s held h.0 h.1).0) h.2) (call.ok clean)

  pub IfNoVersionBetween-number : {r : Result (Option ℕ) StoreFault} {number : ℕ} → NoneFor asked old.now number → CallsStoreBetween old new r (Was IsFirst)
      → IfNoVersionBetween old new r number (λ found. found ≡ None)
  IfNoVersionBetween-number {r = r} none call clean s held free =
      IfOk-weaker r _ _ (λ found h. option_map-no_rows (λ k. Int (pos k)) (λ row. column row 0) h.0 found (none s held free h.0 (reads s held h.0 h.1).0) h.2)
      (call.ok clean)

  pub IfNoVersionBetween-is_there : {r : Result Bool StoreFault} {number : ℕ} → NoneFor asked old.now number → CallsStoreBetween old new r (Was IsThere)
      → IfNoVersionBetween old new r number (λ has. has ≡ false)
  IfNoVersionBetween-is_there {r = r} none call clean s held free =
      IfOk-weaker r _ _ (λ has h. h.2 ∙ ap is_some (slice_get-no_rows h.0 (none s held free h.0 (reads s held h.0 h.1).0))) (call.ok clean)

-- ---- what is so of each row that is shown

-- each row that WHERE keeps is shown as Is says
abbrev EachKept : Row → List Term → List Term → ℕ → Database → (Row → Type 0) → Type 0
EachKept params terms project t db Is = (r : Row) → Has (db.trees t) r → keeps terms params r ≡ true → Is (shows project params r)

-- and of two rows that ON and WHERE keep
abbrev EachPair : Row → List Term → List Term → ℕ → ℕ → Database → (Row → Type 0) → Type 0
EachPair params terms project t u db Is =
    (r q : Row) → Has (db.trees t) r → Has (db.trees u) q → keeps_both terms params r q ≡ true → Is (eval_all project (params ∷ r ∷ q ∷ []))

EachKept-permuted : (params : Row) (terms project : List Term) (t : ℕ) (db : Database) (Is : Row → Type 0) → EachKept params terms project t db Is
    → (rows : List Row) (row : Row) → Has rows row → IsPermutation (map (shows project params) (filter (keeps terms params) (db.trees t))) rows → Is row
EachKept-permuted params terms project t db Is is rows row has same =
    let one = map_has (shows project params) (filter (keeps terms params) (db.trees t)) row (IsPermutation-has_each _ rows row same has) in
    let it = filter_has (keeps terms params) (db.trees t) one.0 one.1 in
    subst Is (sym one.2) (is one.0 it.0 it.1)

module _ {sql : List ℕ} {params : Row} {terms project : List Term} {order : List (Term × Key)} where
  -- of one table
  pub EachShown-of_table : {t : ℕ} (asked : TableQuery sql params (from_table t terms project order)) (db : Database) (Is : Row → Type 0)
      → EachKept params terms project t db Is → EachShown asked db Is
  EachShown-of_table {t} asked db Is is rows h row has =
      EachKept-permuted params terms project t db Is is rows row has (IsPermutation-kept_rows db params t terms project order rows h)

  -- of two
  pub EachShown-of_both : {t u : ℕ} (asked : TableQuery sql params (from_both t u terms project order)) (db : Database) (Is : Row → Type 0)
      → EachPair params terms project t u db Is → EachShown asked db Is
  EachShown-of_both {t} {u} asked db Is is rows h row has =
      let it = pair_shown db params t u terms project order rows h row has in
      subst Is (sym it.4) (is it.0 it.1 it.2 it.3 it.5)

  -- of the first rows
  pub EachShown-up_to : {t most : ℕ} (asked : TableQuery sql params (up_to most (from_table t terms project order))) (db : Database) (Is : Row → Type 0)
      → EachKept params terms project t db Is → EachShown asked db Is
  EachShown-up_to {t} {most} asked db Is is rows h row has =
      let all = up_to-take_rows db params t terms project order most rows h in
      EachKept-permuted params terms project t db Is is all.0 row (take-sound most all.0 row (subst (λ xs. Has xs row) all.2 has))
      (IsPermutation-kept_rows db params t terms project order all.0 all.1)

  pub EachShown-up_to_both : {t u most : ℕ} (asked : TableQuery sql params (up_to most (from_both t u terms project order))) (db : Database) (Is : Row → Type 0)
      → EachPair params terms project t u db Is → EachShown asked db Is
  EachShown-up_to_both {t} {u} {most} asked db Is is rows h row has =
      let all = up_to-take_joined db params t u terms project order most rows h in
      let it = pair_shown db params t u terms project order all.0 all.1 row (take-sound most all.0 row (subst (λ xs. Has xs row) all.2 has)) in
      subst Is (sym it.4) (is it.0 it.1 it.2 it.3 it.5)

-- ---- what is shown of one column

module _ {sql : List ℕ} {params : Row} {t place : ℕ} {terms : List Term} {order : List (Term × Key)} where
  -- a number, if each row of the table has a low one there
  pub EachShown-IsNumberRow : (asked : TableQuery sql params (from_table t terms (col 1 place ∷ []) order)) (db : Database)
      → ((r : Row) → Has (db.trees t) r → (column r place ≡ Int (whole_at place r)) × IsLow (whole_at place r)) → EachShown asked db IsNumberRow
  EachShown-IsNumberRow asked db low =
      EachShown-of_table asked db _ (λ r has kept. let it = low r has in IsNumberAt-of_column (shows (col 1 place ∷ []) params r) 0 (whole_at place r) (omega arith) it.0 it.1)

  -- a text, if each row has one and what is shown first is UTF-8
  pub FirstShown-IsTextAt : (asked : TableQuery sql params (from_table t terms (col 1 place ∷ []) order)) (db : Database)
      → ((r : Row) → Has (db.trees t) r → column r place ≡ Text (text place r)) → FirstShown asked db (λ row. IsUtf8 (text 0 row))
      → FirstShown asked db (IsTextAt 0)
  FirstShown-IsTextAt asked db typed utf8 rows h row head =
      EachShown-of_table asked db (λ x. IsUtf8 (text 0 x) → IsTextAt 0 x) (λ r has kept is_utf8. (omega arith, (text place r, typed r has, is_utf8)))
      rows h row (slice_get-has_first rows row head) (utf8 rows h row head)
