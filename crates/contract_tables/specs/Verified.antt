-- What a contract and a result change of the state, and what is said of a result; and, for private clauses, what the
-- columns of a row say of one, and what the three statements that record a result make of the rows.
use Rattle.std.specs.Prelude.{◌≡◌, ◌==◌, ◌+◌, ◌-◌, ◌≤◌, ℕ, ℤ, pos, Bool, ◌&&◌, ◌||◌, IsTrue, List, [], ◌∷◌, ◌++◌, length, Option, Some, None, is_some, cond, if◌then◌else◌, slice_get, codes, unwrap_or, true, false, Result, IfErr}
use Rattle.std.specs.Ordering.{eq_by_cmp, int_cmp}
use Rattle.sqlite.specs.declared.types.Value.{Value}
use Rattle.sqlite.specs.declared.types.Value.TheVariants as value
use Rattle.sqlite.specs.Order.{Row, column}
use Rattle.sqlite.specs.Effect.{Database}
use Rattle.sqlite.specs.State.{State, HasCleanDisk}
use Rattle.sqlite_rules.specs.Lists.{Has}
use Rattle.table_access.specs.declared.StoreFault.{StoreFault}
use Rattle.table_access.specs.Calls.{HasFailed}
use Rattle.table_access.specs.Columns.{whole_at, by_both}
use Rattle.table_access.specs.Statements.{ChangesOnly, IsAdded}
use Rattle.broker_core.specs.declared.command.Version.{Version}
use Rattle.broker_core.specs.Text.{Text, put_at, same_pair, same_text, same_version}
use Rattle.broker_core.specs.State.{State as Broker, Verification}
use Rattle.broker_core.specs.Change.{result_of_run}
use Rattle.broker_core.specs.Limit.{has_room}
use Rattle.table_access.specs.Reading.{IsNumberAt}
use Rattle.broker_tables.specs.Schema.{in_versions, in_contents, in_results, in_latest, in_checked_results}
use Rattle.broker_tables.specs.Rows.{value_at, has_row_at, truth, no_run, IsTruthAt}
use Rattle.broker_tables.specs.Numbers.{number_of}
use Rattle.broker_tables.specs.Holds.{IsBroker}
use Rattle.broker_tables.specs.Room.{LeaveNumbers}
use Rattle.broker_tables.specs.Readable.{IsReadable}
use Rattle.broker_tables.specs.ChangeRefusals.{HaveNumbers}

-- the version of this number has no contract with the provider, which is there, as the content is; now the
-- content is its contract
abbrev pub AddsContract : ℕ → Text → ℕ → Broker → Broker → Type 0
AddsContract number provider content s t =
    (v : Version) × (number_of s.versions v ≡ Some number) × (s.contracts (v, provider) ≡ None)
    × IsTrue (is_some (s.pacticipants provider)) × (1 ≤ content) × (content ≤ length s.contents)
    × (t ≡ record s { contracts = put_at (same_pair same_version same_text) s.contracts (v, provider) (Some content) })

-- a result of this version
abbrev pub result_for : ℕ → Version → Bool → Bool → Option Text → Verification
result_for content v pass checked run =
    record { content = content; version = v; pass = pass; checked = checked; run = run }

-- the number is the next, the version of that number is one of the provider, and the result is the last one
abbrev pub RecordsResult : ℕ → ℕ → Text → ℕ → Bool → Bool → Option Text → Broker → Broker → Type 0
RecordsResult number content provider version_number pass checked run s t =
    (v : Version) × (number_of s.versions v ≡ Some version_number) × (v.pacticipant ≡ provider)
    × (number ≡ length s.results + 1)
    × (t ≡ record s { results = s.results ++ result_for content v pass checked run ∷ [] })

-- the texts that are stored of a result
abbrev pub texts_of : Text → Option Text → List Text
texts_of provider run = provider ∷ unwrap_or run [] ∷ []

-- the number is the next, the version of that number is one of the provider, the content is there, and no result of
-- the provider has this run
abbrev pub AllowsResult : ℕ → ℕ → Text → ℕ → Option Text → Broker → Type 0
AllowsResult number content provider version_number run s =
    (v : Version) × (number_of s.versions v ≡ Some version_number) × (v.pacticipant ≡ provider)
    × (number ≡ length s.results + 1) × (1 ≤ content) × (content ≤ length s.contents)
    × (result_of_run s provider run ≡ None)

-- it is allowed under the next number, and there is room for one more
abbrev pub AllowsNextResult : ℕ → Text → ℕ → Option Text → Broker → Type 0
AllowsNextResult content provider version_number run s =
    AllowsResult (length s.results + 1) content provider version_number run s × (has_room s.results ≡ true)

-- and how many there are can be read back
abbrev pub CanAddResult : ℕ → Text → ℕ → Option Text → Broker → Type 0
CanAddResult content provider version_number run s =
    IsReadable s × AllowsNextResult content provider version_number run s

-- the result with this number: they are numbered from 1
abbrev pub result_with : Broker → ℕ → Option Verification
result_with s number = if number == 0 then None else slice_get s.results (number - 1)

-- ---- for private clauses: a result as the look-ups read it from a row, column by column

-- the columns of a result: its number, its content, the number of its version, and whether it is a pass
abbrev pub Cells : Type 0
Cells = Value × Value × Value × Bool

abbrev pub cells : Row → Cells
cells row = (column row 0, column row 1, column row 2, truth 3 row)

abbrev pub cells_of : ℕ → ℕ → ℕ → Bool → Cells
cells_of number content version pass =
    (value.Int (pos number), value.Int (pos content), value.Int (pos version), pass)

-- a row that has them
abbrev pub ReadsAsResult : Row → Type 0
ReadsAsResult row = IsNumberAt 0 row × IsNumberAt 1 row × IsNumberAt 2 row × IsTruthAt 3 row

-- the columns of a result's number, and of whether it is a pass
abbrev pub PassCells : Type 0
PassCells = Value × Bool

abbrev pub pass_cells : Row → PassCells
pass_cells row = (column row 0, truth 1 row)

abbrev pub pass_of : ℕ → Bool → PassCells
pass_of number pass = (value.Int (pos number), pass)

-- a result by numbers: its own, its content's and its version's, and whether it is a pass
abbrev pub ByNumbers : Type 0
ByNumbers = ℕ × ℕ × Option ℕ × Bool

abbrev pub by_numbers : List Version → ℕ × Verification → ByNumbers
by_numbers versions e = (e.0, e.1.content, number_of versions e.1.version, e.1.pass)

abbrev pub numbers_are : ℕ → ℕ → ℕ → Bool → ByNumbers
numbers_are number content version pass = (number, content, Some version, pass)

-- only its own number, and whether it is a pass
abbrev pub Passed : Type 0
Passed = ℕ × Bool

abbrev pub passed_of : ℕ × Verification → Passed
passed_of e = (e.0, e.1.pass)

abbrev pub passed_as : ℕ → Bool → Passed
passed_as number pass = (number, pass)

-- ---- what is said of a result: its number, its content, the number of its version, whether it is a pass

-- with the mark whether the broker checked it
abbrev pub Returned : Type 0
Returned = ℕ × ℕ × Option ℕ × Bool × Bool

abbrev pub returned_of : List Version → ℕ × Verification → Returned
returned_of versions e = (e.0, e.1.content, number_of versions e.1.version, e.1.pass, e.1.checked)

abbrev pub returned : ℕ → ℕ → ℕ → Bool → Bool → Returned
returned number content version pass checked = (number, content, Some version, pass, checked)

-- ---- for private clauses: the statements that record a result. Between them the database holds no state, so each is
-- said by the rows; what all of them do is `RecordsResult`

-- the text for a run in its column: the run, or the text for no run
abbrev pub run_text : ℕ → Option Text → Text
run_text number run = unwrap_or run (no_run (pos number))

-- the row of a result
abbrev pub result_row : ℕ → ℕ → Text → ℕ → Bool → Option Text → Row
result_row number content provider version pass run =
    value.Int (pos number) ∷ value.Null ∷ value.Int (pos content) ∷ value.Text provider
    ∷ value.Int (pos version) ∷ value.Int (if pass then pos 1 else pos 0) ∷ value.Text (run_text number run) ∷ []

-- the row is put into the table of this tree, and no other table changes
abbrev pub PutsRow : ℕ → Row → State → State → Type 0
PutsRow tree row old new = ChangesOnly tree old new × IsAdded (old.now.trees tree) (new.now.trees tree) row

-- the number of the latest result for a content and the number of a version
abbrev pub latest_at : List Row → ℕ → ℕ → Option ℤ
latest_at rows content version =
    value_at (by_both int_cmp int_cmp) (λ r. (whole_at in_latest.content r, whole_at in_latest.provider_version r))
    (whole_at in_latest.result) rows (pos content, pos version)

-- the result is now the one for this content and the number of this version, all others keep theirs, at most one number
-- of the table was taken, and no other table changes
abbrev pub Points : ℕ → ℕ → ℕ → State → State → Type 0
Points content version result old new =
    ChangesOnly in_latest.tree old new
    × ((c v : ℕ) → latest_at (new.now.trees in_latest.tree) c v
    ≡ cond (eq_by_cmp (by_both int_cmp int_cmp) (pos c, pos v) (pos content, pos version))
    (Some (pos result)) (latest_at (old.now.trees in_latest.tree) c v))
    × ((n : ℕ) → LeaveNumbers (n + 1) (old.now.trees in_latest.tree) → LeaveNumbers n (new.now.trees in_latest.tree))

-- if the result was checked, its number is among those of checked results now; all other numbers are among them if
-- they were, and no other table changes
abbrev pub Marks : Bool → ℕ → State → State → Type 0
Marks checked number old new =
    ChangesOnly in_checked_results.tree old new
    × ((k : ℤ) → has_row_at int_cmp (whole_at 0) (new.now.trees in_checked_results.tree) k
    ≡ ((checked && eq_by_cmp int_cmp k (pos number)) || has_row_at int_cmp (whole_at 0) (old.now.trees in_checked_results.tree) k))

-- such a statement fails in a database of the broker that allows it only as the store fails
abbrev pub FailsByStoreOn : {A : Type 0} → State → State → Result A StoreFault → (Database → Type 0) → Type 0
FailsByStoreOn old new r Allows =
    HasCleanDisk new → old.step_limit ≡ None → IsBroker old.now → Allows old.now → IfErr r (HasFailed old new)

-- a row of the table at this tree has this number
abbrev pub HasRowWith : ℕ → ℕ → Database → Type 0
HasRowWith tree number db = (row : Row) × Has (db.trees tree) row × (column row 0 ≡ value.Int (pos number))

-- the result is there, and its number isn't among those of checked results
abbrev pub AllowsMark : ℕ → Database → Type 0
AllowsMark number db =
    HasRowWith in_results.tree number db × (has_row_at int_cmp (whole_at 0) (db.trees in_checked_results.tree) (pos number) ≡ false)

-- the content, the version and the result are there, and there is a number for the row
abbrev pub AllowsPoint : ℕ → ℕ → ℕ → Database → Type 0
AllowsPoint content version result db = HasRowWith in_contents.tree content db × HasRowWith in_versions.tree version db × HasRowWith in_results.tree result db
    × HaveNumbers (codes "latest" ∷ []) db
