-- How the rows of a table are read.
use Rattle.std.specs.Prelude.{◌≡◌, ◌<◌, ◌≤◌, length, ◌==◌, ℕ, ℤ, pos, negsuc, List, [], ◌∷◌, map, Bool, true, false, if◌then◌else◌, Option, Some, None, option_map}
use Rattle.std.specs.Fmt.{signed_decimal}
use Rattle.std.specs.Option.{option_map_or}
use Rattle.std.specs.List.{list_any, find as first}
use Rattle.std.specs.declared.cmp.Ordering.{Ordering}
use Rattle.std.specs.Ordering.{eq_by_cmp}
use Rattle.std.specs.FinMap.Entries.{find}
use Rattle.sqlite.specs.declared.types.Value.{Value}
use Rattle.sqlite.specs.declared.types.Value.TheVariants as value
use Rattle.sqlite.specs.Order.{Row, column}
use Rattle.sqlite.specs.Effect.{Database}
use Rattle.broker_core.specs.Text.{Text, same_text}
use Rattle.broker_tables.specs.Schema.{broker_schema}

-- the tree of the table with this name
abbrev pub tree_of : List ℕ → Option ℕ
tree_of name = option_map (λ t. t.tree) (first (λ t. same_text t.name name) broker_schema.tables)

-- the rows of the table with this name, in the order of their numbers
abbrev pub rows_of : Database → List ℕ → List Row
rows_of db name = option_map_or db.trees (tree_of name) []

abbrev pub truth_in : Value → Bool
truth_in (value.Int (pos n)) = n == 1
truth_in (value.Int (negsuc n)) = false
truth_in value.Null = false
truth_in (value.Real x) = false
truth_in (value.Text t) = false
truth_in (value.Blob b) = false

-- the truth value in a column: 1 is true
abbrev pub truth : ℕ → Row → Bool
truth place row = truth_in (column row place)

-- the number by which the tables keep a truth value
abbrev pub mark_of : Bool → ℕ
mark_of true = 1
mark_of false = 0

-- there is such a column, and it is 0 or 1
abbrev pub IsTruthAt : ℕ → Row → Type 0
IsTruthAt at row = (at < length row) × ((n : ℕ) × (column row at ≡ value.Int (pos n)) × (n ≤ 1))

-- The text for no run in the row of this number: a tab, and the number. It is no name, and no other row has it, so
-- a test that no two rows have one run finds only the row itself.
abbrev pub no_run : ℤ → Text
no_run number = 9 ∷ signed_decimal number

abbrev pub begins_with_tab : Text → Bool
begins_with_tab [] = false
begins_with_tab (b ∷ bs) = b == 9

-- The run in a column of the row of this number: none if there is NULL, or the text for no run. Another text that
-- begins with a tab, and what is no text, says nothing of a run.
abbrev pub run_in : ℤ → Value → Option (Option Text)
run_in number value.Null = Some None
run_in number (value.Int n) = None
run_in number (value.Real x) = None
run_in number (value.Text t) =
    if begins_with_tab t then (if same_text t (no_run number) then Some None else None) else Some (Some t)
run_in number (value.Blob b) = None

-- what the row with this key has, none if there is no such row
abbrev pub value_at : {K V : Type 0} → (K → K → Ordering) → (Row → K) → (Row → V) → List Row → K → Option V
value_at order key value rows k = find order k (map (λ r. (key r, value r)) rows)

-- whether there is a row with this key
abbrev pub has_row_at : {K : Type 0} → (K → K → Ordering) → (Row → K) → List Row → K → Bool
has_row_at order key rows k = list_any (λ r. eq_by_cmp order k (key r)) rows
