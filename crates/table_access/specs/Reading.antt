-- How the rows of an answer are read.
use Rattle.std.specs.Prelude.{◌≡◌, ◌⊎◌, ℕ, List, [], ◌∷◌, Some, ⊤, length, pos, ◌<◌, ◌^◌, IsUtf8, slice_get}
use Rattle.sqlite.specs.Order.{Row, column}
use Rattle.sqlite.specs.declared.types.Value.TheVariants.{Int, Text}
use Rattle.sqlite.specs.State.{State, Shown, FailsToQuery}
use Rattle.sqlite.specs.declared.error.Error.{Error}
use Rattle.sqlite_rules.specs.Lists.{Has}
use Rattle.table_access.specs.declared.StoreFault.{StoreFault}
use Rattle.table_access.specs.declared.StoreFault.TheVariants.{Memory, Store}
use Rattle.table_access.specs.Calls.{fault_of}

-- each row is read into the item at its place, and there are no others
abbrev pub AreRead : {A B : Type 0} → (A → B → Type 0) → List A → List B → Type 0
AreRead reads [] [] = ⊤
AreRead reads [] (x ∷ items) = ⊥
AreRead reads (r ∷ rows) [] = ⊥
AreRead reads (r ∷ rows) (x ∷ items) = reads r x × AreRead reads rows items

-- the query was refused, and the fault is that of its error
abbrev pub IsRefusedAs : List ℕ → Row → State → State → StoreFault → Type 0
IsRefusedAs sql params old new fault = (e : Error) × (fault ≡ fault_of e) × FailsToQuery sql params old new e

-- Why a row isn't taken into a list: reading it failed, or it reads and there was no room for it.
abbrev pub FailsToReadRow : {A : Type 0} → (Row → A → Type 0) → (Row → StoreFault → Type 0) → Row → StoreFault → Type 0
FailsToReadRow {A} Reads Fails row fault = Fails row fault ⊎ ((fault ≡ Memory) × ((item : A) × Reads row item))

-- Why a list isn't read: the query was refused, or a row that was shown isn't taken.
abbrev pub FailsToRead : {A : Type 0} → (Row → A → Type 0) → (Row → StoreFault → Type 0) → List ℕ → Row → State
    → State → StoreFault → Type 0
FailsToRead Reads Fails sql params old new fault =
    IsRefusedAs sql params old new fault
    ⊎ ((rows : List Row) × Shown sql params old new rows × (row : Row) × Has rows row
    × FailsToReadRow Reads Fails row fault)

-- Why the first row isn't read: the query was refused, or the first argument holds of that row and the fault.
abbrev pub FailsToTake : (Row → StoreFault → Type 0) → List ℕ → Row → State → State → StoreFault → Type 0
FailsToTake Matches sql params old new fault =
    IsRefusedAs sql params old new fault
    ⊎ ((rows : List Row) × Shown sql params old new rows × (row : Row) × (slice_get rows 0 ≡ Some row)
    × Matches row fault)

-- there is such a column, and it is a text in UTF-8
abbrev pub IsTextAt : ℕ → Row → Type 0
IsTextAt at row = (at < length row) × ((text : List ℕ) × (column row at ≡ Text text) × IsUtf8 text)

-- the first row, if there is one, has a text in its first column
abbrev pub BeginsWithText : List Row → Type 0
BeginsWithText rows = (row : Row) → slice_get rows 0 ≡ Some row → IsTextAt 0 row

-- there is such a column, and it is a number from 0 to 2^32 - 1
abbrev pub IsNumberAt : ℕ → Row → Type 0
IsNumberAt at row = (at < length row) × ((n : ℕ) × (column row at ≡ Int (pos n)) × (n < 2 ^ 32))

-- Store if this isn't in the row, and Memory if it is and there is no room for it
abbrev pub ReportsWhether : Type 0 → StoreFault → Type 0
ReportsWhether IsPresent fault = ((fault ≡ Store) × (¬ IsPresent)) ⊎ ((fault ≡ Memory) × IsPresent)

abbrev pub ReportsText : Row → StoreFault → Type 0
ReportsText row = ReportsWhether (IsTextAt 0 row)

-- in the first column
abbrev pub IsNumberRow : Row → Type 0
IsNumberRow row = IsNumberAt 0 row

-- Store, if there is no number in this column; in the first
abbrev pub ReportsNumberAt : ℕ → Row → StoreFault → Type 0
ReportsNumberAt at row fault = (fault ≡ Store) × (¬ IsNumberAt at row)

abbrev pub ReportsNumber : Row → StoreFault → Type 0
ReportsNumber row = ReportsNumberAt 0 row
