-- Names in a row of an answer.
use Rattle.std.specs.Prelude.{◌≡◌, ℕ, ◌<◌, List, length, IsUtf8}
use Rattle.sqlite.specs.Order.{Row, column}
use Rattle.sqlite.specs.declared.types.Value.TheVariants.{Text}
use Rattle.broker_names.specs.Name.{IsName}

-- there is such a column, and it is a name
abbrev pub IsNameAt : ℕ → Row → Type 0
IsNameAt at row = (at < length row) × ((name : List ℕ) × (column row at ≡ Text name) × IsUtf8 name × IsName name)
