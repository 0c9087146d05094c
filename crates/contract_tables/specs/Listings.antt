-- The orders of the listings, and how their rows read.
use Rattle.std.specs.Prelude.{◌≡◌, pos}
use Rattle.std.specs.declared.cmp.Ordering.{Ordering}
use Rattle.std.specs.Ordering.{ordering_then, nat_cmp}
use Rattle.sqlite.specs.Order.{Row, column}
use Rattle.sqlite.specs.declared.types.Value.TheVariants.{Int, Text}
use Rattle.table_access.specs.declared.StoreFault.{StoreFault}
use Rattle.table_access.specs.declared.StoreFault.TheVariants.{Store}
use Rattle.table_access.specs.Reading.{IsNumberRow, IsNumberAt}
use Rattle.broker_core.specs.declared.command.Version.{Version}
use Rattle.broker_core.specs.Text.{text_cmp}
use Rattle.broker_tables.specs.Names.{IsNameAt}
use Rattle.contract_tables.specs.declared.listings.Contract.{Contract}
use Rattle.contract_tables.specs.declared.listings.NumberedName.{NumberedName}

-- ---- the orders

-- contracts in the order of their providers
abbrev pub contract_cmp : Contract → Contract → Ordering
contract_cmp x y = ordering_then (text_cmp x.provider y.provider) (nat_cmp x.content y.content)

-- ---- the rows

-- the columns are the content and the provider
abbrev pub IsContractRow : Row → Contract → Type 0
IsContractRow row x = (column row 0 ≡ Int (pos x.content)) × (column row 1 ≡ Text x.provider)

-- the columns are the number and the name
abbrev pub IsNumberedName : Row → NumberedName → Type 0
IsNumberedName row x = (column row 0 ≡ Int (pos x.number)) × (column row 1 ≡ Text x.name)

-- the columns are the pacticipant and the version's name
abbrev pub IsConsumerRow : Row → Version → Type 0
IsConsumerRow row x = (column row 0 ≡ Text x.pacticipant) × (column row 1 ≡ Text x.name)

-- the row reads as a number and a name, as two names, as two numbers
abbrev pub ReadsAsMarked : Row → Type 0
ReadsAsMarked row = IsNumberRow row × IsNameAt 1 row

abbrev pub ReadsAsNames : Row → Type 0
ReadsAsNames row = IsNameAt 0 row × IsNameAt 1 row

abbrev pub ReadsAsNumbers : Row → Type 0
ReadsAsNumbers row = IsNumberRow row × IsNumberAt 1 row

-- Store only if the row doesn't read, and always if one of its columns doesn't
abbrev pub FailsAsMarked : Row → StoreFault → Type 0
FailsAsMarked row fault =
    (fault ≡ Store → ¬ ReadsAsMarked row) × ((¬ IsNumberRow row) → fault ≡ Store)
    × ((¬ IsNameAt 1 row) → fault ≡ Store)

abbrev pub FailsAsNames : Row → StoreFault → Type 0
FailsAsNames row fault =
    (fault ≡ Store → ¬ ReadsAsNames row) × ((¬ IsNameAt 0 row) → fault ≡ Store) × ((¬ IsNameAt 1 row) → fault ≡ Store)

-- Store comes exactly, since reading takes no memory
abbrev pub FailsAsNumbers : Row → StoreFault → Type 0
FailsAsNumbers row fault = (fault ≡ Store) × (¬ ReadsAsNumbers row)
