-- For private clauses: a table of the broker as the code has it, its columns and its keys, and that it is there.
use Rattle.std.specs.Prelude.{ℕ, List, map, IsSomeAnd}
use Rattle.std.specs.Borrow.{Bor}
use Rattle.std.specs.List.{AllZip}
use Rattle.sqlite.specs.Table.{Table}
use Rattle.sqlite.specs.Schema.{Schema}
use Rattle.sqlite_schema.specs.declared.schema.Kind.{Kind}
use Rattle.registry_tables.specs.declared.format.Form.{Form}
use Rattle.registry_tables.specs.Format.{CompareBytes, IsColumn, HasKeys, table_of}

-- the names and kinds of columns
abbrev pub columns_of : List (Bor (List ℕ) × Kind) → List (List ℕ × Kind)
columns_of = map (λ c. (c.0.now, c.1))

-- the places of each key
abbrev pub keys_of : List (Bor (List ℕ)) → List (List ℕ)
keys_of = map (λ key. key.now)

-- a table has these columns, which compare bytes, and these keys
abbrev pub IsOfForm : Form → Table → Type 0
IsOfForm form table = AllZip IsColumn (columns_of form.columns.now) table.columns × CompareBytes table.columns
    × HasKeys form.key form.primary.now (keys_of form.uniques.now) table

-- so has the table that is found by this name
abbrev pub HasTableOf : Schema → Form → Type 0
HasTableOf schema form = IsSomeAnd (table_of form.name.now schema) (IsOfForm form)
