-- Which databases are a broker's, and the format of their tables.
use Rattle.std.specs.Prelude.{◌≡◌, ◌≢◌, ◌⊎◌, ◌<◌, ◌^◌, ◌==◌, ℕ, pos, [], ◌∷◌, List, find, map, length, slice_get, option_and_then, Option, Some, None, MatchOption, IsSomeAnd, Result, IfErr}
use Rattle.std.specs.List.{AllByRecursion, AllZip}
use Rattle.sqlite.specs.Table.{Table}
use Rattle.sqlite.specs.Schema.{Schema}
use Rattle.sqlite.specs.Order.{Row, column}
use Rattle.sqlite.specs.declared.types.Value.TheVariants.{Int}
use Rattle.sqlite.specs.Effect.{Database}
use Rattle.sqlite.specs.State.{State, HasCleanDisk}
use Rattle.sqlite.specs.Collation.TheVariants.{Binary}
use Rattle.sqlite_schema.specs.Names.{table_named}
use Rattle.sqlite_schema.specs.declared.schema.Column.{Column}
use Rattle.sqlite_schema.specs.declared.schema.Kind.{Kind}
use Rattle.table_access.specs.declared.StoreFault.{StoreFault}
use Rattle.table_access.specs.declared.StoreFault.TheVariants.{Store}
use Rattle.table_access.specs.Calls.{HasFailed}
use Rattle.broker_tables.specs.Schema.{meta, in_meta, schema_of}
use Rattle.broker_core.specs.State.{State as Broker}
use Rattle.broker_tables.specs.Holds.{format}
use Rattle.broker_tables.specs.Format1.{HoldsUnmarked, format_1, format_1_tables, added_tables}
use Rattle.broker_tables.specs.ChangeRefusals.{AreShort}

-- a column has this name and this kind: with STRICT, NOT NULL, a default and a collation, or without
abbrev pub IsColumn : List ℕ × Kind → Column → Type 0
IsColumn wanted c = (c.name ≡ wanted.0) × (c.kind ≡ wanted.1)

-- a column has the name and the kind of this one
abbrev pub IsLike : Column → Column → Type 0
IsLike wanted = IsColumn (wanted.name, wanted.kind)

-- each column does, in their order
abbrev pub AreLike : List Column → List Column → Type 0
AreLike wanted = AllZip IsColumn (map (λ c. (c.name, c.kind)) wanted)

-- the table that SQLite finds by this name, wherever it is among the tables: letters are compared without their case
abbrev pub table_of : List ℕ → Schema → Option Table
table_of name schema = option_and_then (slice_get schema.tables) (table_named schema name)

-- ---- the format

-- a table has the columns and the key of the broker's table meta, however it is declared
abbrev pub IsMetaTable : Table → Type 0
IsMetaTable table = AreLike meta.columns table.columns × (table.key ≡ meta.key)

-- The table that is found by meta's name is like it, and this is the format in its one row. So it is in each database
-- that a broker left, which has it first.
abbrev pub IsOfFormat : ℕ → Database → Type 0
IsOfFormat n db = (table : Table) × (table_of meta.name db.schema ≡ Some table) × IsMetaTable table
    × (map (λ row. column row in_meta.format) (db.trees table.tree) ≡ Int (pos n) ∷ [])

-- no table is found by meta's name, or one that isn't like it, or that hasn't one row
abbrev pub IsForeign : Database → Type 0
IsForeign db = (table : Table) → table_of meta.name db.schema ≡ Some table → IsMetaTable table
    → length (db.trees table.tree) ≢ 1

-- what is found in a database: a format, or none
abbrev pub Finds : Database → Option ℕ → Type 0
Finds db found = MatchOption found (IsForeign db) (λ n. IsOfFormat n db)

-- the table is like meta, and its one row has no number from 0 to 2^32 - 1 as its format
abbrev pub HasNoFormat : Database → Type 0
HasNoFormat db = (table : Table) × (table_of meta.name db.schema ≡ Some table) × IsMetaTable table
    × ((row : Row) × (db.trees table.tree ≡ row ∷ [])
    × ((n : ℕ) → column row in_meta.format ≡ Int (pos n) → ¬ (n < 2 ^ 32)))

-- The table is like meta, and the first table with its tree is another one, of which a query has the columns. Each tree
-- of a store is one object of its list, so that no two tables have one; but no clause of a connection says that.
abbrev pub SharesTree : Database → Type 0
SharesTree db = (table : Table) × (table_of meta.name db.schema ≡ Some table) × IsMetaTable table
    × (find (λ t. t.tree == table.tree) db.schema.tables ≢ Some table)

-- Why no format is found: the store failed, there is no number, or two tables have one tree. Nothing else that a schema
-- may have refuses the query: no view of that name, no column that is computed, no collation, no other columns or keys.
abbrev pub FailsToFind : State → State → StoreFault → Type 0
FailsToFind old new fault =
    HasFailed old new fault ⊎ ((fault ≡ Store) × (HasNoFormat old.now ⊎ SharesTree old.now))

-- without a limit of steps it fails only for this
abbrev pub FailsOnlyFor : {A : Type 0} → State → State → Result A StoreFault → (State → State → StoreFault → Type 0)
    → Type 0
FailsOnlyFor old new r Cause = HasCleanDisk new → old.step_limit ≡ None → IfErr r (Cause old new)

-- ---- the tables of format 1

-- each key has these places
abbrev pub AreKeys : List (List ℕ) → List (List ℕ) → Type 0
AreKeys = AllZip (λ wanted places. places ≡ wanted)

-- a table has these keys: the column that is the row's number, the places of the PRIMARY KEY and of each UNIQUE
abbrev pub HasKeys : Option ℕ → List ℕ → List (List ℕ) → Table → Type 0
HasKeys key primary uniques table = (table.key ≡ key) × (table.primary ≡ primary) × AreKeys uniques table.uniques

-- Each column compares texts by their bytes: neither letters without their case (NOCASE), nor without the blanks at
-- their end (RTRIM). So only its own name finds a row.
abbrev pub CompareBytes : List Column → Type 0
CompareBytes = AllByRecursion (λ c. c.collation ≡ Binary)

-- a table has the columns and the keys of this one, in their order, and each column compares bytes
abbrev pub HasForm : Table → Table → Type 0
HasForm wanted table =
    AreLike wanted.columns table.columns × CompareBytes table.columns
    × HasKeys wanted.key wanted.primary wanted.uniques table

abbrev pub HasTable : Schema → Table → Type 0
HasTable schema wanted = IsSomeAnd (table_of wanted.name schema) (HasForm wanted)

-- Each table of format 1 is there, with its columns, which compare bytes, and its keys, wherever it is: with STRICT,
-- NOT NULL, CHECKs and defaults, or without.
abbrev pub HasFormat1Tables : Schema → Type 0
HasFormat1Tables schema = AllByRecursion (HasTable schema) format_1_tables

-- What is found in a database that is to be migrated: a format, and if that is 1, its tables too; or none of both.
abbrev pub FindsFormat1 : Database → Option ℕ → Type 0
FindsFormat1 db found = MatchOption found
    (IsForeign db ⊎ (IsOfFormat format_1 db × (¬ (HasFormat1Tables db.schema))))
    (λ n. IsOfFormat n db × (n ≡ format_1 → HasFormat1Tables db.schema))

-- A database has the tables of format 1, and after them these, and holds a state. The digest of its office's token,
-- which is in the row of meta, has ten million bytes at most; that of any token has 64.
abbrev pub CanBecomeFormat2 : List Table → Database → Type 0
CanBecomeFormat2 more db = (s : Broker) × HoldsUnmarked format_1 more db s × AreShort (s.office ∷ [])

-- each table of format 1 has the rows that it had, but for the one row of meta, which has the format
abbrev pub KeepsFormat1Rows : Database → Database → Type 0
KeepsFormat1Rows old new =
    AllByRecursion (λ t. t.tree ≢ in_meta.tree → new.trees t.tree ≡ old.trees t.tree) (schema_of format_1_tables).tables

-- the state of such a database is held in format 2, and the rows are kept, with their numbers
abbrev pub BecomesFormat2 : List Table → Database → Database → Type 0
BecomesFormat2 more old new =
    (s : Broker) → HoldsUnmarked format_1 more old s
    → HoldsUnmarked format added_tables new s × KeepsFormat1Rows old new
