-- What a call says of any database with the broker's tables, with any rows, CHECKs, keys and references in them: no
-- state need be held in it.
use Rattle.std.specs.Prelude.{◌≡◌, None, Result, MatchResult}
use Rattle.std.specs.List.{AllZip}
use Rattle.sqlite.specs.Table.{Table}
use Rattle.sqlite.specs.Schema.{Schema}
use Rattle.sqlite.specs.Effect.{Database}
use Rattle.sqlite.specs.Held.{Held, state}
use Rattle.sqlite.specs.State.{State, HasCleanDisk}
use Rattle.sqlite_trees.specs.declared.store.Store.{Ghosts}
use Rattle.sqlite_schema.specs.declared.schema.Column.{Column}
use Rattle.table_access.specs.declared.StoreFault.{StoreFault}
use Rattle.broker_tables.specs.Schema.{broker_schema}

-- a column has the name, the kind and the order of this one: with STRICT, NOT NULL or a default, or without
abbrev pub IsColumnLike : Column → Column → Type 0
IsColumnLike wanted c = (c.name ≡ wanted.name) × (c.kind ≡ wanted.kind) × (c.collation ≡ wanted.collation)

-- a table has the name, the place, the key and the columns of this one
abbrev pub HasColumns : Table → Table → Type 0
HasColumns wanted t = (t.name ≡ wanted.name) × (t.tree ≡ wanted.tree) × (t.key ≡ wanted.key)
    × AllZip IsColumnLike wanted.columns t.columns

-- the broker's tables are there, with what CHECKs, keys and references they may have
abbrev pub HasBrokerTables : Schema → Type 0
HasBrokerTables schema = AllZip HasColumns broker_schema.tables schema.tables

-- and no query has a limit of steps
abbrev pub CanBeAsked : State → Type 0
CanBeAsked c = (c.step_limit ≡ None) × HasBrokerTables c.now.schema

-- if the tables can be asked, the answer has P of what the database held, or there is this cause of the fault
abbrev pub ReportsOfAnyBetween : {A : Type 0} → State → State → Result A StoreFault → (A → Database → Type 0)
    → (State → State → StoreFault → Type 0) → Type 0
ReportsOfAnyBetween old new r P Cause =
    HasCleanDisk new → CanBeAsked old → MatchResult r (λ a. P a old.now) (Cause old new)

-- of a connection over this store
module _ {X A : Type 0} (store : Ghosts X) (old new : Held X) (r : Result A StoreFault) where
  abbrev pub ReportsOfAny : (A → Database → Type 0) → (State → State → StoreFault → Type 0) → Type 0
  ReportsOfAny = ReportsOfAnyBetween (state store old) (state store new) r
