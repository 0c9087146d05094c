-- What a database has while its tables are made.
use Rattle.std.specs.Prelude.{◌≡◌, ◌⊎◌, ℕ, List, [], ◌∷◌, ◌++◌, false, IsTrue, None, Result, IfErr, codes, fold, map}
use Rattle.std.specs.List.{AllByRecursion}
use Rattle.sqlite.specs.Table.{Table}
use Rattle.sqlite.specs.Schema.{Schema}
use Rattle.sqlite.specs.Change.{created}
use Rattle.sqlite.specs.Tree.{Trees}
use Rattle.sqlite_sql.specs.Catalog.{entry_of}
use Rattle.sqlite_schema.specs.declared.schema.Index.{Index}
use Rattle.sqlite.specs.Effect.{Database, IsDatabase}
use Rattle.sqlite.specs.Held.{Held, state}
use Rattle.sqlite.specs.State.{State, HasCleanDisk}
use Rattle.sqlite_trees.specs.declared.store.Store.{Ghosts}
use Rattle.table_access.specs.declared.StoreFault.{StoreFault}
use Rattle.table_access.specs.Calls.{HasFailed}
use Rattle.table_access.specs.Sound.{IsKept, IsShortValue}
use Rattle.table_access.specs.Statements.{Creates, IndexesTable, MakesEach, with_index}
use Rattle.broker_core.specs.Text.{Text, same_text}
use Rattle.broker_tables.specs.Schema as schema
use Rattle.broker_tables.specs.Schema.{no_schema, schema_of, broker_schema, all_tables, all_indexes, meta, in_meta}
use Rattle.broker_tables.specs.declared.create.TheConstants.{META, TEAMS, PACTICIPANTS, VERSIONS, BRANCHES, ENVIRONMENTS, GRANTS, CONTENTS, CONTRACTS, RESULTS, LATEST, DEPLOYED, RELEASED, CHECKED_RESULTS, STRICT_ENVIRONMENTS, CONTENTS_BY_DIGEST, CONTRACTS_BY_CONTENT, LATEST_BY_PROVIDER_VERSION, VERSIONS_BY_PACTICIPANT}
use Rattle.broker_tables.specs.Rows.{rows_of}
use Rattle.broker_tables.specs.Holds.{IsMeta}

-- no table
pub record IsBlank (db : Database) : Type 0 where
  pub schema : db.schema ≡ no_schema
  pub sound : IsDatabase db

-- exactly these tables, made in this order, with no row but the one of meta
pub record HasTables (tables : List Table) (n : ℕ) (office : Text) (db : Database) : Type 0 where
  pub schema : db.schema ≡ schema_of tables
  pub kept : IsKept db
  pub meta : IsMeta n office (rows_of db (codes "meta"))
  pub empty : AllByRecursion (λ t. same_text t.name (codes "meta") ≡ false → db.trees t.tree ≡ [])
      (schema_of tables).tables

-- all tables and their indexes, with no row but the one of meta
pub record HasAll (n : ℕ) (office : Text) (db : Database) : Type 0 where
  pub schema : db.schema ≡ broker_schema
  pub kept : IsKept db
  pub meta : IsMeta n office (rows_of db (codes "meta"))
  pub empty : AllByRecursion (λ t. same_text t.name (codes "meta") ≡ false → db.trees t.tree ≡ []) broker_schema.tables

-- the first table is meta, with its one row: so it is in every database that a broker left, of this format or
-- an older one
pub record IsMarked (n : ℕ) (office : Text) (db : Database) : Type 0 where
  pub tables : List Table
  pub indexes : List Index
  pub schema : db.schema ≡ record { tables = meta ∷ tables; indexes = indexes; views = [] }
  pub row : IsMeta n office (db.trees in_meta.tree)

-- ---- the texts that make the tables

-- a text, and what it makes
abbrev pub Maker : Type 0 → Type 0
Maker X = List ℕ × X

abbrev pub texts_of : {X : Type 0} → List (Maker X) → List (List ℕ)
texts_of = map (λ maker. maker.0)

abbrev pub makes_of : {X : Type 0} → List (Maker X) → List X
makes_of = map (λ maker. maker.1)

-- each table with its text, in the order in which they are made
abbrev pub table_texts : List (Maker Table)
table_texts =
    (META.now, meta) ∷ (TEAMS.now, schema.teams) ∷ (PACTICIPANTS.now, schema.pacticipants)
    ∷ (VERSIONS.now, schema.versions)
    ∷ (BRANCHES.now, schema.branches) ∷ (ENVIRONMENTS.now, schema.environments) ∷ (GRANTS.now, schema.grants)
    ∷ (CONTENTS.now, schema.contents) ∷ (CONTRACTS.now, schema.contracts) ∷ (RESULTS.now, schema.results)
    ∷ (LATEST.now, schema.latest)
    ∷ (DEPLOYED.now, schema.deployed) ∷ (RELEASED.now, schema.released)
    ∷ (CHECKED_RESULTS.now, schema.checked_results) ∷ (STRICT_ENVIRONMENTS.now, schema.strict_environments) ∷ []

-- each index with its text, likewise, once all tables are made
abbrev pub index_texts : List (Maker (Table × Index))
index_texts =
    (CONTENTS_BY_DIGEST.now, schema.contents_by_digest) ∷ (CONTRACTS_BY_CONTENT.now, schema.contracts_by_content)
    ∷ (LATEST_BY_PROVIDER_VERSION.now, schema.latest_by_provider_version)
    ∷ (VERSIONS_BY_PACTICIPANT.now, schema.versions_by_pacticipant) ∷ []

-- If these texts are a part of all of them, and what those before them make is there, what they make is made.
abbrev pub MakesPart : {X : Type 0} → (Database → Database → X → Type 0) → (Schema → X → Schema) → Schema
    → List (Maker X) → List (List ℕ) → Database → Database → Type 0
MakesPart {X} One next start all texts old new =
    (before part after : List (Maker X)) → all ≡ before ++ part ++ after → texts ≡ texts_of part
    → old.schema ≡ fold next start (makes_of before) → MakesEach One (makes_of part) old new

-- the tables or the indexes of these texts are made
abbrev pub MakesTexts : List (List ℕ) → Database → Database → Type 0
MakesTexts texts old new =
    MakesPart Creates created no_schema table_texts texts old new
    × MakesPart IndexesTable with_index (schema_of all_tables) index_texts texts old new

-- ---- why they aren't made

-- On a database with P, in an open transaction with no limit of steps: an error means that the store failed.
abbrev pub FailsByStoreOverBetween : {A : Type 0} → (Database → Type 0) → State → State → Result A StoreFault → Type 0
FailsByStoreOverBetween P old new r =
    HasCleanDisk new → IsTrue old.in_transaction → old.step_limit ≡ None → P old.now → IfErr r (HasFailed old new)

-- the same of a connection over this store
abbrev pub FailsByStoreOver : {X A : Type 0} → Ghosts X → Held X → Held X → Result A StoreFault → (Database → Type 0) → Type 0
FailsByStoreOver store old new r P = FailsByStoreOverBetween P (state store old) (state store new) r

-- what an index has of each row of its table, some columns and the row's number, is short
abbrev pub AreShortKeys : Trees → Table × Index → Type 0
AreShortKeys trees one = AllByRecursion (λ row. AllByRecursion IsShortValue (entry_of one.1.columns row)) (trees one.0.tree)

-- The entries of the broker's indexes can be stored: they have whole numbers, and texts of ten million bytes at most.
-- So no row keeps an index from being made.
pub record HasShortKeys (db : Database) : Type 0 where
  pub kept : IsKept db
  pub short : AllByRecursion (AreShortKeys db.trees) all_indexes

-- These texts are a part of all of them, and what those before them make is there.
abbrev pub AreNext : {X : Type 0} → (Schema → X → Schema) → Schema → List (Maker X) → List (List ℕ) → Schema → Type 0
AreNext {X} next start all texts schema =
    (before : List (Maker X)) × (part : List (Maker X)) × (after : List (Maker X))
    × (all ≡ before ++ part ++ after) × (texts ≡ texts_of part) × (schema ≡ fold next start (makes_of before))

-- The tables of these texts can be made, or the indexes, over any rows whose entries can be stored.
abbrev pub CanMake : List (List ℕ) → Database → Type 0
CanMake texts db =
    AreNext created no_schema table_texts texts db.schema
    ⊎ (AreNext with_index (schema_of all_tables) index_texts texts db.schema × HasShortKeys db)
