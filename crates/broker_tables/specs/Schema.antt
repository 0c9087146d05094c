-- The tables of the broker's database, format 2 (this project's own): names, columns and keys, as SQLite reads
-- the texts that make them.
-- A place counts the columns from 1. Place 0 is a row's number, of which a column that is an INTEGER PRIMARY KEY is
-- another name.
-- Before each table its places are named, and other files use these names: `in_results.provider` is the place of the
-- column `provider` of `results`, and `in_results.tree` is the tree that has the rows of `results`.
use Rattle.std.specs.Prelude.{ℕ, pos, true, false, List, [], ◌∷◌, ◌++◌, Some, None, codes, fold, map}
use Rattle.sqlite.specs.Table.{Table}
use Rattle.sqlite.specs.Schema.{Schema}
use Rattle.sqlite.specs.declared.types.Value.TheVariants.{Null, Int}
use Rattle.sqlite.specs.Kind.TheVariants.{Text, Integer}
use Rattle.sqlite.specs.Collation.TheVariants.{Binary}
use Rattle.sqlite_schema.specs.declared.schema.Column.{Column}
use Rattle.sqlite_schema.specs.declared.schema.Index.{Index}
use Rattle.sqlite_schema.specs.declared.schema.Reference.{Reference}
use Rattle.sqlite_schema.specs.declared.schema.Action.TheVariants.{NoAction}
use Rattle.sqlite_value.specs.Keys.{plain}
use Rattle.sqlite_sql.specs.Term.{Term, lit, col, op2}
use Rattle.sqlite_sql.specs.declared.ops.BinaryOp.TheVariants.{Compare, Or}
use Rattle.sqlite_sql.specs.declared.ops.CompareOp.TheVariants.{Eq}
use Rattle.sqlite.specs.Change.{created}
use Rattle.table_access.specs.Statements.{plain_table, indexed_by}

-- ---- the parts of a table

-- a column of texts, and one of whole numbers: STRICT, and NOT NULL
abbrev pub texts : List ℕ → Column
texts name = record { name = name; kind = Text; is_strict = true; not_null = true; default = Null; collation = Binary }

abbrev pub numbers : List ℕ → Column
numbers name = record {
  name = name;
  kind = Integer;
  is_strict = true;
  not_null = true;
  default = Null;
  collation = Binary;
}

-- a column with NULL in the rows that have no value there
abbrev pub optional : Column → Column
optional column = record column { not_null = false }

-- REFERENCES: the column at this place is that column of a row of the other table
abbrev pub to : ℕ → List ℕ → List ℕ → Reference
to place table column = record {
  columns = place ∷ [];
  parent = table;
  parent_columns = column ∷ [];
  on_delete = NoAction;
  on_update = NoAction;
  is_deferred = false;
}

-- CHECK: the column at this place is this number
abbrev pub is_number : ℕ → ℕ → Term
is_number place n = op2 (Compare Eq Binary) (col 1 place) (lit (Int (pos n)))

-- CHECK: the column at this place is a truth value, 0 or 1
abbrev pub is_truth : ℕ → Term
is_truth place = op2 Or (is_number place 0) (is_number place 1)

-- a table by its name, its columns, the places of its PRIMARY KEY, the places of each UNIQUE key, its REFERENCES
-- and its CHECKs
abbrev pub table : List ℕ → List Column → List ℕ → List (List ℕ) → List Reference → List Term → Table
table name columns primary uniques references checks =
    plain_table name 0 columns None primary uniques (map (λ _. plain) uniques) checks references

-- the first column is the row's number
abbrev pub numbered_table : List ℕ → List Column → List (List ℕ) → List Reference → List Term → Table
numbered_table name columns uniques references checks =
    record (table name columns (0 ∷ []) uniques references checks) { key = Some 0 }

-- the PRIMARY KEY is the one key
abbrev pub keyed : List ℕ → List Column → List ℕ → List Reference → List Term → Table
keyed name columns primary references checks = table name columns primary (primary ∷ []) references checks

-- ---- the tables

pub record InMeta : Type 0 where
  pub tree : ℕ
  pub one : ℕ
  pub format : ℕ
  pub office_digest : ℕ

abbrev pub in_meta : InMeta
in_meta = record { tree = 0; one = 0; format = 2; office_digest = 3 }

abbrev pub meta : Table
meta = numbered_table (codes "meta") (numbers (codes "one") ∷ numbers (codes "format") ∷ texts (codes "office_digest") ∷ [])
    [] [] (is_number in_meta.one 1 ∷ [])

pub record InTeams : Type 0 where
  pub tree : ℕ
  pub name : ℕ
  pub token_digest : ℕ

abbrev pub in_teams : InTeams
in_teams = record { tree = 1; name = 1; token_digest = 2 }

abbrev pub teams : Table
teams = table (codes "teams") (texts (codes "name") ∷ texts (codes "token_digest") ∷ [])
    (in_teams.name ∷ []) ((in_teams.name ∷ []) ∷ (in_teams.token_digest ∷ []) ∷ []) [] []

pub record InPacticipants : Type 0 where
  pub tree : ℕ
  pub name : ℕ
  pub team : ℕ

abbrev pub in_pacticipants : InPacticipants
in_pacticipants = record { tree = 4; name = 1; team = 2 }

abbrev pub pacticipants : Table
pacticipants = keyed (codes "pacticipants") (texts (codes "name") ∷ texts (codes "team") ∷ [])
    (in_pacticipants.name ∷ []) (to in_pacticipants.team (codes "teams") (codes "name") ∷ []) []

pub record InVersions : Type 0 where
  pub tree : ℕ
  pub number : ℕ
  pub pacticipant : ℕ
  pub version : ℕ

abbrev pub in_versions : InVersions
in_versions = record { tree = 6; number = 0; pacticipant = 2; version = 3 }

abbrev pub versions : Table
versions = numbered_table (codes "versions")
    (numbers (codes "number") ∷ texts (codes "pacticipant") ∷ texts (codes "version") ∷ [])
    ((in_versions.pacticipant ∷ in_versions.version ∷ []) ∷ [])
    (to in_versions.pacticipant (codes "pacticipants") (codes "name") ∷ []) []

pub record InBranches : Type 0 where
  pub tree : ℕ
  pub version_number : ℕ
  pub branch : ℕ

abbrev pub in_branches : InBranches
in_branches = record { tree = 8; version_number = 1; branch = 2 }

abbrev pub branches : Table
branches = keyed (codes "branches") (numbers (codes "version_number") ∷ texts (codes "branch") ∷ [])
    (in_branches.version_number ∷ in_branches.branch ∷ [])
    (to in_branches.version_number (codes "versions") (codes "number") ∷ []) []

pub record InEnvironments : Type 0 where
  pub tree : ℕ
  pub name : ℕ
  pub gated : ℕ

abbrev pub in_environments : InEnvironments
in_environments = record { tree = 10; name = 1; gated = 2 }

abbrev pub environments : Table
environments = keyed (codes "environments") (texts (codes "name") ∷ numbers (codes "gated") ∷ [])
    (in_environments.name ∷ []) [] (is_truth in_environments.gated ∷ [])

pub record InGrants : Type 0 where
  pub tree : ℕ
  pub team : ℕ
  pub environment : ℕ

abbrev pub in_grants : InGrants
in_grants = record { tree = 12; team = 1; environment = 2 }

abbrev pub grants : Table
grants = keyed (codes "grants") (texts (codes "team") ∷ texts (codes "environment") ∷ [])
    (in_grants.team ∷ in_grants.environment ∷ [])
    (to in_grants.team (codes "teams") (codes "name")
    ∷ to in_grants.environment (codes "environments") (codes "name") ∷ []) []

pub record InContents : Type 0 where
  pub tree : ℕ
  pub number : ℕ
  pub digest : ℕ
  pub body : ℕ

abbrev pub in_contents : InContents
in_contents = record { tree = 14; number = 0; digest = 2; body = 3 }

abbrev pub contents : Table
contents = numbered_table (codes "contents") (numbers (codes "number") ∷ texts (codes "digest") ∷ texts (codes "body") ∷ [])
    [] [] []

pub record InContracts : Type 0 where
  pub tree : ℕ
  pub version_number : ℕ
  pub provider : ℕ
  pub content : ℕ

abbrev pub in_contracts : InContracts
in_contracts = record { tree = 15; version_number = 1; provider = 2; content = 3 }

abbrev pub contracts : Table
contracts = keyed (codes "contracts")
    (numbers (codes "version_number") ∷ texts (codes "provider") ∷ numbers (codes "content") ∷ [])
    (in_contracts.version_number ∷ in_contracts.provider ∷ [])
    (to in_contracts.version_number (codes "versions") (codes "number")
    ∷ to in_contracts.provider (codes "pacticipants") (codes "name")
    ∷ to in_contracts.content (codes "contents") (codes "number") ∷ [])
    []

pub record InResults : Type 0 where
  pub tree : ℕ
  pub number : ℕ
  pub content : ℕ
  pub provider : ℕ
  pub provider_version : ℕ
  pub pass : ℕ
  pub run : ℕ

abbrev pub in_results : InResults
in_results = record { tree = 17; number = 0; content = 2; provider = 3; provider_version = 4; pass = 5; run = 6 }

-- SQLite's UNIQUE takes no two NULLs for equal: so no two rows have one run and one provider, if there is a run
abbrev pub results : Table
results = numbered_table (codes "results")
    (numbers (codes "number") ∷ numbers (codes "content") ∷ texts (codes "provider")
    ∷ numbers (codes "provider_version") ∷ numbers (codes "pass") ∷ optional (texts (codes "run")) ∷ [])
    ((in_results.provider ∷ in_results.run ∷ []) ∷ [])
    (to in_results.content (codes "contents") (codes "number")
    ∷ to in_results.provider (codes "pacticipants") (codes "name")
    ∷ to in_results.provider_version (codes "versions") (codes "number") ∷ [])
    (is_truth in_results.pass ∷ [])

pub record InLatest : Type 0 where
  pub tree : ℕ
  pub content : ℕ
  pub provider_version : ℕ
  pub result : ℕ

abbrev pub in_latest : InLatest
in_latest = record { tree = 19; content = 1; provider_version = 2; result = 3 }

abbrev pub latest : Table
latest = keyed (codes "latest")
    (numbers (codes "content") ∷ numbers (codes "provider_version") ∷ numbers (codes "result") ∷ [])
    (in_latest.content ∷ in_latest.provider_version ∷ [])
    (to in_latest.content (codes "contents") (codes "number")
    ∷ to in_latest.provider_version (codes "versions") (codes "number")
    ∷ to in_latest.result (codes "results") (codes "number") ∷ [])
    []

pub record InDeployed : Type 0 where
  pub tree : ℕ
  pub environment : ℕ
  pub pacticipant : ℕ
  pub instance : ℕ
  pub version_number : ℕ

abbrev pub in_deployed : InDeployed
in_deployed = record { tree = 21; environment = 1; pacticipant = 2; instance = 3; version_number = 4 }

abbrev pub deployed : Table
deployed = keyed (codes "deployed")
    (texts (codes "environment") ∷ texts (codes "pacticipant") ∷ texts (codes "instance")
    ∷ numbers (codes "version_number") ∷ [])
    (in_deployed.environment ∷ in_deployed.pacticipant ∷ in_deployed.instance ∷ [])
    (to in_deployed.environment (codes "environments") (codes "name")
    ∷ to in_deployed.pacticipant (codes "pacticipants") (codes "name")
    ∷ to in_deployed.version_number (codes "versions") (codes "number") ∷ [])
    []

pub record InReleased : Type 0 where
  pub tree : ℕ
  pub environment : ℕ
  pub version_number : ℕ

abbrev pub in_released : InReleased
in_released = record { tree = 23; environment = 1; version_number = 2 }

abbrev pub released : Table
released = keyed (codes "released") (texts (codes "environment") ∷ numbers (codes "version_number") ∷ [])
    (in_released.environment ∷ in_released.version_number ∷ [])
    (to in_released.environment (codes "environments") (codes "name")
    ∷ to in_released.version_number (codes "versions") (codes "number") ∷ []) []

pub record InCheckedResults : Type 0 where
  pub tree : ℕ
  pub result : ℕ

abbrev pub in_checked_results : InCheckedResults
in_checked_results = record { tree = 25; result = 0 }

abbrev pub checked_results : Table
checked_results = numbered_table (codes "checked_results") (numbers (codes "result") ∷ [])
    [] (to in_checked_results.result (codes "results") (codes "number") ∷ []) []

pub record InStrictEnvironments : Type 0 where
  pub tree : ℕ
  pub environment : ℕ

abbrev pub in_strict_environments : InStrictEnvironments
in_strict_environments = record { tree = 26; environment = 1 }

abbrev pub strict_environments : Table
strict_environments = keyed (codes "strict_environments") (texts (codes "environment") ∷ [])
    (in_strict_environments.environment ∷ [])
    (to in_strict_environments.environment (codes "environments") (codes "name") ∷ []) []

-- ---- the schema

abbrev pub no_schema : Schema
no_schema = record { tables = []; indexes = []; views = [] }

-- the schema of these tables, made in this order
abbrev pub schema_of : List Table → Schema
schema_of = fold created no_schema

-- who and what is registered
abbrev pub registry_part : List Table
registry_part = meta ∷ teams ∷ pacticipants ∷ versions ∷ branches ∷ environments ∷ grants ∷ []

-- pacts, and their verification
abbrev pub contract_part : List Table
contract_part = contracts ∷ results ∷ latest ∷ []

-- the tables of what is deployed and released
abbrev pub deploy_part : List Table
deploy_part = deployed ∷ released ∷ []

-- all tables. Those of evidence and of strict environments are the last: a database of format 1 gets the same
-- schema by making them
abbrev pub all_tables : List Table
all_tables = registry_part ++ contents ∷ contract_part ++ deploy_part ++ checked_results ∷ strict_environments ∷ []

-- Indexes that guard nothing are made after all tables, so that each table and each key keeps its place.

-- a table whose rows are at this place, and an index of its columns at those places. More rows may have the same
abbrev pub index_on : Table → ℕ → List ℕ → List ℕ → Table × Index
index_on table tree name columns = (
  record table { tree = tree },
  record {
    name = name;
    tree = 0;
    table = tree;
    columns = columns;
    order = plain;
    is_unique = false;
  },
)

abbrev pub contents_by_digest : Table × Index
contents_by_digest = index_on contents in_contents.tree (codes "contents_by_digest") (in_contents.digest ∷ [])

abbrev pub contracts_by_content : Table × Index
contracts_by_content = index_on contracts in_contracts.tree (codes "contracts_by_content") (in_contracts.content ∷ [])

abbrev pub latest_by_provider_version : Table × Index
latest_by_provider_version = index_on latest in_latest.tree (codes "latest_by_provider_version")
    (in_latest.provider_version ∷ [])

abbrev pub versions_by_pacticipant : Table × Index
versions_by_pacticipant = index_on versions in_versions.tree (codes "versions_by_pacticipant")
    (in_versions.pacticipant ∷ in_versions.number ∷ [])

-- of pacts and their verification
abbrev pub contract_indexes : List (Table × Index)
contract_indexes = contracts_by_content ∷ latest_by_provider_version ∷ []

abbrev pub all_indexes : List (Table × Index)
all_indexes = contents_by_digest ∷ contract_indexes ++ versions_by_pacticipant ∷ []

abbrev pub broker_schema : Schema
broker_schema = indexed_by (schema_of all_tables) all_indexes
