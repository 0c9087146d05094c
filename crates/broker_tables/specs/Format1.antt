-- What it means that a database holds a state of the broker in format 1, the one before today's (this project's own):
-- no table says which results the broker checked, and none which environments are strict.
use Rattle.std.specs.Prelude.{◌≡◌, ℕ, List, [], ◌∷◌, ◌++◌, codes, false, Some}
use Rattle.std.specs.List.{AllByRecursion}
use Rattle.sqlite.specs.Table.{Table}
use Rattle.sqlite.specs.Effect.{Database}
use Rattle.table_access.specs.Sound.{IsKept}
use Rattle.broker_core.specs.declared.command.Marks.{Marks}
use Rattle.broker_core.specs.Text.{Text}
use Rattle.broker_core.specs.State.{State as Broker}
use Rattle.broker_tables.specs.Schema.{schema_of, registry_part, contents, contract_part, deploy_part, checked_results, strict_environments}
use Rattle.broker_tables.specs.Rows.{rows_of}
use Rattle.broker_tables.specs.Holds.{IsMeta, AreTeams, ArePacticipants, AreVersions, AreBranches, AreEnvironments, AreGrants, AreContents, AreContracts, AreResults, AreLatest, AreDeployed, AreReleased}

abbrev pub format_1 : ℕ
format_1 = 1

-- the tables of format 1, in the order in which they were made. No index stood beside their keys
abbrev pub format_1_tables : List Table
format_1_tables = registry_part ++ contents ∷ contract_part ++ deploy_part

-- the tables that format 2 has more
abbrev pub added_tables : List Table
added_tables = checked_results ∷ strict_environments ∷ []

-- The database has the tables of format 1, and after them these, which have no row; its format is n. Each field of
-- the state is what the rows of its tables say, with no result among the checked ones and no environment among the
-- strict ones.
pub record HoldsUnmarked (n : ℕ) (more : List Table) (db : Database) (s : Broker) : Type 0 where
  pub schema : db.schema ≡ schema_of (format_1_tables ++ more)
  pub kept : IsKept db
  pub empty : AllByRecursion (λ t. rows_of db t.name ≡ []) more
  pub meta : IsMeta n s.office (rows_of db (codes "meta"))
  pub teams : AreTeams s.teams (rows_of db (codes "teams"))
  pub pacticipants : ArePacticipants s.pacticipants (rows_of db (codes "pacticipants"))
  pub versions : AreVersions s.versions (rows_of db (codes "versions"))
  pub branches : AreBranches s.versions s.branches (rows_of db (codes "branches"))
  pub environments : AreEnvironments s.environments (rows_of db (codes "environments")) []
  pub grants : AreGrants s.grants (rows_of db (codes "grants"))
  pub contents : AreContents s.contents (rows_of db (codes "contents"))
  pub contracts : AreContracts s.versions s.contracts (rows_of db (codes "contracts"))
  pub results : AreResults s.versions s.results (rows_of db (codes "results")) []
  pub latest : AreLatest s (rows_of db (codes "latest"))
  pub deployed : AreDeployed s.versions s.deployed (rows_of db (codes "deployed"))
  pub released : AreReleased s.versions s.released (rows_of db (codes "released"))

-- the database is of format 1 and holds the state
abbrev pub HoldsFormat1 : Database → Broker → Type 0
HoldsFormat1 = HoldsUnmarked format_1 []

-- so it is of each state that a database of format 1 holds: every result is claimed, and no environment is strict
pub record IsUnmarked (s : Broker) : Type 0 where
  pub claimed : AllByRecursion (λ r. r.checked ≡ false) s.results
  pub lenient : (e : Text) (marks : Marks) → s.environments e ≡ Some marks → marks.strict ≡ false
