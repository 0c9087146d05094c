-- There are databases of format 1: with the tables of that format and no row but the one of meta, a database holds the
-- opening state.
use Rattle.std.proofs.Common.{[], refl, sym, subst}
use Rattle.sqlite.specs.Effect.{Database}
use Rattle.broker_core.{specs.{Text.{Text}, State.{opening}}, proofs.SoundContents.{OpeningIsSound-holds}}
use Rattle.broker_tables.specs.{Making.{HasTables}, Format1.{HoldsFormat1, format_1_tables, format_1}}
use Rattle.broker_tables.specs.Holds.{AreTeams, ArePacticipants, AreVersions, AreBranches, AreEnvironments, AreGrants, AreContents, AreContracts, AreResults, AreLatest, AreDeployed, AreReleased}
use Rattle.command_facts.specs.Primitives.{broker_primitives}
use Rattle.broker_database.specs.Migration.{StoresFormat1}

HoldsFormat1-opening : (office : Text) (db : Database) → HasTables format_1_tables format_1 office db → HoldsFormat1 db (opening office)
HoldsFormat1-opening office db has = let e = has.empty in record {
  schema = has.schema;
  kept = has.kept;
  empty = tt;
  meta = has.meta;
  teams = subst (AreTeams (opening office).teams) (sym (e.1.0 refl)) (λ t. refl);
  pacticipants = subst (ArePacticipants (opening office).pacticipants) (sym (e.1.1.0 refl)) (λ p. refl);
  versions = subst (AreVersions []) (sym (e.1.1.1.0 refl)) refl;
  branches = subst (AreBranches [] (opening office).branches) (sym (e.1.1.1.1.0 refl)) (λ v b. refl);
  environments = subst (λ rows. AreEnvironments (opening office).environments rows []) (sym (e.1.1.1.1.1.0 refl)) (λ q. refl);
  grants = subst (AreGrants (opening office).grants) (sym (e.1.1.1.1.1.1.0 refl)) (λ t q. refl);
  contents = subst (AreContents []) (sym (e.1.1.1.1.1.1.1.0 refl)) refl;
  contracts = subst (AreContracts [] (opening office).contracts) (sym (e.1.1.1.1.1.1.1.1.0 refl)) (λ v p. refl);
  results = subst (λ rows. AreResults [] [] rows []) (sym (e.1.1.1.1.1.1.1.1.1.0 refl)) refl;
  latest = subst (AreLatest (opening office)) (sym (e.1.1.1.1.1.1.1.1.1.1.0 refl)) (λ c v. refl);
  deployed = subst (AreDeployed [] (opening office).deployed) (sym (e.1.1.1.1.1.1.1.1.1.1.1.0 refl)) (λ q p i. refl);
  released = subst (AreReleased [] (opening office).released) (sym (e.1.1.1.1.1.1.1.1.1.1.1.1.0 refl)) (λ q v. refl);
}

-- so the premise of a migration is met
pub StoresFormat1-opening : (office : Text) (db : Database) → HasTables format_1_tables format_1 office db → StoresFormat1 db (opening office)
StoresFormat1-opening office db has = record { tables = HoldsFormat1-opening office db has; contents = OpeningIsSound-holds broker_primitives office }
