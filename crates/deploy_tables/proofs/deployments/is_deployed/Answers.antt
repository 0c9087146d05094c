use Rattle.std.proofs.Common.{◌∙◌}
use Rattle.table_access.proofs.ReadLemmas.{number_found as found_number}
use Rattle.broker_tables.proofs.TableQuery.{Shown-IsShown, Shown-now_same, FailsToTake-explained_number}
use Rattle.broker_tables.proofs.QueryLemmas.{LooksUpBetween-read_Ok, LooksUpBetween-read_Err}
use Rattle.deploy_tables.proofs.{DeployedRows.{number_at, number_found}, DeployedState.{is_number-found, is_number-is_text, is_number-unknown_version}}
use Rattle.deploy_tables.proofs.ReadableRows.{EachReads-deployed_numbers}
use Rattle.deploy_tables.proofs.deployments.is_deployed.Goals as goal

pub returns : goal.returns
returns g c =
    let e = c.args.environment.now in
    let p = c.args.pacticipant.now in
    let i = c.args.instance.now in
    let n = c.args.number in
    let found = c.in-Ok.value in
    LooksUpBetween-read_Ok _ _ found c.is_number.result _ _ (λ h s held.
    let returned = c.is_number.ensures ∙ is_number-found found _ n (found_number found h.0 h.2
    ∙ number_found e p i _ h.0 held.broker (Shown-IsShown (number_at e p i) _ _ held.broker h.0 h.1)) in (
      (
        λ v numbered owner. returned ∙ is_number-is_text s.versions p _ (s.deployed (e, p, i)) (held.deployed e p i) v n numbered owner,
        λ none. returned ∙ is_number-unknown_version s.versions p _ (s.deployed (e, p, i)) (held.deployed e p i) n (λ v is owner. none (v, is, owner)),
      ),
      Shown-now_same (number_at e p i) _ _ held.broker h.0 h.1,
    )) (rw (c.params-to_sql.ensures, c.params-to_sql-2.ensures, c.params-to_sql-3.ensures) at c.in-Ok.ensures.leaves)

pub returns-in-Err : goal.returns-in-Err
returns-in-Err g c =
    let said = rw (c.params-to_sql.ensures, c.params-to_sql-2.ensures, c.params-to_sql-3.ensures) at c.in-Err.ensures in
    LooksUpBetween-read_Err _ _ c.in-Err.fault _ _ _ (FailsToTake-explained_number (number_at c.args.environment.now c.args.pacticipant.now c.args.instance.now) _ _ (EachReads-deployed_numbers (number_at c.args.environment.now c.args.pacticipant.now c.args.instance.now) _)) said.leaves said.cause
