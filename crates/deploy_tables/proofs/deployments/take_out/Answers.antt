use Rattle.std.proofs.Common.{Bool, Err}
use Rattle.sqlite.specs.Held.{state}
use Rattle.table_access.proofs.CallLemmas.{CallsBetween-then_Ok}
use Rattle.broker_tables.proofs.{QueryLemmas.{FailsOnlyBy-of_cause}, Removed.{FailsToRun-delete}}
use Rattle.deploy_tables.proofs.{DeployedState.{HoldsAfter-TakesOutAndReports, HoldsAfter-FindsNothing}, DeployedRows.{ending}}
use Rattle.deploy_tables.proofs.deployments.take_out.Goals as goal

pub returns-clause-taken : goal.returns-clause-taken
returns-clause-taken g c =
    CallsBetween-then_Ok _ _ c.in-Ok.value _ _ _ (λ h s held version. HoldsAfter-TakesOutAndReports c.args.environment.now c.args.pacticipant.now c.args.instance.now c.args.number _ _ c.in-Ok.value s held h version)
    (rw (c.params-to_sql.ensures, c.params-to_sql-2.ensures, c.params-to_sql-3.ensures, c.params-to_sql-4.ensures) at c.in-Ok.ensures.leaves)

pub returns-clause-unknown : goal.returns-clause-unknown
returns-clause-unknown g c =
    CallsBetween-then_Ok _ _ c.in-Ok.value _ _ _ (λ h s held none. HoldsAfter-FindsNothing c.args.environment.now c.args.pacticipant.now c.args.instance.now c.args.number _ _ c.in-Ok.value s held h none)
    (rw (c.params-to_sql.ensures, c.params-to_sql-2.ensures, c.params-to_sql-3.ensures, c.params-to_sql-4.ensures) at c.in-Ok.ensures.leaves)

pub returns-in-Err-clause-failure : goal.returns-in-Err-clause-failure
returns-in-Err-clause-failure g c =
    let old = state g.S.Store c.args.conn.now in
    let new = state g.S.Store c.change_counted.new.conn in
    FailsOnlyBy-of_cause {A = Bool} old new (Err c.in-Err.fault) _ _ (λ s here. FailsToRun-delete (ending c.args.environment.now c.args.pacticipant.now c.args.instance.now c.args.number) old new here.held.broker here.unlimited)
    (rw (c.params-to_sql.ensures, c.params-to_sql-2.ensures, c.params-to_sql-3.ensures, c.params-to_sql-4.ensures) at c.in-Err.ensures.cause)
