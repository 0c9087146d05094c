use Rattle.broker_tables.proofs.Alters.{CallsStoreBetween-alters, IfErr-failure}
use Rattle.deploy_tables.proofs.DeployedState.{HoldsAfter-RecordsDeployed, EndsFrom-MayBeDeployed}
use Rattle.deploy_tables.proofs.deployments.record_deployed.Goals as goal

pub returns-clause-changes : goal.returns-clause-changes
returns-clause-changes g c = CallsStoreBetween-alters (HoldsAfter-RecordsDeployed c.args.environment.now c.args.pacticipant.now c.args.instance.now c.args.number _ _) (rw (c.params-to_sql.ensures, c.params-to_sql-2.ensures, c.params-to_sql-3.ensures, c.params-to_sql-4.ensures) at c.change.ensures.leaves)

pub returns-clause-failure : goal.returns-clause-failure
returns-clause-failure g c = IfErr-failure c.change.result (EndsFrom-MayBeDeployed c.args.environment.now c.args.pacticipant.now c.args.instance.now c.args.number _ _) (rw (c.params-to_sql.ensures, c.params-to_sql-2.ensures, c.params-to_sql-3.ensures, c.params-to_sql-4.ensures) at c.change.ensures.cause)
