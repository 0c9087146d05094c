use Rattle.broker_tables.proofs.Alters.{CallsStoreBetween-alters, IfErr-failure}
use Rattle.deploy_tables.proofs.ReleasedRows.{HoldsAfter-RecordsReleased, EndsFrom-MayBeReleased}
use Rattle.deploy_tables.proofs.releases.record_released.Goals as goal

pub returns-clause-changes : goal.returns-clause-changes
returns-clause-changes g c = CallsStoreBetween-alters (HoldsAfter-RecordsReleased c.args.environment.now c.args.number _ _) (rw (c.params-to_sql.ensures, c.params-to_sql-2.ensures) at c.change.ensures.leaves)

pub returns-clause-failure : goal.returns-clause-failure
returns-clause-failure g c = IfErr-failure c.change.result (EndsFrom-MayBeReleased c.args.environment.now c.args.number _ _) (rw (c.params-to_sql.ensures, c.params-to_sql-2.ensures) at c.change.ensures.cause)
