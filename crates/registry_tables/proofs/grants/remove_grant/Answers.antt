use Rattle.std.proofs.lemmas.Result.{IfErr-weaker}
use Rattle.broker_tables.proofs.{Alters.{CallsStoreBetween-alters}, Removed.{FailsToRun-delete}}
use Rattle.registry_tables.proofs.GrantRows.{HoldsAfter-RemovesGrant, TakesFrom-grant}
use Rattle.registry_tables.proofs.grants.remove_grant.Goals as goal

pub returns-clause-changes : goal.returns-clause-changes
returns-clause-changes g c = CallsStoreBetween-alters (HoldsAfter-RemovesGrant c.args.team.now c.args.environment.now _ _) (rw (c.params-to_sql.ensures, c.params-to_sql-2.ensures) at c.change.ensures.leaves)

pub returns-clause-failure : goal.returns-clause-failure
returns-clause-failure g c clean s here =
    IfErr-weaker c.change.result _ _ (FailsToRun-delete (TakesFrom-grant c.args.team.now c.args.environment.now) _ _ here.held.broker here.unlimited) ((rw (c.params-to_sql.ensures, c.params-to_sql-2.ensures) at c.change.ensures.cause) clean)
