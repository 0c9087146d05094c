use Rattle.broker_tables.proofs.Alters.{CallsStoreBetween-alters, IfErr-failure}
use Rattle.registry_tables.proofs.GrantRows.{HoldsAfter-AddsGrant, EndsFrom-AddsGrant}
use Rattle.registry_tables.proofs.grants.add_grant.Goals as goal

pub returns-clause-changes : goal.returns-clause-changes
returns-clause-changes g c = CallsStoreBetween-alters (HoldsAfter-AddsGrant c.args.team.now c.args.environment.now _ _) (rw (c.params-to_sql.ensures, c.params-to_sql-2.ensures) at c.change.ensures.leaves)

pub returns-clause-failure : goal.returns-clause-failure
returns-clause-failure g c = IfErr-failure c.change.result (EndsFrom-AddsGrant c.args.team.now c.args.environment.now _ _) (rw (c.params-to_sql.ensures, c.params-to_sql-2.ensures) at c.change.ensures.cause)
