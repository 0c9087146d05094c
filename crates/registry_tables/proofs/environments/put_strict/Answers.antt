use Rattle.broker_tables.proofs.Alters.{CallsStoreBetween-alters, IfErr-failure}
use Rattle.registry_tables.proofs.EnvironmentRows.{HoldsAfter-MakesStrict, EndsFrom-IsLenient}
use Rattle.registry_tables.proofs.environments.put_strict.Goals as goal

pub returns-clause-changes : goal.returns-clause-changes
returns-clause-changes g c = CallsStoreBetween-alters (HoldsAfter-MakesStrict c.args.environment.now _ _) (rw c.params-to_sql.ensures at c.change.ensures.leaves)

pub returns-clause-failure : goal.returns-clause-failure
returns-clause-failure g c = IfErr-failure c.change.result (EndsFrom-IsLenient c.args.environment.now _ _) (rw c.params-to_sql.ensures at c.change.ensures.cause)
