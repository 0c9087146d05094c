use Rattle.broker_tables.proofs.Alters.{CallsStoreBetween-alters, IfErr-failure}
use Rattle.registry_tables.proofs.VersionRows.{HoldsAfter-PutsVersion, EndsFrom-AllowsVersionAs}
use Rattle.registry_tables.proofs.versions.put_version.Goals as goal

pub returns-clause-changes : goal.returns-clause-changes
returns-clause-changes g c = CallsStoreBetween-alters (HoldsAfter-PutsVersion c.args.number c.args.pacticipant.now c.args.version.now _ _) (rw (c.params-to_sql.ensures, c.params-to_sql-2.ensures, c.params-to_sql-3.ensures) at c.change.ensures.leaves)

pub returns-clause-failure : goal.returns-clause-failure
returns-clause-failure g c = IfErr-failure c.change.result (EndsFrom-AllowsVersionAs c.args.number c.args.pacticipant.now c.args.version.now _ _) (rw (c.params-to_sql.ensures, c.params-to_sql-2.ensures, c.params-to_sql-3.ensures) at c.change.ensures.cause)
