use Rattle.broker_tables.proofs.Alters.{CallsStoreBetween-alters, IfErr-failure}
use Rattle.registry_tables.proofs.BranchRows.{HoldsAfter-AddsBranch, EndsFrom-AddsBranch}
use Rattle.registry_tables.proofs.branches.add_branch.Goals as goal

pub returns-clause-changes : goal.returns-clause-changes
returns-clause-changes g c = CallsStoreBetween-alters (HoldsAfter-AddsBranch c.args.number c.args.branch.now _ _) (rw (c.params-to_sql.ensures, c.params-to_sql-2.ensures) at c.change.ensures.leaves)

pub returns-clause-failure : goal.returns-clause-failure
returns-clause-failure g c = IfErr-failure c.change.result (EndsFrom-AddsBranch c.args.number c.args.branch.now _ _) (rw (c.params-to_sql.ensures, c.params-to_sql-2.ensures) at c.change.ensures.cause)
