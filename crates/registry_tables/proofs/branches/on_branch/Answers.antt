use Rattle.std.proofs.Common.{◌∙◌}
use Rattle.broker_tables.proofs.TableQuery.{LooksUpBetween-is_there, IfNoVersionBetween-is_there}
use Rattle.registry_tables.proofs.BranchRows.{on, IsShown-on_branch, NoneFor-on_branch}
use Rattle.registry_tables.proofs.branches.on_branch.Goals as goal

pub returns-clause-answers : goal.returns-clause-answers
returns-clause-answers g c =
    let said = rw (c.params-to_sql.ensures, c.params-to_sql-2.ensures) at c.has_row.ensures in
    LooksUpBetween-is_there (on c.args.number c.args.branch.now) _ _
    (λ s held rows h has there v is. there ∙ IsShown-on_branch c.args.number c.args.branch.now _ rows s v held is h) said.leaves said.cause

pub returns-clause-unknown : goal.returns-clause-unknown
returns-clause-unknown g c =
    let said = rw (c.params-to_sql.ensures, c.params-to_sql-2.ensures) at c.has_row.ensures in
    IfNoVersionBetween-is_there (on c.args.number c.args.branch.now) _ _ (NoneFor-on_branch c.args.number c.args.branch.now _) said.leaves
