use Rattle.broker_tables.proofs.TableQuery.{LooksUpBetween-number}
use Rattle.registry_tables.proofs.BranchNumbers.{below, IsNewestBelow-found, EachReads-branch_number_below}
use Rattle.registry_tables.proofs.branches.branch_number_below.Goals as goal

pub returns : goal.returns
returns g c =
    let said = rw (c.params-to_sql.ensures, c.params-to_sql-2.ensures, c.params-to_sql-3.ensures) at c.find_number.ensures in
    LooksUpBetween-number (below c.args.pacticipant.now c.args.branch.now c.args.below) _ _ (λ s held rows h found read. IsNewestBelow-found c.args.pacticipant.now c.args.branch.now c.args.below _ rows found s held h read)
    (EachReads-branch_number_below c.args.pacticipant.now c.args.branch.now c.args.below _) said.leaves said.cause
