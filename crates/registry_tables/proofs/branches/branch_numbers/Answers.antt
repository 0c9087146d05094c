use Rattle.broker_tables.proofs.TableQuery.{LooksUpBetween-list, TakesNoMemoryBetween-list}
use Rattle.registry_tables.proofs.BranchNumbers.{numbers, Lists-branch_numbers, EachReads-branch_numbers}
use Rattle.registry_tables.proofs.branches.branch_numbers.Goals as goal

pub returns-clause-answers : goal.returns-clause-answers
returns-clause-answers g c =
    let said = rw (c.params-to_sql.ensures, c.params-to_sql-2.ensures) at c.list_of.ensures in
    LooksUpBetween-list (numbers c.args.pacticipant.now c.args.branch.now) _ _ (λ row fault why is. why.1)
    (λ s held rows h list read. Lists-branch_numbers c.args.pacticipant.now c.args.branch.now _ rows list.items s held h read)
    (EachReads-branch_numbers c.args.pacticipant.now c.args.branch.now _) said.leaves said.cause

pub returns-clause-missing : goal.returns-clause-missing
returns-clause-missing g c =
    let said = rw (c.params-to_sql.ensures, c.params-to_sql-2.ensures) at c.list_of.ensures in
    TakesNoMemoryBetween-list (numbers c.args.pacticipant.now c.args.branch.now) _ _ c.list_of.result _ (λ row is. (is.1.0, is.1.1))
    (λ s held none rows h items read x has. none x (((Lists-branch_numbers c.args.pacticipant.now c.args.branch.now _ rows items s held h read).exactly x).0 has))
    (EachReads-branch_numbers c.args.pacticipant.now c.args.branch.now _) said.cause
