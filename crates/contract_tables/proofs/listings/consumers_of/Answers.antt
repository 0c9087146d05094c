use Rattle.broker_tables.proofs.TableQuery.{LooksUpBetween-list, TakesNoMemoryBetween-list}
use Rattle.contract_tables.proofs.{ContractRows.{users, Lists-users}, ReadableRows.{EachReads-users}}
use Rattle.contract_tables.proofs.listings.consumers_of.Goals as goal

pub returns-clause-answers : goal.returns-clause-answers
returns-clause-answers g c =
    let said = rw (c.params-to_sql.ensures, c.params-to_sql-2.ensures) at c.list_of.ensures in
    LooksUpBetween-list (users c.args.content c.args.provider.now) _ _ (λ row fault why. why.0) (λ s held rows h list are. Lists-users _ s held c.args.content c.args.provider.now rows list.items h are) (EachReads-users c.args.content c.args.provider.now _)
    said.leaves said.cause

pub returns-clause-missing : goal.returns-clause-missing
returns-clause-missing g c =
    let said = rw (c.params-to_sql.ensures, c.params-to_sql-2.ensures) at c.list_of.ensures in
    TakesNoMemoryBetween-list (users c.args.content c.args.provider.now) _ _ c.list_of.result _ (λ row is. (record { pacticipant = is.0.1.0; name = is.1.1.0 }, (is.0.1.1, is.1.1.1)))
    (λ s held none rows h items are x has. none x (((Lists-users _ s held c.args.content c.args.provider.now rows items h are).exactly x).0 has))
    (EachReads-users c.args.content c.args.provider.now _) said.cause
