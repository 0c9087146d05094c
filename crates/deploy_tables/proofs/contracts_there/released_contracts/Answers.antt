use Rattle.broker_tables.proofs.TableQuery.{LooksUpBetween-list}
use Rattle.deploy_tables.proofs.{ContractsThere.{of_released, ReportsContracts-released}, ReadableRows.{EachReads-contracts}}
use Rattle.deploy_tables.proofs.contracts_there.released_contracts.Goals as goal

pub returns : goal.returns
returns g c =
    let said = rw (c.params-to_sql.ensures, c.params-to_sql-2.ensures) at c.list_of.ensures in
    LooksUpBetween-list (of_released c.args.environment.now c.args.provider.now) _ _ (λ row fault why is. why.1) (λ s held rows h list are. ReportsContracts-released _ s held c.args.environment.now c.args.provider.now rows list.items h are)
    (EachReads-contracts (of_released c.args.environment.now c.args.provider.now) _) said.leaves said.cause
