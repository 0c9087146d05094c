use Rattle.broker_tables.proofs.QueryLemmas.{LooksUpBetween-other_answer}
use Rattle.deploy_tables.proofs.ContractsThere.{ReportsContracts-filter_map}
use Rattle.deploy_tables.proofs.contracts_there.deployed_contracts.Goals as goal

pub returns-in-Ok-contracts_among-clause-answers : goal.returns-in-Ok-contracts_among-clause-answers
returns-in-Ok-contracts_among-clause-answers g c =
    LooksUpBetween-other_answer _ _ _ c.in-Ok-contracts_among.contracts _ _
    (λ s returned. ReportsContracts-filter_map s c.args.provider.now _ _ _ (rw c.deref.ensures.value at c.in-Ok-contracts_among.ensures) returned) c.in-Ok.ensures.answers
