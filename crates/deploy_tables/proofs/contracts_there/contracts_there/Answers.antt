use Rattle.deploy_tables.proofs.{ContractsThere.{ReportsContracts-append}, MatrixLoop.{LooksUpBetween-then_failed, LooksUpBetween-from_both}}
use Rattle.deploy_tables.proofs.contracts_there.contracts_there.Goals as goal

pub returns-clause-answers : goal.returns-clause-answers
returns-clause-answers g c =
    LooksUpBetween-from_both _ _ _ _ _ _ _ _ _ (λ s one two. ReportsContracts-append s c.args.environment.now c.args.provider.now _ _ _ one two c.in-Ok-add.ensures.added)
    c.in-Ok.ensures.answers c.in-Ok-released_contracts.ensures

pub returns-in-Err-released_contracts-clause-answers : goal.returns-in-Err-released_contracts-clause-answers
returns-in-Err-released_contracts-clause-answers g c = LooksUpBetween-then_failed _ _ _ _ _ _ _ _ c.in-Ok.ensures.answers c.in-Err-released_contracts.ensures
