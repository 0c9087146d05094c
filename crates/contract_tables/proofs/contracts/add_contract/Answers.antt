use Rattle.broker_tables.proofs.Alters.{CallsStoreBetween-alters, IfErr-failure}
use Rattle.contract_tables.proofs.ContractRows.{HoldsAfter-AddsContract, EndsFrom-AddsContract}
use Rattle.contract_tables.proofs.contracts.add_contract.Goals as goal

pub returns-clause-changes : goal.returns-clause-changes
returns-clause-changes g c =
    CallsStoreBetween-alters (HoldsAfter-AddsContract c.args.version_number c.args.provider.now c.args.content _ _) (rw (c.params-to_sql.ensures, c.params-to_sql-2.ensures, c.params-to_sql-3.ensures) at c.change.ensures.leaves)

pub returns-clause-failure : goal.returns-clause-failure
returns-clause-failure g c =
    IfErr-failure c.change.result (EndsFrom-AddsContract c.args.version_number c.args.provider.now c.args.content _ _) (rw (c.params-to_sql.ensures, c.params-to_sql-2.ensures, c.params-to_sql-3.ensures) at c.change.ensures.cause)
