use Rattle.broker_tables.proofs.TableQuery.{LooksUpBetween-number, IfNoVersionBetween-number}
use Rattle.contract_tables.proofs.{ContractRows.{content, IsShown-contract_content}, ReadableRows.{EachReads-contract_content, NoneFor-contracts}}
use Rattle.contract_tables.proofs.contracts.contract_of.Goals as goal

pub returns-clause-answers : goal.returns-clause-answers
returns-clause-answers g c =
    let said = rw (c.params-to_sql.ensures, c.params-to_sql-2.ensures) at c.find_number.ensures in
    LooksUpBetween-number (content c.args.version_number c.args.provider.now) _ _ (λ s held rows h found read v is. IsShown-contract_content c.args.version_number c.args.provider.now _ s v held is rows h found read) (EachReads-contract_content c.args.version_number c.args.provider.now _) said.leaves said.cause

pub returns-clause-unknown : goal.returns-clause-unknown
returns-clause-unknown g c =
    let said = rw (c.params-to_sql.ensures, c.params-to_sql-2.ensures) at c.find_number.ensures in
    IfNoVersionBetween-number (content c.args.version_number c.args.provider.now) _ _ (NoneFor-contracts (content c.args.version_number c.args.provider.now) _) said.leaves
