use Rattle.std.proofs.Common.{sym, ◌∙◌}
use Rattle.broker_core.proofs.Lists.{None-not_Some}
use Rattle.broker_tables.proofs.TableQuery.{LooksUpBetween-list, TakesNoMemoryBetween-list, IfNoVersionBetween-list}
use Rattle.contract_tables.proofs.{ContractRows.{own, Lists-contracts}, ReadableRows.{EachReads-own_contracts, NoneFor-contracts}}
use Rattle.contract_tables.proofs.listings.contracts_of.Goals as goal

pub returns-clause-answers : goal.returns-clause-answers
returns-clause-answers g c =
    let said = rw c.params-to_sql.ensures at c.list_of.ensures in
    LooksUpBetween-list (own c.args.version_number) _ _ (λ row fault why. why.0) (λ s held rows h list are v is. Lists-contracts _ s held v c.args.version_number is rows list.items h are) (EachReads-own_contracts c.args.version_number _) said.leaves said.cause

pub returns-clause-unknown : goal.returns-clause-unknown
returns-clause-unknown g c =
    IfNoVersionBetween-list (own c.args.version_number) _ _ (NoneFor-contracts (own c.args.version_number) _) (rw c.params-to_sql.ensures at c.list_of.ensures.leaves)

pub returns-clause-missing : goal.returns-clause-missing
returns-clause-missing g c =
    let said = rw c.params-to_sql.ensures at c.list_of.ensures in
    TakesNoMemoryBetween-list (own c.args.version_number) _ _ c.list_of.result _ (λ row is. (record { provider = is.1.1.0; content = is.0.1.0 }, (is.0.1.1, is.1.1.1)))
    (λ s held none rows h items are x has. None-not_Some _ (sym (none.2 x.provider) ∙ ((Lists-contracts _ s held none.0 c.args.version_number none.1 rows items h are).exactly x).0 has))
    (EachReads-own_contracts c.args.version_number _) said.cause
