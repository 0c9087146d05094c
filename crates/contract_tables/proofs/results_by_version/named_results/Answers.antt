use Rattle.broker_tables.proofs.TableQuery.{LooksUpBetween-list}
use Rattle.contract_tables.proofs.{VerifiedList.{verifiers, Lists-verifiers}, ReadableRows.{EachReads-verifiers}}
use Rattle.contract_tables.proofs.results_by_version.named_results.Goals as goal

pub returns : goal.returns
returns g c =
    let said = rw (c.params-to_sql.ensures, c.params-to_sql-2.ensures) at c.list_of.ensures in
    LooksUpBetween-list (verifiers c.args.content c.args.provider.now) _ _ (λ row fault why. why.0) (λ s held rows h list are. Lists-verifiers _ s held c.args.content c.args.provider.now rows list.items h are)
    (EachReads-verifiers c.args.content c.args.provider.now _) said.leaves said.cause
