use Rattle.broker_tables.proofs.TableQuery.{LooksUpBetween-list}
use Rattle.deploy_tables.proofs.{PartnerRows.{numbers_of, ArePartners-deployed}, ReadableRows.{EachReads-deployed_numbers}}
use Rattle.deploy_tables.proofs.partners.deployed_partners.Goals as goal

pub returns : goal.returns
returns g c =
    let said = rw (c.params-to_sql.ensures, c.params-to_sql-2.ensures) at c.list_of.ensures in
    LooksUpBetween-list (numbers_of c.args.environment.now c.args.provider.now) _ _ (λ row fault why is. why.1) (λ s held rows h list are. ArePartners-deployed _ s held c.args.environment.now c.args.provider.now rows list.items h are)
    (EachReads-deployed_numbers (numbers_of c.args.environment.now c.args.provider.now) _) said.leaves said.cause
