use Rattle.std.proofs.lemmas.Result.{IfOk-weaker}
use Rattle.sqlite.specs.Held.{state}
use Rattle.broker_tables.proofs.TableQuery.{LooksUpBetween-list}
use Rattle.deploy_tables.proofs.{ContractsThere.{of_deployed, ReportsContractsIfAny-deployed}, ReadableRows.{EachShown-ReadsAsContractIfAny}}
use Rattle.deploy_tables.proofs.AnyThere.{HasNull-never_read}
use Rattle.deploy_tables.proofs.contracts_there.contracts_if_any.Goals as goal

pub returns-clause-answers : goal.returns-clause-answers
returns-clause-answers g c =
    let said = rw (c.params-to_sql.ensures, c.params-to_sql-2.ensures) at c.list_of.ensures in
    LooksUpBetween-list (of_deployed c.args.environment.now c.args.provider.now) _ _ (λ row fault why is. why.1) (λ s held rows h list are. ReportsContractsIfAny-deployed _ s held c.args.environment.now c.args.provider.now rows list.items h are)
    (EachShown-ReadsAsContractIfAny c.args.environment.now c.args.provider.now _) said.leaves said.cause

pub returns-clause-null : goal.returns-clause-null
returns-clause-null g c clean asked =
    let old = state g.S.Store c.args.conn.now in
    let new = state g.S.Store c.list_of.new.conn in
    IfOk-weaker c.list_of.result _ _ (λ list returned. HasNull-never_read c.args.environment.now old new asked.1 returned.0 c.args.provider.now list.items returned.1 returned.2)
    ((rw (c.params-to_sql.ensures, c.params-to_sql-2.ensures) at c.list_of.ensures.leaves).ok clean)
