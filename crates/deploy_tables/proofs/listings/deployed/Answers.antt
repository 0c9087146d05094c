use Rattle.std.proofs.{Common.{sym, ◌∙◌}, lemmas.Result.{IfOk-weaker}}
use Rattle.broker_core.proofs.Lists.{None-not_Some}
use Rattle.sqlite.specs.Held.{state}
use Rattle.broker_tables.proofs.{TableQuery.{LooksUpBetween-list, TakesNoMemoryBetween-list}, AnyTables.{Shown-leaves_all}}
use Rattle.deploy_tables.proofs.{DeployedState.{deployments, Lists-deployments}, ReadableRows.{EachReads-deployments}}
use Rattle.deploy_tables.proofs.AnyThere.{AsksOf-deployed_sql, EachDeployedIsThere-read}
use Rattle.deploy_tables.proofs.listings.deployed.Goals as goal

pub returns-clause-answers : goal.returns-clause-answers
returns-clause-answers g c =
    let said = rw c.params-to_sql.ensures at c.list_of.ensures in
    LooksUpBetween-list (deployments c.args.environment.now) _ _ (λ row fault why. why.0) (λ s held rows h list are. Lists-deployments _ s held c.args.environment.now rows list.items h are)
    (EachReads-deployments c.args.environment.now _) said.leaves said.cause

pub returns-clause-named : goal.returns-clause-named
returns-clause-named g c clean asked =
    let old = state g.S.Store c.args.conn.now in
    let new = state g.S.Store c.list_of.new.conn in
    IfOk-weaker c.list_of.result _ _ (λ list returned. EachDeployedIsThere-read c.args.environment.now old new asked.1 returned.0 list.items returned.1 returned.2) ((rw c.params-to_sql.ensures at c.list_of.ensures.leaves).ok clean)

pub returns-clause-missing : goal.returns-clause-missing
returns-clause-missing g c =
    let said = rw c.params-to_sql.ensures at c.list_of.ensures in
    TakesNoMemoryBetween-list (deployments c.args.environment.now) _ _ c.list_of.result _
    (λ row is. (record { pacticipant = is.0.1.0; instance = is.1.1.0; version = is.2.1.0 }, (is.0.1.1, is.1.1.1, is.2.1.1)))
    (λ s held none rows h items are x has. None-not_Some _ (sym (none x.pacticipant x.instance) ∙ ((Lists-deployments _ s held c.args.environment.now rows items h are).exactly x).0 has))
    (EachReads-deployments c.args.environment.now _) said.cause

pub returns-clause-stays : goal.returns-clause-stays
returns-clause-stays g c clean asked =
    let old = state g.S.Store c.args.conn.now in
    let new = state g.S.Store c.list_of.new.conn in
    IfOk-weaker c.list_of.result _ _ (λ list returned. Shown-leaves_all old new (AsksOf-deployed_sql old.now.schema asked.1 c.args.environment.now) returned.0 returned.1) ((rw c.params-to_sql.ensures at c.list_of.ensures.leaves).ok clean)
