use Rattle.std.proofs.lemmas.Result.{IfOk-weaker}
use Rattle.sqlite.specs.Held.{state}
use Rattle.broker_tables.proofs.{TableQuery.{LooksUpBetween-list}, AnyTables.{Shown-leaves_all}}
use Rattle.deploy_tables.proofs.{VersionNames.{names_of, Contains-names_of_number}, ReadableRows.{EachReads-names_of}, AnyThere.{names_asks, version_there}}
use Rattle.deploy_tables.proofs.version_names.versions_numbered.Goals as goal

pub returns-clause-answers : goal.returns-clause-answers
returns-clause-answers g c =
    let said = rw c.params-to_sql.ensures at c.list_of.ensures in
    LooksUpBetween-list (names_of c.args.number) _ _ (λ row fault why. why.0) (λ s held rows h list are. Contains-names_of_number _ s held c.args.number rows list.items h are)
    (EachReads-names_of c.args.number _) said.leaves said.cause

pub returns-clause-named : goal.returns-clause-named
returns-clause-named g c clean asked =
    let old = state g.S.Store c.args.conn.now in
    let new = state g.S.Store c.list_of.new.conn in
    IfOk-weaker c.list_of.result _ _ (λ list returned. version_there c.args.number old new asked.1 returned.0 returned.1 list.items returned.2) ((rw c.params-to_sql.ensures at c.list_of.ensures.leaves).ok clean)

pub returns-clause-stays : goal.returns-clause-stays
returns-clause-stays g c clean asked =
    let old = state g.S.Store c.args.conn.now in
    let new = state g.S.Store c.list_of.new.conn in
    IfOk-weaker c.list_of.result _ _ (λ list returned. Shown-leaves_all old new (names_asks old.now.schema asked.1 c.args.number) returned.0 returned.1) ((rw c.params-to_sql.ensures at c.list_of.ensures.leaves).ok clean)
