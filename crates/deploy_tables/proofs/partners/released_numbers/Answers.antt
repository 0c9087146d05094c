use Rattle.std.proofs.lemmas.Result.{IfOk-weaker}
use Rattle.sqlite.specs.Held.{state}
use Rattle.broker_tables.proofs.TableQuery.{LooksUpBetween-list}
use Rattle.deploy_tables.proofs.{PartnerRows.{Holds-AreNumbered}, ReleasedRows.{release_numbers, AreReleasedNumbers-listed}}
use Rattle.deploy_tables.proofs.{ReadableRows.{EachReads-release_numbers}, AnyThere.{numbers_there}}
use Rattle.deploy_tables.proofs.partners.released_numbers.Goals as goal

pub returns-clause-answers : goal.returns-clause-answers
returns-clause-answers g c =
    let said = rw c.params-to_sql.ensures at c.list_of.ensures in
    LooksUpBetween-list (release_numbers c.args.environment.now) _ _ (λ row fault why. why.0)
    (λ s held rows h list are. (AreReleasedNumbers-listed _ s held c.args.environment.now rows list.items h are, Holds-AreNumbered _ s held c.args.environment.now))
    (EachReads-release_numbers c.args.environment.now _) said.leaves said.cause

pub returns-clause-named : goal.returns-clause-named
returns-clause-named g c clean asked =
    let old = state g.S.Store c.args.conn.now in
    let new = state g.S.Store c.list_of.new.conn in
    IfOk-weaker c.list_of.result _ _ (λ list returned. numbers_there c.args.environment.now old new asked.1 returned.0 list.items returned.1 returned.2) ((rw c.params-to_sql.ensures at c.list_of.ensures.leaves).ok clean)
