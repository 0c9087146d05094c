use Rattle.std.proofs.lemmas.Result.{IfOk-weaker}
use Rattle.sqlite.specs.Held.{state}
use Rattle.broker_tables.proofs.TableQuery.{LooksUpBetween-list, TakesNoMemoryBetween-list}
use Rattle.deploy_tables.proofs.{ReleasedRows.{releases, Lists-releases}, ReadableRows.{EachReads-releases}, AnyThere.{EachReleasedIsThere-read}}
use Rattle.deploy_tables.proofs.listings.released.Goals as goal

pub returns-clause-answers : goal.returns-clause-answers
returns-clause-answers g c =
    let said = rw c.params-to_sql.ensures at c.list_of.ensures in
    LooksUpBetween-list (releases c.args.environment.now) _ _ (λ row fault why. why.0) (λ s held rows h list are. Lists-releases _ s held c.args.environment.now rows list.items h are)
    (EachReads-releases c.args.environment.now _) said.leaves said.cause

pub returns-clause-named : goal.returns-clause-named
returns-clause-named g c clean asked =
    let old = state g.S.Store c.args.conn.now in
    let new = state g.S.Store c.list_of.new.conn in
    IfOk-weaker c.list_of.result _ _ (λ list returned. EachReleasedIsThere-read c.args.environment.now old new asked.1 returned.0 list.items returned.1 returned.2) ((rw c.params-to_sql.ensures at c.list_of.ensures.leaves).ok clean)

pub returns-clause-missing : goal.returns-clause-missing
returns-clause-missing g c =
    let said = rw c.params-to_sql.ensures at c.list_of.ensures in
    TakesNoMemoryBetween-list (releases c.args.environment.now) _ _ c.list_of.result _ (λ row is. (record { pacticipant = is.0.1.0; name = is.1.1.0 }, (is.0.1.1, is.1.1.1)))
    (λ s held none rows h items are x has. let yes = ((Lists-releases _ s held c.args.environment.now rows items h are).exactly x).0 has in let no = none x in cc)
    (EachReads-releases c.args.environment.now _) said.cause
