use Rattle.std.proofs.lemmas.Result.{IfOk-weaker, IfErr-weaker, MatchResult-from_both}
use Rattle.sqlite.specs.Held.{state}
use Rattle.broker_tables.proofs.TableQuery.{LooksUpBetween-list, IfNoVersionBetween-list}
use Rattle.contract_tables.proofs.{VersionResults.{marks, Lists-marks}, ReadableRows.{EachReads-marks, NoneFor-version_results}}
use Rattle.contract_tables.proofs.AnyLatest.{IsCheckedFor-found, FailsAsListed-marks}
use Rattle.contract_tables.proofs.version_results.checked_of.Goals as goal

pub returns-clause-answers : goal.returns-clause-answers
returns-clause-answers g c =
    let said = rw c.params-to_sql.ensures at c.list_of.ensures in
    LooksUpBetween-list (marks c.args.version_number) _ _ (λ row fault why is. why.1) (λ s held rows h list are v is. Lists-marks _ s held v c.args.version_number is rows list.items h are) (EachReads-marks c.args.version_number _) said.leaves said.cause

pub returns-clause-unknown : goal.returns-clause-unknown
returns-clause-unknown g c =
    IfNoVersionBetween-list (marks c.args.version_number) _ _ (NoneFor-version_results (marks c.args.version_number) _) (rw c.params-to_sql.ensures at c.list_of.ensures.leaves)

pub returns-clause-mark : goal.returns-clause-mark
returns-clause-mark g c clean asked =
    let old = state g.S.Store c.args.conn.now in
    let new = state g.S.Store c.list_of.new.conn in
    let said = rw c.params-to_sql.ensures at c.list_of.ensures in
    MatchResult-from_both c.list_of.result _ _
    (IfOk-weaker c.list_of.result _ _ (λ list returned. IsCheckedFor-found c.args.version_number old new asked.1 returned.0 returned.1 list.items returned.2) (said.leaves.ok clean))
    (IfErr-weaker c.list_of.result _ _ (FailsAsListed-marks c.args.version_number old new asked) (said.cause clean))
