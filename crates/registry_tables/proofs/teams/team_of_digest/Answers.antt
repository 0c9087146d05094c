use Rattle.std.proofs.{Common.{sym, subst, string_bytes}, lemmas.Result.{IfErr-weaker}}
use Rattle.broker_tables.proofs.TableQuery.{LooksUpBetween-text, FailsToTake-no_row_shown}
use Rattle.registry_tables.proofs.TeamRows.{holder, IsShown-team_of_digest, FirstReads-team_of_digest, FirstShown-no_team_of_digest, IsTeamOf, IsTeamOf-by_view}
use Rattle.registry_tables.proofs.teams.team_of_digest.Goals as goal

pub returns-clause-answers : goal.returns-clause-answers
returns-clause-answers g c =
    let said = rw c.params-to_sql.ensures at c.find_text.ensures in
    LooksUpBetween-text (holder c.args.digest.now) _ _ (λ s held rows h found is. IsTeamOf-by_view string_bytes s c.args.digest.now found (subst (IsTeamOf s c.args.digest.now) (sym is) (IsShown-team_of_digest c.args.digest.now _ rows s held h))) (FirstReads-team_of_digest c.args.digest.now _) said.leaves said.cause

pub returns-clause-missing : goal.returns-clause-missing
returns-clause-missing g c clean s here none =
    let said = rw c.params-to_sql.ensures at c.find_text.ensures in
    IfErr-weaker c.find_text.result _ _ (FailsToTake-no_row_shown (holder c.args.digest.now) _ _ s here (FirstShown-no_team_of_digest c.args.digest.now _ s here.held none)) (said.cause clean)
