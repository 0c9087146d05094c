use Rattle.std.proofs.{Common.{◌∙◌}, lemmas.Result.{IfErr-weaker}}
use Rattle.broker_tables.proofs.TableQuery.{LooksUpBetween-text, FailsToTake-no_row_shown}
use Rattle.registry_tables.proofs.TeamRows.{token, IsShown-token, FirstReads-token, FirstShown-no_text}
use Rattle.registry_tables.proofs.teams.digest_of.Goals as goal

pub returns-clause-answers : goal.returns-clause-answers
returns-clause-answers g c =
    let said = rw c.params-to_sql.ensures at c.find_text.ensures in
    LooksUpBetween-text (token c.args.team.now) _ _ (λ s held rows h found is. is ∙ IsShown-token c.args.team.now _ rows s held h) (FirstReads-token c.args.team.now _) said.leaves said.cause

pub returns-clause-missing : goal.returns-clause-missing
returns-clause-missing g c clean s here none =
    let said = rw c.params-to_sql.ensures at c.find_text.ensures in
    let unseen = FirstShown-no_text (token c.args.team.now) _ (λ rows h. IsShown-token c.args.team.now _ rows s here.held h ∙ none) in
    IfErr-weaker c.find_text.result _ _ (FailsToTake-no_row_shown (token c.args.team.now) _ _ s here unseen) (said.cause clean)
