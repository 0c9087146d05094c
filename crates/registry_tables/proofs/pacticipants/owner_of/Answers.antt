use Rattle.std.proofs.{Common.{◌∙◌}, lemmas.Result.{IfErr-weaker}}
use Rattle.broker_tables.proofs.TableQuery.{LooksUpBetween-text, FailsToTake-no_row_shown}
use Rattle.registry_tables.proofs.TeamRows.{owner, IsShown-owner, FirstReads-owner, FirstShown-no_text}
use Rattle.registry_tables.proofs.pacticipants.owner_of.Goals as goal

pub returns-clause-answers : goal.returns-clause-answers
returns-clause-answers g c =
    let said = rw c.params-to_sql.ensures at c.find_text.ensures in
    LooksUpBetween-text (owner c.args.pacticipant.now) _ _ (λ s held rows h found is. is ∙ IsShown-owner c.args.pacticipant.now _ rows s held h) (FirstReads-owner c.args.pacticipant.now _) said.leaves said.cause

pub returns-clause-missing : goal.returns-clause-missing
returns-clause-missing g c clean s here none =
    let said = rw c.params-to_sql.ensures at c.find_text.ensures in
    let unseen = FirstShown-no_text (owner c.args.pacticipant.now) _ (λ rows h. IsShown-owner c.args.pacticipant.now _ rows s here.held h ∙ none) in
    IfErr-weaker c.find_text.result _ _ (FailsToTake-no_row_shown (owner c.args.pacticipant.now) _ _ s here unseen) (said.cause clean)
