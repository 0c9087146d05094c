use Rattle.std.proofs.Common.{◌∷◌, [], refl, subst}
use Rattle.broker_core.specs.{declared.command.Command.TheVariants.{PostReplies}, declared.policy.Rule.TheVariants.{OwnerToVerify}, Contents.{HasSoundContents}}
use Rattle.contract_commands.specs.{Pacts.{Reaches}, Checks.{Checks, CanCheck}}
use Rattle.contract_commands.proofs.CheckLemmas.{replies_refused, replies_checked, step_checked, HasSoundContents-pact}
use Rattle.contract_commands.proofs.ResultLemmas.{HasPacticipant-of_allowed}
use Rattle.command_facts.specs.{Performs.{CallersStep, IsStepOf, IsToChange}, Primitives.{broker_primitives}}
use Rattle.command_facts.proofs.PerformLemmas.{PerformsBetween-query_then_allowed, PerformsBetween-query_answer}
use Rattle.command_facts.proofs.ShortTexts.{IsName-short, IsName-optional_short}
use Rattle.broker_tables.proofs.FailLemmas.{FailsFromBetween-after_query, FailsFromBetween-weaken}
use Rattle.contract_commands.proofs.replies.check_replies.Goals as goal

pub returns-in-Ok-2-clause-answers : goal.returns-in-Ok-2-clause-answers
returns-in-Ok-2-clause-answers g c = λ body reads.
    let caller = c.args.caller.now in
    let path = c.args.path.now in
    let r = c.args.report.now in
    let command = PostReplies path r body in
    PerformsBetween-query_then_allowed _ _ _ c.in-Ok.value c.check_content.result _ _ _ (CallersStep caller command)
    (λ s reach.
    let reached = subst (λ q. Reaches s caller path OwnerToVerify (path.provider ∷ []) q) c.in-Ok-2.is reach in
    let none = reached.1 command refl in
    (HasPacticipant-of_allowed s caller path command refl none, λ out checks. replies_checked s caller path r body c.args.replies.now reads out c.in-Ok-2.content reached.0 none checks))
    c.in-Ok.ensures.call c.check_content.ensures.answers

pub returns-in-Ok-2-clause-failure : goal.returns-in-Ok-2-clause-failure
returns-in-Ok-2-clause-failure g c = λ body reads.
    let caller = c.args.caller.now in
    let path = c.args.path.now in
    let r = c.args.report.now in
    let replies = c.args.replies.now in
    let content = c.in-Ok-2.content in
    let command = PostReplies path r body in
    FailsFromBetween-weaken _ _ _ _ c.check_content.result _ _ (λ long named. long (IsName-short _ named.0.0, (IsName-short _ named.1.0, (IsName-optional_short _ named.1.1, tt))))
    (FailsFromBetween-after_query _ _ _ _ c.in-Ok.value c.check_content.result _ _ (HasSoundContents broker_primitives) (CanCheck path.provider content)
    (IsToChange (IsStepOf caller command)) (IsToChange (λ s out. Checks s path.provider r content replies out))
    (λ s held sound reach.
    let reached = subst (λ q. Reaches s caller path OwnerToVerify (path.provider ∷ []) q) c.in-Ok-2.is reach in
    let none = reached.1 command refl in
    ((HasPacticipant-of_allowed s caller path command refl none, HasSoundContents-pact s path content sound reached.0), λ made. (made.0, made.1, step_checked s caller path r body replies reads made.0 made.1 content sound reached.0 none made.2)))
    c.in-Ok.ensures.call c.check_content.ensures.answers c.check_content.ensures.failure)

pub returns-in-Err-2-clause-answers : goal.returns-in-Err-2-clause-answers
returns-in-Err-2-clause-answers g c = λ body reads.
    let caller = c.args.caller.now in
    let path = c.args.path.now in
    let r = c.args.report.now in
    PerformsBetween-query_answer _ _ c.in-Ok.value c.in-Err-2.answer _ (CallersStep caller (PostReplies path r body))
    (λ s reach. replies_refused s caller path r body c.args.replies.now reads c.in-Err-2.answer (subst (λ q. Reaches s caller path OwnerToVerify (path.provider ∷ []) q) c.in-Err-2.is reach (PostReplies path r body) refl))
    c.in-Ok.ensures.call
