use Rattle.std.proofs.Common.{true, ◌≡◌, ◌==◌, ℕ, List, Some, length, ap, ◌∙◌, arith}
use Rattle.sqlite.specs.Held.{state}
use Rattle.broker_core.specs.{State.{checked_result}, Change.{Transition, report}, declared.answer.Answer.{Answer}, Machine.{is_empty, report_replies}}
use Rattle.broker_core.specs.declared.answer.Detail.TheVariants.{Replies}
use Rattle.command_facts.specs.{declared.checking.Comparison.TheVariants.{Failing}, Performs.{IsToChange}}
use Rattle.command_facts.proofs.PerformLemmas.{PerformsWhereBetween-change_answer}
use Rattle.contract_commands.specs.{Checks.{Leads}, Results.{CanReceive, IsToReport, returned_as, reported_version}, declared.results.Reported.{Reported}}
use Rattle.contract_commands.proofs.CheckLemmas.{length-zero_is_empty}
use Rattle.broker_tables.proofs.FailLemmas.{FailsFromBetween-pass_Err}
use Rattle.contract_commands.proofs.replies.report_failing.Goals as goal

pub returns-clause-answers : goal.returns-clause-answers
returns-clause-answers g c =
    let it = c.in-Ok.value in
    let failing = c.args.failing in
    let content = c.args.content in
    let v = reported_version c.args.provider.now c.args.report.now in
    let run = c.args.report.now.run in
    let pass = c.is_empty-pass.result in
    let passes : pass ≡ is_empty failing = c.is_empty-pass.ensures ∙ ap (λ (xs : List ℕ). length xs == 0) c.as_slice.ensures ∙ length-zero_is_empty failing in
    PerformsWhereBetween-change_answer 4 (omega arith) _ _ it c.replies_answer.result _ _ _ (λ s out. out ≡ report_replies s content v run (Some failing))
    (λ s may. (
      may,
      λ t reports.
          let returned : ◌≡◌ {A = Transition} (record { answer = c.replies_answer.result; state = t }) (record { answer = returned_as (λ n. Replies failing n pass) it; state = t }) = (λ i. record { answer = c.replies_answer.ensures i; state = t }) in
          returned ∙ reports (λ n. Replies failing n pass) ∙ (λ i. report s (checked_result content v (passes i) run) (λ n. Replies failing n (passes i))),
    ))
    c.in-Ok.ensures.answers

pub returns-in-Err-clause-failure : goal.returns-in-Err-clause-failure
returns-in-Err-clause-failure g c =
    let provider = c.args.provider.now in
    let r = c.args.report.now in
    let failing = c.args.failing in
    let content = c.args.content in
    let pass = c.is_empty-pass.result in
    let passes : pass ≡ is_empty failing = c.is_empty-pass.ensures ∙ ap (λ (xs : List ℕ). length xs == 0) c.as_slice.ensures ∙ length-zero_is_empty failing in
    FailsFromBetween-pass_Err _ Reported Answer _ _ c.in-Err.fault (CanReceive provider content) (IsToChange (λ s out. Leads s provider r content (Failing failing) out))
    (IsToReport provider r (record { content = content; pass = pass; checked = true }))
    (λ s has made. (
      Replies failing made.0 pass,
      made.1,
      made.2 (λ n. Replies failing n pass) ∙ (λ i. report s (checked_result content (reported_version provider r) (passes i) r.run) (λ n. Replies failing n (passes i))),
    )) c.in-Err.ensures.failure
