use Rattle.std.proofs.Common.{◌≡◌, ◌∙◌, false, arith}
use Rattle.sqlite.specs.Held.{state}
use Rattle.broker_core.specs.{State.{claimed_result}, Change.{Transition, report}, declared.answer.Answer.{Answer}, declared.answer.Detail.TheVariants.{Result}}
use Rattle.contract_commands.specs.{Results.{CanReceive, IsToReport, Claims, returned_as, reported_version}, declared.results.Reported.{Reported}}
use Rattle.command_facts.{specs.Performs.{IsToChange}, proofs.PerformLemmas.{PerformsWhereBetween-change_answer}}
use Rattle.broker_tables.proofs.FailLemmas.{FailsFromBetween-pass_Err}
use Rattle.contract_commands.proofs.results.claim.Goals as goal

pub returns-clause-answers : goal.returns-clause-answers
returns-clause-answers g c =
    let it = c.in-Ok.value in
    PerformsWhereBetween-change_answer 4 (omega arith) _ _ it c.answer_result.result _ _ _
    (λ s out. out ≡ report s (claimed_result c.args.content (reported_version c.args.provider.now c.args.report.now) c.args.success c.args.report.now.run) Result)
    (λ s may. (
      may,
      λ t reports.
          let returned : ◌≡◌ {A = Transition} (record { answer = c.answer_result.result; state = t }) (record { answer = returned_as Result it; state = t }) = (λ i. record { answer = c.answer_result.ensures i; state = t }) in
          returned ∙ reports Result,
    ))
    c.in-Ok.ensures.answers

pub returns-in-Err-clause-failure : goal.returns-in-Err-clause-failure
returns-in-Err-clause-failure g c =
    let provider = c.args.provider.now in
    let report = c.args.report.now in
    FailsFromBetween-pass_Err _ Reported Answer _ _ c.in-Err.fault (CanReceive provider c.args.content) (IsToChange (Claims provider report c.args.content c.args.success)) (IsToReport provider report (record { content = c.args.content; pass = c.args.success; checked = false }))
    (λ s has made. (Result made.0, made.1, made.2 Result)) c.in-Err.ensures.failure
