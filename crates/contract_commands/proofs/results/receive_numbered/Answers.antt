use Rattle.std.proofs.Common.{◌&&◌, Ok, Err, None, Some, refl, arith}
use Rattle.table_access.proofs.CallLemmas.{CallsBetween-then_Ok}
use Rattle.contract_commands.specs.{Pacts.{HasContent}, Results.{reported_version, reported_result, recorded, AllowsReport, CanReport, IsToReport, Receives}}
use Rattle.contract_commands.{specs.declared.results.Reported.TheVariants.{Recorded, Full}, proofs.NumberingLemmas.{can_name-true}}
use Rattle.contract_commands.proofs.ResultLemmas.{Reports-recorded, Reports-full, AnswersTakingBetween-query, AnswersTakingBetween-query_then}
use Rattle.broker_tables.proofs.FailLemmas.{FailsFromBetween-change_after_query}
use Rattle.contract_commands.proofs.results.receive_numbered.Goals as goal

pub returns-in-None-clause-answers : goal.returns-in-None-clause-answers
returns-in-None-clause-answers g c =
    let provider = c.args.provider.now in
    let report = c.args.report.now in
    AnswersTakingBetween-query _ _ None Full _ _ _
    (λ s can none. Reports-full s (reported_result provider report c.args.found) can.1 (λ i. can_name-true s (reported_version provider report) c.args.version can.0 i && none i))
    (rw c.in-None.is at c.in-Ok.ensures)

pub returns-in-Ok-record_report-clause-answers : goal.returns-in-Ok-record_report-clause-answers
returns-in-Ok-record_report-clause-answers g c =
    let provider = c.args.provider.now in
    let report = c.args.report.now in
    let found = c.args.found in
    let next = c.in-Some.next in
    CallsBetween-then_Ok _ _ c.in-Ok-record_report.value (Recorded next) _ _ (λ h. h)
    (AnswersTakingBetween-query_then _ _ _ (Some next) (Ok c.in-Ok-record_report.value) _ (CanReport provider report c.args.version) _ _ (λ u s t. Receives provider report found (Recorded next) s t)
    (λ s can first. (
      (can.0, first.1),
      λ u t made. Reports-recorded s (reported_result provider report found) can.1 next t (λ i. can_name-true s (reported_version provider report) c.args.version can.0 i && first.0 i) first.1 made,
    )) (rw c.in-Some.is at c.in-Ok.ensures) c.in-Ok-record_report.ensures.answers)

pub returns-in-Err-record_report-clause-failure : goal.returns-in-Err-record_report-clause-failure
returns-in-Err-record_report-clause-failure g c =
    let provider = c.args.provider.now in
    let report = c.args.report.now in
    let found = c.args.found in
    let r = reported_result provider report found in
    let next = c.in-Some.next in
    FailsFromBetween-change_after_query _ _ _ _ (Some next) (Err c.in-Err-record_report.fault) _ _ 3 (omega arith)
    (AllowsReport provider report found c.args.version next) (λ s. CanReport provider report c.args.version s × HasContent s found.content) (IsToReport provider report found)
    (λ s held can first. (
      (can.0, first.1, can.1),
      (next, recorded s r, Reports-recorded s r can.0.1 next (recorded s r) (λ i. can_name-true s (reported_version provider report) c.args.version can.0.0 i && first.0 i) first.1 refl),
    )) (rw c.in-Some.is at c.in-Ok.ensures.call) c.in-Err-record_report.ensures.answers c.in-Err-record_report.ensures.failure
