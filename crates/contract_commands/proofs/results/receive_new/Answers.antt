use Rattle.std.proofs.Common.{◌&&◌, None, Some, ap}
use Rattle.broker_core.specs.Limit.{has_room}
use Rattle.contract_commands.specs.{Pacts.{HasContent}, Results.{reported_version, reported_result, CanReport, IsUnused, IsToReport}}
use Rattle.contract_commands.{specs.declared.results.Reported.TheVariants.{Full}, proofs.NumberingLemmas.{can_name-false, CanName-of_number}}
use Rattle.contract_commands.proofs.ResultLemmas.{Reports-full, AnswersTakingBetween-query, AnswersTakingBetween-query_then}
use Rattle.broker_tables.proofs.FailLemmas.{FailsFromBetween-after_query}
use Rattle.contract_commands.proofs.results.receive_new.Goals as goal

pub returns-in-None-clause-answers : goal.returns-in-None-clause-answers
returns-in-None-clause-answers g c =
    let provider = c.args.provider.now in
    let report = c.args.report.now in
    AnswersTakingBetween-query _ _ None Full _ _ _
    (λ s unused none. Reports-full s (reported_result provider report c.args.found) unused.unused (ap (λ b. b && has_room s.results) (can_name-false s (reported_version provider report) c.args.number unused.version.known_is none)))
    (rw c.in-None.is at c.in-Ok.ensures)

pub returns-in-Some-clause-answers : goal.returns-in-Some-clause-answers
returns-in-Some-clause-answers g c =
    let v = reported_version c.args.provider.now c.args.report.now in
    AnswersTakingBetween-query_then _ _ _ (Some c.in-Some.version) c.receive_numbered.result _ _ _ _ _
    (λ s unused first. ((CanName-of_number s v c.args.number c.in-Some.version unused.version.number_is unused.version.known_is unused.owned first, unused.unused), λ b t made. made))
    (rw c.in-Some.is at c.in-Ok.ensures) c.receive_numbered.ensures.answers

pub returns-in-Some-clause-failure : goal.returns-in-Some-clause-failure
returns-in-Some-clause-failure g c =
    let provider = c.args.provider.now in
    let report = c.args.report.now in
    let version = c.in-Some.version in
    let to = IsToReport provider report c.args.found in
    FailsFromBetween-after_query _ _ _ _ (Some version) c.receive_numbered.result _ _ (λ s. IsUnused s provider report c.args.number × HasContent s c.args.found.content) (λ s. CanReport provider report version s × HasContent s c.args.found.content) to to
    (λ s held can first. (((CanName-of_number s (reported_version provider report) c.args.number version can.0.version.number_is can.0.version.known_is can.0.owned first, can.0.unused), can.1), λ made. made))
    (rw c.in-Some.is at c.in-Ok.ensures.call) c.receive_numbered.ensures.answers c.receive_numbered.ensures.failure
