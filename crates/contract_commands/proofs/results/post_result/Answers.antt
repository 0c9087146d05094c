use Rattle.std.proofs.Common.{refl}
use Rattle.sqlite.specs.Held.{state}
use Rattle.broker_core.specs.{Request.{consumer_version}, declared.command.Command.TheVariants.{PostResult}}
use Rattle.contract_commands.proofs.{ContentThere.{contracts-has_content}, ResultLemmas.{HasPacticipant-of_allowed}}
use Rattle.command_facts.proofs.CallerSteps.{StepOfCaller-effect, StepOfCaller-refused}
use Rattle.command_facts.proofs.CarryLemmas.{CarriesBetween-query_then_from, CarriesBetween-weaker, CarriesBetween-query_answer}
use Rattle.command_facts.proofs.ShortTexts.{IsName-short, IsName-optional_short}
use Rattle.contract_commands.proofs.results.post_result.Goals as goal

pub returns-in-Ok-2 : goal.returns-in-Ok-2
returns-in-Ok-2 g c =
    let caller = c.args.caller.now in
    let path = c.args.path.now in
    let command = PostResult path c.args.report.now c.args.success in
    let content = c.in-Ok-2.content in
    let claimed = c.claim.ensures in
    CarriesBetween-weaker (λ s out it. it) (λ long named. long (IsName-short _ named.0.0, (IsName-short _ named.1.0, (IsName-optional_short _ named.1.1, tt))))
    (CarriesBetween-query_then_from (λ s all reach. let none = reach.1 command refl in (HasPacticipant-of_allowed s caller path command refl none, λ out is. StepOfCaller-effect s caller command refl out none (content, reach.0, is)))
    (λ s held all reach.
    let none = reach.1 command refl in
    ((HasPacticipant-of_allowed s caller path command refl none, contracts-has_content (state g.S.Store c.args.conn.now).now s held (consumer_version path) path.provider content reach.0), λ out is. StepOfCaller-effect s caller command refl out none (content, reach.0, is)))
    (rw c.in-Ok-2.is at c.in-Ok.ensures) (record { answers = claimed.answers; failure = claimed.failure }))

pub returns-in-Err-2 : goal.returns-in-Err-2
returns-in-Err-2 g c =
    let path = c.args.path.now in
    let command = PostResult path c.args.report.now c.args.success in
    CarriesBetween-query_answer (λ s all reach. StepOfCaller-refused s c.args.caller.now command refl c.in-Err-2.answer (reach command refl)) (rw c.in-Err-2.is at c.in-Ok.ensures)
