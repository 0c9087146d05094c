use Rattle.std.proofs.Common.{refl, ◌∙◌}
use Rattle.broker_core.specs.{Change.{unchanged_with}, declared.command.Command.TheVariants.{CanIDeploy}}
use Rattle.command_facts.proofs.CallerSteps.{StepOfCaller-refused, StepOfCaller-effect}
use Rattle.command_facts.proofs.CarryLemmas.{CarriesBetween-query_listing, CarriesBetween-query_answer}
use Rattle.environment_commands.proofs.can_i_deploy.can_i_deploy.Goals as goal

pub returns-in-Ok-admitted_to_ask : goal.returns-in-Ok-admitted_to_ask
returns-in-Ok-admitted_to_ask g c =
    let command = CanIDeploy c.args.version.now c.args.environment.now in
    CarriesBetween-query_listing (λ s all h answer shown. StepOfCaller-effect s c.args.caller.now command refl (unchanged_with s answer) (c.in-Ok-admitted_to_ask.ensures.let_through s c.args.caller.now c.args.version.now c.args.environment.now h.0 h.1)
    (shown (h.1 ∙ c.in-Ok-admitted_to_ask.ensures.found.1, h.0.number_is ∙ c.in-Ok-admitted_to_ask.ensures.found.0))) c.in-Ok.ensures c.show_gate.ensures

pub returns-in-Err-admitted_to_ask : goal.returns-in-Err-admitted_to_ask
returns-in-Err-admitted_to_ask g c =
    let command = CanIDeploy c.args.version.now c.args.environment.now in
    CarriesBetween-query_answer (λ s all h. StepOfCaller-refused s c.args.caller.now command refl c.in-Err-admitted_to_ask.answer (c.in-Err-admitted_to_ask.ensures.refused s c.args.caller.now c.args.version.now c.args.environment.now h.0 h.1)) c.in-Ok.ensures
