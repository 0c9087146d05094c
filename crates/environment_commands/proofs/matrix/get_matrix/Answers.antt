use Rattle.std.proofs.Common.{refl, ◌∙◌}
use Rattle.broker_core.specs.{Change.{unchanged_with}, declared.command.Command.TheVariants.{GetMatrix}}
use Rattle.command_facts.proofs.CallerSteps.{StepOfCaller-refused, StepOfCaller-effect}
use Rattle.command_facts.proofs.CarryLemmas.{CarriesBetween-query_listing, CarriesBetween-query_answer}
use Rattle.environment_commands.proofs.matrix.get_matrix.Goals as goal

pub returns-in-Ok-admitted_to_matrix : goal.returns-in-Ok-admitted_to_matrix
returns-in-Ok-admitted_to_matrix g c =
    let version = c.args.version.now in
    let command = GetMatrix version in
    CarriesBetween-query_listing (λ s all h answer shown. StepOfCaller-effect s c.args.caller.now command refl (unchanged_with s answer) (c.in-Ok-admitted_to_matrix.ensures.let_through s c.args.caller.now version h) (shown version (h.number_is ∙ c.in-Ok-admitted_to_matrix.ensures.numbered))) c.in-Ok.ensures c.show_matrix.ensures

pub returns-in-Err-admitted_to_matrix : goal.returns-in-Err-admitted_to_matrix
returns-in-Err-admitted_to_matrix g c =
    let command = GetMatrix c.args.version.now in
    CarriesBetween-query_answer (λ s all h. StepOfCaller-refused s c.args.caller.now command refl c.in-Err-admitted_to_matrix.answer (c.in-Err-admitted_to_matrix.ensures.refused s c.args.caller.now c.args.version.now h)) c.in-Ok.ensures
