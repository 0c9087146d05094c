use Rattle.std.proofs.Common.{inr, refl}
use Rattle.broker_core.specs.declared.command.Command.TheVariants.{EndSupport}
use Rattle.command_facts.proofs.CallerSteps.{StepOfCaller-effect, StepOfCaller-refused}
use Rattle.command_facts.proofs.CarryLemmas.{CarriesBetween-query_then_unrefused, CarriesBetween-query_answer}
use Rattle.environment_commands.proofs.end_support.end_support.Goals as goal

pub returns-in-Ok-2 : goal.returns-in-Ok-2
returns-in-Ok-2 g c =
    let command = EndSupport c.args.environment.now c.args.version.now in
    CarriesBetween-query_then_unrefused (λ s all h. (h.0.1, λ out done. StepOfCaller-effect s c.args.caller.now command refl out (h.1 command (inr (inr (inr refl)))) done)) (rw c.in-Ok-2.is at c.in-Ok.ensures) c.remove_release.ensures.answers c.remove_release.ensures.failure

pub returns-in-Err-2 : goal.returns-in-Err-2
returns-in-Err-2 g c =
    let command = EndSupport c.args.environment.now c.args.version.now in
    CarriesBetween-query_answer (λ s all h. StepOfCaller-refused s c.args.caller.now command refl c.in-Err-2.answer (h command (inr (inr (inr refl))))) (rw c.in-Err-2.is at c.in-Ok.ensures)
