use Rattle.std.proofs.Common.{inl, inr, refl, ap, ◌∙◌}
use Rattle.broker_core.specs.{Change.{undeploy as undeployment}, Text.{Text}, declared.command.Command.TheVariants.{Undeploy}}
use Rattle.command_facts.proofs.CallerSteps.{StepOfCaller-effect, StepOfCaller-refused}
use Rattle.command_facts.proofs.CarryLemmas.{CarriesBetween-query_then_unrefused, CarriesBetween-query_answer}
use Rattle.environment_commands.proofs.undeploy.undeploy.Goals as goal

pub returns-in-Ok-2 : goal.returns-in-Ok-2
returns-in-Ok-2 g c =
    let command = Undeploy c.args.environment.now c.args.version.now c.args.instance.now in
    CarriesBetween-query_then_unrefused (λ s all h. (h.0.1, λ out done. StepOfCaller-effect s c.args.caller.now command refl out (h.1 command (inr (inl (c.args.instance.now, refl)))) (done ∙ ap (λ (i : Text). undeployment s c.args.environment.now c.args.version.now i) c.instance_text.ensures))) (rw c.in-Ok-2.is at c.in-Ok.ensures) c.remove_deployment.ensures.answers c.remove_deployment.ensures.failure

pub returns-in-Err-2 : goal.returns-in-Err-2
returns-in-Err-2 g c =
    let command = Undeploy c.args.environment.now c.args.version.now c.args.instance.now in
    CarriesBetween-query_answer (λ s all h. StepOfCaller-refused s c.args.caller.now command refl c.in-Err-2.answer (h command (inr (inl (c.args.instance.now, refl))))) (rw c.in-Err-2.is at c.in-Ok.ensures)
