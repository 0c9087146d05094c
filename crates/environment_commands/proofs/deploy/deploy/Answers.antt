use Rattle.std.proofs.Common.{inl, refl}
use Rattle.broker_core.specs.declared.command.Command.TheVariants.{Deploy}
use Rattle.command_facts.proofs.{CallerSteps.{StepOfCaller-effect, StepOfCaller-refused}, CarryLemmas.{CarriesBetween-query_then, CarriesBetween-query_answer}}
use Rattle.environment_commands.proofs.deploy.deploy.Goals as goal

pub returns-in-Ok-2 : goal.returns-in-Ok-2
returns-in-Ok-2 g c =
    let command = Deploy c.args.environment.now c.args.version.now c.args.instance.now in
    CarriesBetween-query_then (λ s all h. (h.0, λ out enacts. StepOfCaller-effect s c.args.caller.now command refl out (h.1 command (inl (c.args.instance.now, refl))) enacts)) (rw c.in-Ok-2.is at c.in-Ok.ensures) c.deploy_judged.ensures

pub returns-in-Err-2 : goal.returns-in-Err-2
returns-in-Err-2 g c =
    let command = Deploy c.args.environment.now c.args.version.now c.args.instance.now in
    CarriesBetween-query_answer (λ s all h. StepOfCaller-refused s c.args.caller.now command refl c.in-Err-2.answer (h command (inl (c.args.instance.now, refl)))) (rw c.in-Err-2.is at c.in-Ok.ensures)
