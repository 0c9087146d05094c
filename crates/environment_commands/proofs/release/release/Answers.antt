use Rattle.std.proofs.Common.{inl, inr, refl}
use Rattle.broker_core.specs.declared.command.Command.TheVariants.{Release}
use Rattle.command_facts.proofs.{CallerSteps.{StepOfCaller-effect, StepOfCaller-refused}, CarryLemmas.{CarriesBetween-query_then, CarriesBetween-query_answer}}
use Rattle.environment_commands.proofs.release.release.Goals as goal

pub returns-in-Ok-2 : goal.returns-in-Ok-2
returns-in-Ok-2 g c =
    let command = Release c.args.environment.now c.args.version.now in
    CarriesBetween-query_then (λ s all h. (h.0, λ out enacts. StepOfCaller-effect s c.args.caller.now command refl out (h.1 command (inr (inr (inl refl)))) enacts)) (rw c.in-Ok-2.is at c.in-Ok.ensures) c.release_judged.ensures

pub returns-in-Err-2 : goal.returns-in-Err-2
returns-in-Err-2 g c =
    let command = Release c.args.environment.now c.args.version.now in
    CarriesBetween-query_answer (λ s all h. StepOfCaller-refused s c.args.caller.now command refl c.in-Err-2.answer (h command (inr (inr (inl refl))))) (rw c.in-Err-2.is at c.in-Ok.ensures)
