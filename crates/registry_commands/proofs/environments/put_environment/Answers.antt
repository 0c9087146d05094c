use Rattle.command_facts.proofs.CarryLemmas.{CarriesBetween-answer}
use Rattle.registry_commands.proofs.environments.put_environment.Goals as goal

pub returns-in-Some : goal.returns-in-Some
returns-in-Some g c = CarriesBetween-answer (λ s may. (rw c.in-Some.is at c.in-Ok.ensures.ok).0 s c.args.environment.now c.args.caller.now)
