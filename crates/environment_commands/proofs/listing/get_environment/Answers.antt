use Rattle.std.proofs.Common.{true, None, Option, refl, sym, ap, ◌∙◌}
use Rattle.broker_core.specs.{Request.{refused}, declared.answer.Answer.TheVariants.{Unknown}, declared.answer.Missing.{Missing}}
use Rattle.broker_core.specs.declared.command.Command.TheVariants.{GetEnvironment}
use Rattle.command_facts.proofs.{CallerSteps.{StepOfCaller-refused}, CarryLemmas.{CarriesBetween-query_listing, CarriesBetween-query_answer}}
use Rattle.environment_commands.proofs.PlaceLemmas.{unless_environment-missing}
use Rattle.broker_core.specs.declared.answer.Missing.TheVariants as missing
use Rattle.environment_commands.proofs.listing.get_environment.Goals as goal

pub returns-in-Some : goal.returns-in-Some
returns-in-Some g c =
    CarriesBetween-query_listing (λ s all is answer h. h c.args.caller.now (ap s.environments (sym c.as_str.ensures) ∙ sym is)) (rw c.in-Some.is at c.in-Ok.ensures.answers) c.list_environment.ensures

pub returns-in-None : goal.returns-in-None
returns-in-None g c =
    let e = c.args.environment.now in
    CarriesBetween-query_answer (λ s all is. StepOfCaller-refused s c.args.caller.now (GetEnvironment e) refl (Unknown missing.Environment) (ap (λ (m : Option Missing). refused (GetEnvironment e) m true) (unless_environment-missing s e None (ap s.environments (sym c.as_str.ensures) ∙ sym is)))) (rw c.in-None.is at c.in-Ok.ensures.answers)
