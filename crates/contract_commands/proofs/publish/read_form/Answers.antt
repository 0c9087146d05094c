use Rattle.std.proofs.Common.{Some, refl, sym, subst, ap, ◌∙◌}
use Rattle.broker_core.specs.Machine.Reading.{IsPact, IsRefused}
use Rattle.command_facts.specs.Primitives.{broker_primitives}
use Rattle.contract_commands.proofs.PactLemmas.{fault_of_reading-names_differ, Form-injective}
use Rattle.broker_core.specs.declared.command.FormFault.TheVariants as fault
use Rattle.contract_commands.proofs.publish.read_form.Goals as goal

pub returns-else-has_names-clause-fault : goal.returns-else-has_names-clause-fault
returns-else-has_names-clause-fault c = λ f is.
    let pact = c.in-Ok.value in
    let reading = IsPact pact.consumer pact.provider pact.text in (
      reading,
      subst (λ bytes. broker_primitives.Reads bytes reading) c.as_slice.ensures c.in-Ok.ensures.pact,
      ap Some (sym (Form-injective fault.Names f is)) ∙ fault_of_reading-names_differ pact.consumer pact.provider c.args.path.now.consumer c.args.path.now.provider pact.text (sym c.has_names.ensures ∙ c.if-has_names.false),
    )

pub returns-in-Err-clause-fault : goal.returns-in-Err-clause-fault
returns-in-Err-clause-fault c = λ f is. (
  IsRefused f,
  subst (λ bytes. broker_primitives.Reads bytes (IsRefused f)) c.as_slice.ensures (c.in-Err.ensures.fault f is),
  refl,
)
