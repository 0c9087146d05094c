use Rattle.std.proofs.Common.{[], refl, sym, ◌∙◌}
use Rattle.broker_core.specs.declared.command.Command.TheVariants.{PutPact}
use Rattle.command_facts.proofs.CarryLemmas.{CarriesBetween-query_then, CarriesBetween-query_answer}
use Rattle.contract_commands.proofs.PactLemmas.{refusal-put_pact, Publishes-refused, Publishes-put_pact, refused-sides_present}
use Rattle.contract_commands.proofs.publish.publish.Goals as goal

pub returns-in-Some : goal.returns-in-Some
returns-in-Some g c =
    let path = c.args.path.now in
    CarriesBetween-query_answer (λ s all h. Publishes-refused s c.args.caller.now path c.args.text.now c.in-Some.answer (λ file. refusal-put_pact s c.args.caller.now path c.args.text.now file c.in-Ok.value h ∙ sym (c.refuse_sides.ensures (PutPact path file) refl) ∙ c.in-Some.is)) c.in-Ok.ensures

pub returns-in-None : goal.returns-in-None
returns-in-None g c =
    let caller = c.args.caller.now in
    let path = c.args.path.now in
    let text = c.args.text.now in
    let sides = c.in-Ok.value in
    let both = refused-sides_present (PutPact path []) sides.has_provider sides.has_consumer sides.is_allowed (sym c.in-None.is ∙ c.refuse_sides.ensures (PutPact path []) refl) in
    CarriesBetween-query_then (λ s all h. (
      (h.provider_is ∙ both.0, h.consumer_is ∙ both.1),
      λ out is. Publishes-put_pact s caller path text out (λ file. refusal-put_pact s caller path text file sides h ∙ sym (c.refuse_sides.ensures (PutPact path file) refl) ∙ c.in-None.is) is,
    )) c.in-Ok.ensures c.publish_between.ensures
