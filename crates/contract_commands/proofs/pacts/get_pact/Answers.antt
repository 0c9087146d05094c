use Rattle.sqlite.specs.Held.{state}
use Rattle.command_facts.proofs.CarryLemmas.{CarriesBetween-query_listing_if}
use Rattle.contract_commands.{specs.Pacts.{HasReachedContent}, proofs.{ContentThere.{Reaches-has_content}, PactLemmas.{StepOfCaller-get_pact}}}
use Rattle.contract_commands.proofs.pacts.get_pact.Goals as goal

pub returns : goal.returns
returns g c =
    let caller = c.args.caller.now in
    let path = c.args.path.now in
    let place = c.in-Ok.value in
    CarriesBetween-query_listing_if {Then = λ s. HasReachedContent s place} (λ s all reach answer shows. StepOfCaller-get_pact s caller path place answer reach shows)
    (λ s held reach. Reaches-has_content (state g.S.Store c.args.conn.now).now s held caller path _ _ place reach) c.in-Ok.ensures c.show_pact.ensures.answers c.show_pact.ensures.failure
