use Rattle.sqlite.specs.Held.{state}
use Rattle.command_facts.proofs.CarryLemmas.{CarriesBetween-query_listing_if}
use Rattle.contract_commands.{specs.Pacts.{HasReachedContent}, proofs.{ContentThere.{ReachesBranch-has_content}, BranchLast.{StepOfCaller-branch_pact}}}
use Rattle.contract_commands.proofs.branch_pact.get_branch_pact.Goals as goal

pub returns : goal.returns
returns g c =
    let caller = c.args.caller.now in
    let provider = c.args.provider.now in
    let consumer = c.args.consumer.now in
    let branch = c.args.branch.now in
    let place = c.in-Ok.value in
    CarriesBetween-query_listing_if {Then = λ s. HasReachedContent s place} (λ s all reach answer shows. StepOfCaller-branch_pact s caller provider consumer branch place answer reach shows)
    (λ s held reach. ReachesBranch-has_content (state g.S.Store c.args.conn.now).now s held caller provider consumer branch place reach) c.in-Ok.ensures c.show_pact.ensures.answers c.show_pact.ensures.failure
