use Rattle.std.proofs.Common.{Option, ℕ, subst, ◌∙◌}
use Rattle.sqlite.specs.Held.{state}
use Rattle.broker_core.specs.Request.{consumer_version}
use Rattle.command_facts.proofs.CarryLemmas.{CarriesBetween-query_then, CarriesBetween-query_listing_if}
use Rattle.contract_commands.{specs.Pacts.{HasContent, IsContractRead}, proofs.{ContentThere.{contracts-has_content}, PactLemmas.{put_pact-again}}}
use Rattle.contract_commands.proofs.publish.publish_between.Goals as goal

pub returns-in-Some : goal.returns-in-Some
returns-in-Some g c =
    let path = c.args.path.now in
    let content = c.in-Some.content in
    CarriesBetween-query_listing_if {Then = λ s. HasContent s content} (λ s may read answer returned. put_pact-again s (consumer_version path) path.provider c.args.text.now content answer (read.content_is ∙ c.in-Some.is) returned)
    (λ s held read. contracts-has_content (state g.S.Store c.args.conn.now).now s held (consumer_version path) path.provider content (read.content_is ∙ c.in-Some.is)) c.in-Ok.ensures c.publish_again.ensures.answers c.publish_again.ensures.failure

pub returns-in-None : goal.returns-in-None
returns-in-None g c =
    let path = c.args.path.now in
    CarriesBetween-query_then (λ s may read. ((may, subst (λ (o : Option ℕ). IsContractRead s (consumer_version path) path.provider c.in-Ok.value.version o) c.in-None.is read), λ out is. is)) c.in-Ok.ensures c.publish_first.ensures
