use Rattle.std.proofs.Common.{false, ap, ◌&&◌, ◌||◌}
use Rattle.broker_core.specs.{Change.{is_stored}, Limit.{has_room}, Request.{consumer_version}}
use Rattle.command_facts.proofs.CarryLemmas.{CarriesBetween-query_then, CarriesBetween-query_answer}
use Rattle.contract_commands.proofs.{NumberingLemmas.{can_name-false, CanName-of_number}, PactLemmas.{put_pact-first}}
use Rattle.contract_commands.proofs.publish.publish_first.Goals as goal

pub returns-in-None : goal.returns-in-None
returns-in-None g c =
    let path = c.args.path.now in
    let v = consumer_version path in
    let text = c.args.text.now in
    CarriesBetween-query_answer (λ s first none. put_pact-first s v path.provider text false first.1.content_is (ap (λ b. b && (is_stored s text || has_room s.contents)) (can_name-false s v c.args.number first.1.known_is none)))
    (rw c.in-None.is at c.in-Ok.ensures)

pub returns-in-Some : goal.returns-in-Some
returns-in-Some g c =
    let numbered = c.publish_numbered.ensures in
    CarriesBetween-query_then (λ s first it. ((CanName-of_number s (consumer_version c.args.path.now) c.args.number c.in-Some.version first.1.number_is first.1.known_is first.0.1 it, first.1.content_is, first.0), λ out is. is))
    (rw c.in-Some.is at c.in-Ok.ensures) (record { answers = numbered.answers; failure = numbered.failure })
