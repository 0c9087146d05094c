use Rattle.std.proofs.Common.{refl}
use Rattle.http_responses.specs.Responses.{refusal_response, no_route_response, no_method_response, answer_response}
use Rattle.broker_http.proofs.exchange.respond.Goals as goal

pub returns-in-Refused-clause-responded : goal.returns-in-Refused-clause-responded
returns-in-Refused-clause-responded g c =
    (refusal_response c.in-Refused.refusal c.in-Refused.is_bodiless, rw c.in-Refused.is (refl, refl), c.write_refusal.ensures.writes)

pub returns-in-NoRoute-clause-responded : goal.returns-in-NoRoute-clause-responded
returns-in-NoRoute-clause-responded g c = (no_route_response c.in-NoRoute.closes, rw c.in-NoRoute.is (refl, refl), c.write_no_route.ensures.writes)

pub returns-in-NoMethod-clause-responded : goal.returns-in-NoMethod-clause-responded
returns-in-NoMethod-clause-responded g c =
    (no_method_response c.in-NoMethod.resource c.in-NoMethod.closes, rw c.in-NoMethod.is (refl, refl), c.write_no_method.ensures.writes)

pub returns-in-Asks-clause-responded : goal.returns-in-Asks-clause-responded
returns-in-Asks-clause-responded g c =
    (answer_response c.apply-answer.result c.in-Asks.closes, rw c.in-Asks.is (c.apply-answer.result, c.apply-answer.ensures, refl), c.write_answer-written.ensures.writes)
