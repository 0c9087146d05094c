use Rattle.std.proofs.Common.{inr, length, refl, subst}
use Rattle.sqlite_trees.specs.View.{doubt}
use Rattle.sqlite.specs.{Held.{state}, Steps.{over_memory}}
use Rattle.broker_http.specs.Serving.{IsInMode, RunsReadable}
use Rattle.broker_program.{specs.Replays.{Replays, ReplaysUpTo, new_broker}, proofs.FailureLemmas.{IsStoppedByChange-of_stops}}
use Rattle.broker_program.proofs.replay.replay.Goals as goal

pub returns-in-Ok-clause-ok : goal.returns-in-Ok-clause-ok
unfolding doubt Replays
returns-in-Ok-clause-ok g c =
    let holds = subst (λ t. IsInMode (state over_memory) (new_broker t) c.in_ok-broker.broker) c.in_ok-office.ensures.ok.0 c.in_ok-broker.ensures.holds in
    let served = c.in-Ok.ensures.served.machine refl (new_broker c.args.office_token.now) holds in
    let failure = IsStoppedByChange-of_stops c.args.office_token.now c.in_ok-broker.broker.connection c.serve_stream-served.new.broker.connection (length served.last.steps) served.last.mode (c.in_ok-broker.ensures.unlimited) (subst (λ t. RunsReadable (new_broker t)) c.in_ok-office.ensures.ok.0 c.in_ok-broker.ensures.readable) served.failure in
    (served.last, c.in-Ok.field-0, served.run, served.serves, failure)

pub returns-clause-fails : goal.returns-clause-fails
unfolding doubt ReplaysUpTo
returns-clause-fails g c =
    let holds = subst (λ t. IsInMode (state over_memory) (new_broker t) c.in_ok-broker.broker) c.in_ok-office.ensures.ok.0 c.in_ok-broker.ensures.holds in
    let served = c.in-Err.ensures.served.machine refl (new_broker c.args.office_token.now) holds in
    let failure = IsStoppedByChange-of_stops c.args.office_token.now c.in_ok-broker.broker.connection c.serve_stream-served.new.broker.connection (length served.last.steps) served.last.mode (c.in_ok-broker.ensures.unlimited) (subst (λ t. RunsReadable (new_broker t)) c.in_ok-office.ensures.ok.0 c.in_ok-broker.ensures.readable) served.failure in
    inr (c.in-Err.fault, (served.last, served.run, served.serves, failure))

pub returns-clause-cause : goal.returns-clause-cause
unfolding doubt ReplaysUpTo
returns-clause-cause g c =
    let holds = subst (λ t. IsInMode (state over_memory) (new_broker t) c.in_ok-broker.broker) c.in_ok-office.ensures.ok.0 c.in_ok-broker.ensures.holds in
    let served = c.in-Err.ensures.served.machine refl (new_broker c.args.office_token.now) holds in
    let failure = IsStoppedByChange-of_stops c.args.office_token.now c.in_ok-broker.broker.connection c.serve_stream-served.new.broker.connection (length served.last.steps) served.last.mode (c.in_ok-broker.ensures.unlimited) (subst (λ t. RunsReadable (new_broker t)) c.in_ok-office.ensures.ok.0 c.in_ok-broker.ensures.readable) served.failure in
    inr (c.in_ok-office.ensures.ok.1, inr (served.last, served.run, served.serves, failure))
