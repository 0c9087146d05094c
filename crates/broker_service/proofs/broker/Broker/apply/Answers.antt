use Rattle.std.proofs.Common.{◌≡◌, ◌↔◌, Err, IfOk, IsTrue, Ok, Result, sym, subst, ap, ◌∙◌}
use Rattle.sqlite.specs.Held.{state}
use Rattle.broker_core.specs.declared.answer.Answer.{Answer}
use Rattle.broker_database.specs.{BrokerView.{BrokerView}, Calls.{Applied}, Transaction.{returned}, declared.ending.Failure.{Failure}}
use Rattle.broker_service.{specs.Transacted.{IsNoFailure}, proofs.AppliedLemmas.{answer_of, Applied-of_transacted, Applied-stopped}}
use Rattle.broker_service.proofs.broker.Broker.apply.Goals.{in-Ok, in-Err, in-Store, in_default}
use Rattle.caller_facts.specs.Callers.{token_of}
use Rattle.broker_core.specs.declared.answer.Answer.TheVariants as answers
use Rattle.broker_service.proofs.broker.Broker.apply.Goals as goal

ok_returned : (r : Result Answer Failure) → IfOk r IsNoFailure → IfOk (returned r) IsNoFailure
ok_returned (Ok answer) it = it
ok_returned (Err failure) it = tt

pub returns : goal.returns
returns g c =
    subst (λ (b : BrokerView g.row.S.Denot). Applied (state g.S.Store) b (token_of c.args.token) c.args.command.now c.match-transact.answer after) c.self.view_is
    (Applied-of_transacted (state g.S.Store) (record { connection = c.self.inside.conn; is_stopped = c.self.inside.stopped }) (token_of c.args.token) c.args.command.now c.transact.result c.match-transact.answer after is c.transact.ensures.transacts (ok_returned c.transact.result c.transact.ensures.answers) stops (cc)
    (c.has_readable_names.ensures.0, λ s out. c.readable_stays.ensures.steps s (token_of c.args.token) c.args.command.now out c.has_readable_names.ensures))
  where
    after : BrokerView g.row.S.Denot
    after = record { connection = c.transact.new.conn; is_stopped = c.match-matches.self }

    is : c.match-transact.answer ≡ answer_of (returned c.transact.result)
    is = elim c.match-transact.branch [
      | in-Ok w ↦ w.answer-is ∙ sym (ap (λ r. answer_of (returned r)) w.in-Ok.is)
      | in-Err w ↦ w.answer-is ∙ w.failed-answer.ensures ∙ sym (ap (λ r. answer_of (returned r)) w.in-Err.is)
    ]

    stops : IsTrue c.match-matches.self ↔ (c.match-transact.answer ≡ answers.Store)
    stops = elim c.match-matches.branch [
      | in-Store w ↦ (λ _. sym c.answer.ensures ∙ w.in-Store.is, λ _. w.self-is)
      | in_default w ↦ (λ yes. absurd (let no = w.self-is in cc), λ store. absurd (w.in_default.not-Store (c.answer.ensures ∙ store)))
    ]

pub returns-then-self : goal.returns-then-self
returns-then-self g c =
    let here : BrokerView g.row.S.Denot = record { connection = c.self.inside.conn; is_stopped = c.self.inside.stopped } in
    subst (λ (b : BrokerView g.row.S.Denot). Applied (state g.S.Store) b (token_of c.args.token) c.args.command.now c.failed.result b) c.self.view_is
    (subst (λ (a : Answer). Applied (state g.S.Store) here (token_of c.args.token) c.args.command.now a here) (sym c.failed.ensures)
    (Applied-stopped (state g.S.Store) here (token_of c.args.token) c.args.command.now c.if-self.true (λ s out. c.readable_stays.ensures.steps s (token_of c.args.token) c.args.command.now out c.has_readable_names.ensures)))
