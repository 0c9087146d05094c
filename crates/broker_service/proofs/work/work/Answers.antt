use Rattle.std.proofs.Common.{inl, inr}
use Rattle.sqlite.specs.Held.{state}
use Rattle.caller_facts.specs.Callers.{token_of}
use Rattle.broker_service.proofs.WorkFailures.{IsNoFailure-performs}
use Rattle.broker_service.proofs.work.work.Goals as goal

pub returns-in-Err-answer_of-clause-failure : goal.returns-in-Err-answer_of-clause-failure
returns-in-Err-answer_of-clause-failure g c clean s here sound =
    inl (inr (c.in-Err-answer_of.ensures.cause
    (IsNoFailure-performs (state g.S.Store c.args.conn.now) (state g.S.Store c.step_of.new.conn) c.in-Ok.value (token_of c.args.token) c.args.command.now c.in-Ok.ensures.answers clean s here sound)))
