use Rattle.std.proofs.Common.{inl, Some, None, refl}
use Rattle.sqlite.specs.Held.{state}
use Rattle.broker_core.specs.{Contents.{HasSoundContents}, declared.answer.Answer.TheVariants.{Denied}, declared.policy.Rule.TheVariants.{KnownCaller}}
use Rattle.caller_facts.specs.Callers.{token_of}
use Rattle.command_facts.specs.{Performs.{CallersStep, TokensStep, IsToChange}, Primitives.{broker_primitives}}
use Rattle.command_facts.proofs.{CallerSteps.{IsCallerOfToken-of_sender}, PerformLemmas.{PerformsBetween-query_answer, PerformsBetween-query_then}}
use Rattle.broker_service.proofs.WorkFailures.{TokensStep-of_caller, FailsFromBetween-query_then}
use Rattle.broker_service.proofs.work.step_of.Goals as goal

pub returns-in-Some-clause-answers : goal.returns-in-Some-clause-answers
returns-in-Some-clause-answers g c =
    PerformsBetween-query_then (state g.S.Store c.args.conn.now) (state g.S.Store c.caller_of.new.conn) (state g.S.Store c.follow.new.conn) (Some c.in-Some.caller) c.follow.result _ (CallersStep c.in-Some.caller c.args.command.now) (TokensStep (token_of c.args.token) c.args.command.now)
    (λ s who out it. TokensStep-of_caller s (token_of c.args.token) c.args.command.now c.in-Some.caller (IsCallerOfToken-of_sender s (token_of c.args.token) (Some c.in-Some.caller) who) out it) (rw c.in-Some.is at c.in-Ok.ensures.answers.call) c.follow.ensures.answers

pub returns-in-Some-clause-failure : goal.returns-in-Some-clause-failure
returns-in-Some-clause-failure g c =
    FailsFromBetween-query_then _ (state g.S.Store c.args.conn.now) (state g.S.Store c.caller_of.new.conn) (state g.S.Store c.follow.new.conn) (Some c.in-Some.caller) c.follow.result _ _ (HasSoundContents broker_primitives) (IsToChange (CallersStep c.in-Some.caller c.args.command.now)) (IsToChange (TokensStep (token_of c.args.token) c.args.command.now))
    (λ s who change. (change.0, change.1, TokensStep-of_caller s (token_of c.args.token) c.args.command.now c.in-Some.caller (IsCallerOfToken-of_sender s (token_of c.args.token) (Some c.in-Some.caller) who) _ change.2)) (rw c.in-Some.is at c.in-Ok.ensures.answers) c.follow.ensures.answers c.follow.ensures.failure

pub returns-in-None-clause-answers : goal.returns-in-None-clause-answers
returns-in-None-clause-answers g c = PerformsBetween-query_answer (state g.S.Store c.args.conn.now) (state g.S.Store c.caller_of.new.conn) None (Denied KnownCaller) _ (TokensStep (token_of c.args.token) c.args.command.now) (λ s who sound. inl (None, IsCallerOfToken-of_sender s (token_of c.args.token) None who, refl)) (rw c.in-None.is at c.in-Ok.ensures.answers.call)
