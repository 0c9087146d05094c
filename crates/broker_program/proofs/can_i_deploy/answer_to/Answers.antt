use Rattle.std.proofs.{Common.{inr}, lemmas.Result.{IfErr-weaker}}
use Rattle.broker_program.proofs.can_i_deploy.answer_to.Goals as goal

pub returns-in-Ok-clause-ok : goal.returns-in-Ok-clause-ok
returns-in-Ok-clause-ok g c = rw (c.in-Ok.ensures.ok.0, c.in-Ok.ensures.ok.1) at c.answer_at-answered.ensures.ok

pub returns-in-Ok-clause-cause : goal.returns-in-Ok-clause-cause
returns-in-Ok-clause-cause g c =
    IfErr-weaker c.answer_at-answered.result _ _ (λ failed fails. inr (c.in-Ok.ensures.sound.0, c.in-Ok.ensures.sound.1, fails)) c.answer_at-answered.ensures.cause
