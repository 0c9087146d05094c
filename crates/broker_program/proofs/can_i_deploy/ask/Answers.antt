use Rattle.std.proofs.{Common.{inl, inr}, lemmas.Result.{IfErr-weaker, IfOk-weaker, on_err_weaker}}
use Rattle.broker_program.proofs.can_i_deploy.ask.Goals as goal

pub returns-in-Ok-clause-ok : goal.returns-in-Ok-clause-ok
returns-in-Ok-clause-ok g c =
    IfOk-weaker c.print_answer.result _ _ (λ permitted reports. (c.in-Ok.answer, c.in-Ok.ensures.ok, reports)) c.print_answer.ensures.ok

pub returns-in-Ok-clause-err : goal.returns-in-Ok-clause-err
returns-in-Ok-clause-err g c =
    on_err_weaker c.print_answer.result (λ fails. elim fails [
      | inl same ↦ inl same
      | inr begun ↦ inr (c.in-Ok.answer, c.in-Ok.ensures.ok, begun)
    ]) c.print_answer.ensures.err

pub returns-in-Ok-clause-cause : goal.returns-in-Ok-clause-cause
returns-in-Ok-clause-cause g c =
    IfErr-weaker c.print_answer.result _ _ (λ fault is. inr (c.in-Ok.answer, c.in-Ok.ensures.ok, is)) c.print_answer.ensures.cause
