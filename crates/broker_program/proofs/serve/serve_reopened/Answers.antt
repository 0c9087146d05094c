use Rattle.std.proofs.{Common.{Err, Ok, ap, is_none}, lemmas.Result.{err_from_is_err_and}}
use Rattle.broker_program.{specs.FileRefusals.{IsReopeningFault}, proofs.ResultLemmas.{is_none-true, is_none-false, IfErr-reworded}}
use Rattle.broker_program.proofs.ServingLemmas.{ServesBetween-of_result, ServesBetween-trans, none_between}
use Rattle.broker_program.proofs.serve.serve_reopened.Goals as goal

pub loop-file-init : goal.loop-file-init
loop-file-init g c = (c.requires.idle, c.in_ok-broker.ensures.runs, c.in_ok-broker.ensures.opened, none_between _ _)

pub loop-file-preserved : goal.loop-file-preserved
loop-file-preserved g c =
    let it = c.loop-file.invariant in (
      c.serve_opened.ensures.idle,
      c.in_ok-broker-2.ensures.runs,
      c.in_ok-broker-2.ensures.opened,
      ServesBetween-trans _ _ _ _ it.3 (ServesBetween-of_result _ _ _ _ c.serve_opened.ensures.ok c.serve_opened.ensures.cut),
    )

pub loop-file-smaller : goal.loop-file-smaller
loop-file-smaller g c = is_none-true (λ failed. failed.0) _ c.serve_opened.result c.in_ok-is_lost.ensures (ap Ok c.if-branch.true) c.serve_opened.ensures.fewer

pub returns-in_err-broker-clause-served : goal.returns-in_err-broker-clause-served
returns-in_err-broker-clause-served g c = none_between _ _

pub returns-in_err-is_lost-clause-served : goal.returns-in_err-is_lost-clause-served
returns-in_err-is_lost-clause-served g c =
    ServesBetween-trans _ _ _ _ c.loop-file.invariant.3 (ServesBetween-of_result _ _ _ _ c.serve_opened.ensures.ok c.serve_opened.ensures.cut)

pub returns-in_err-is_lost-clause-cause : goal.returns-in_err-is_lost-clause-cause
returns-in_err-is_lost-clause-cause g c =
    let p = err_from_is_err_and c.from_residual-in_err-is_lost.result c.from_residual-in_err-is_lost.ensures.1 in
    rw (p.1, p.2) (IfErr-reworded is_none (λ failed. failed.0) c.serve_opened.result (Err c.in_err-is_lost.field-0.0) IsReopeningFault c.in_err-is_lost.ensures c.serve_opened.ensures.cause)

pub returns-in_err-broker-2-clause-served : goal.returns-in_err-broker-2-clause-served
returns-in_err-broker-2-clause-served g c =
    ServesBetween-trans _ _ _ _ c.loop-file.invariant.3 (ServesBetween-of_result _ _ _ _ c.serve_opened.ensures.ok c.serve_opened.ensures.cut)

pub returns-clause-served : goal.returns-clause-served
returns-clause-served g c =
    ServesBetween-trans _ _ _ _ c.loop-file.invariant.3 (ServesBetween-of_result _ _ _ _ c.serve_opened.ensures.ok c.serve_opened.ensures.cut)

pub returns-clause-done : goal.returns-clause-done
returns-clause-done g c = is_none-false (λ failed. failed.0) _ c.serve_opened.result c.in_ok-is_lost.ensures (ap Ok c.if-branch.false) c.serve_opened.ensures.done
