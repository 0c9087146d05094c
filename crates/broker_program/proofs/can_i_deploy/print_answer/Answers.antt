use Rattle.std.proofs.Common.{inr, sym}
use Rattle.broker_program.proofs.ResultLemmas.{OnErr-const}
use Rattle.broker_program.proofs.can_i_deploy.print_answer.Goals as goal

pub returns-in_err-written-in-Some-clause-err : goal.returns-in_err-written-in-Some-clause-err
returns-in_err-written-in-Some-clause-err g c =
    OnErr-const c.from_residual.result (inr (
      c.in-Some.permitted,
      sym c.in-Some.ensures,
      rw c.body.ensures at c.in_err-written-in-Some.ensures.err,
    ))
