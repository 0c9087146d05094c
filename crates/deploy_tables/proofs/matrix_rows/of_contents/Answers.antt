use Rattle.std.proofs.{Common.{arith}, lemmas.List.{take_all}}
use Rattle.deploy_tables.proofs.MatrixLoop.{LooksUpBetween-then_failed, IsOfSome-take_next_at, LooksUpBetween-from_both}
use Rattle.deploy_tables.proofs.matrix_rows.of_contents.Goals as goal

pub loop-latest-preserved : goal.loop-latest-preserved
loop-latest-preserved g c =
    LooksUpBetween-from_both _ _ _ _ _ _ _ _ _ (λ s was here. IsOfSome-take_next_at _ _ _ _ _ _ _ c.loop-latest-test.true c.in-Ok-add.ensures.added was here)
    c.loop-latest.invariant c.in-Ok.ensures

pub returns : goal.returns
returns g c = simp (take_all c.loop-latest.latest-index c.args.results.now (omega arith)) at c.loop-latest.invariant

pub returns-in-Err : goal.returns-in-Err
returns-in-Err g c = LooksUpBetween-then_failed _ _ _ _ _ _ _ _ c.loop-latest.invariant c.in-Err.ensures
