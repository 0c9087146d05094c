use Rattle.std.proofs.{Common.{arith}, lemmas.List.{take_all}}
use Rattle.deploy_tables.proofs.MatrixLoop.{LooksUpBetween-then_failed, IsOfSome-take_next, LooksUpBetween-from_both}
use Rattle.deploy_tables.proofs.matrix_rows.of_contracts.Goals as goal

pub loop-contract-preserved : goal.loop-contract-preserved
loop-contract-preserved g c =
    LooksUpBetween-from_both _ _ _ _ _ _ _ _ _ (λ s was here. IsOfSome-take_next _ _ _ _ _ _ _ c.loop-contract-test.true c.contract-item.is c.in-Ok-add.ensures.added was here)
    c.loop-contract.invariant c.in-Ok.ensures

pub returns : goal.returns
returns g c = simp (take_all c.loop-contract.contract-index c.args.contracts.now (omega arith)) at c.loop-contract.invariant

pub returns-in-Err : goal.returns-in-Err
returns-in-Err g c = LooksUpBetween-then_failed _ _ _ _ _ _ _ _ c.loop-contract.invariant c.in-Err.ensures
