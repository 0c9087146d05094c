use Rattle.contract_tables.specs.Listings.{contract_cmp}
use Rattle.deploy_tables.{specs.{Matrix.{IsOfContract}, Needs.{IsOwnContract}}, proofs.MatrixLemmas.{IsMatrixRow-both_sides, IsOfSome-listed}}
use Rattle.deploy_tables.proofs.MatrixLoop.{LooksUpBetween-then_failed, LooksUpBetween-both, LooksUpBetween-other_answer}
use Rattle.deploy_tables.proofs.matrix_rows.matrix_numbered.Goals as goal

pub returns : goal.returns
returns g c =
    let v = c.args.version.now in
    LooksUpBetween-other_answer _ _ _ c.each_row_once.result _ _
    (λ s read is. c.each_row_once.ensures s v (IsMatrixRow-both_sides s v _ _ _ c.in-Ok-add.ensures.added
    (λ x. IsOfSome-listed (λ d. IsOfContract s v d x) (IsOwnContract s v) contract_cmp c.in-Ok.value.items c.deref.result.now (read.0.0 v is) c.deref.ensures.value _ (read.0.1 x))
    (read.1 is)))
    (LooksUpBetween-both _ _ _ _ _ _ _ (LooksUpBetween-both _ _ _ _ _ _ _ c.in-Ok.ensures.answers c.in-Ok-of_contracts.ensures) c.in-Ok-provided.ensures)

pub returns-in-Err-of_contracts : goal.returns-in-Err-of_contracts
returns-in-Err-of_contracts g c = LooksUpBetween-then_failed _ _ _ _ _ _ _ _ c.in-Ok.ensures.answers c.in-Err-of_contracts.ensures

pub returns-in-Err-provided : goal.returns-in-Err-provided
returns-in-Err-provided g c =
    LooksUpBetween-then_failed _ _ _ _ _ _ _ _ (LooksUpBetween-both _ _ _ _ _ _ _ c.in-Ok.ensures.answers c.in-Ok-of_contracts.ensures) c.in-Err-provided.ensures
