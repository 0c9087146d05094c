use Rattle.std.proofs.Common.{Some}
use Rattle.deploy_tables.proofs.{MatrixLoop.{LooksUpBetween-then}, VersionNames.{IsOfNumber-of_version}}
use Rattle.deploy_tables.proofs.matrix_rows.matrix.Goals as goal

pub returns-in-Some : goal.returns-in-Some
returns-in-Some g c =
    let v = c.in-Some.version in
    LooksUpBetween-then _ _ _ (Some v) c.matrix_numbered.result _ _ _ (λ s known rows listed. IsOfNumber-of_version s c.args.number v _ _ known (listed known))
    (rw c.in-Some.is at c.in-Ok.ensures.answers) c.matrix_numbered.ensures
