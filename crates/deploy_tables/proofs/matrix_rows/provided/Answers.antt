use Rattle.contract_tables.specs.VersionResults.{latest_cmp, IsLatestOf}
use Rattle.deploy_tables.{specs.Matrix.{IsOfContent}, proofs.MatrixLemmas.{IsOfSome-listed}}
use Rattle.broker_tables.proofs.QueryLemmas.{LooksUpBetween-then}
use Rattle.deploy_tables.proofs.matrix_rows.provided.Goals as goal

pub returns : goal.returns
returns g c =
    let v = c.args.version.now in
    LooksUpBetween-then _ _ _ c.in-Ok.value c.of_contents.result _ _ _
    (λ s listed found here is x. IsOfSome-listed (λ d. IsOfContent s v d x) (IsLatestOf s v) latest_cmp c.in-Ok.value.items c.deref.result.now (listed v is) c.deref.ensures.value _ (here x))
    c.in-Ok.ensures.answers c.of_contents.ensures
