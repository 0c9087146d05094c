use Rattle.std.{specs.Prelude.{is_some}, proofs.Common.{ap, ◌∙◌}}
use Rattle.broker_tables.proofs.TableQuery.{LooksUpBetween-is_there}
use Rattle.deploy_tables.proofs.ReleasedRows.{release, IsShown-release, IsShown-release_none}
use Rattle.deploy_tables.proofs.releases.is_released.Goals as goal

pub returns : goal.returns
returns g c =
    let said = rw (c.params-to_sql.ensures, c.params-to_sql-2.ensures) at c.has_row.ensures in
    LooksUpBetween-is_there (release c.args.environment.now c.args.number) _ _ (λ s held rows h has is. (
      λ v numbered. is ∙ IsShown-release c.args.environment.now c.args.number _ rows s v held numbered h,
      λ none. is ∙ ap is_some (IsShown-release_none c.args.environment.now c.args.number _ rows s held none h),
    )) said.leaves said.cause
