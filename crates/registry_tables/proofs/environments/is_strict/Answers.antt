use Rattle.std.proofs.Common.{◌∙◌}
use Rattle.broker_tables.proofs.TableQuery.{LooksUpBetween-is_there}
use Rattle.registry_tables.proofs.EnvironmentRows.{strict, IsShown-strict}
use Rattle.registry_tables.proofs.environments.is_strict.Goals as goal

pub returns : goal.returns
returns g c =
    let said = rw c.params-to_sql.ensures at c.has_row.ensures in
    LooksUpBetween-is_there (strict c.args.environment.now) _ _
    (λ s held rows h has there marks is. there ∙ IsShown-strict c.args.environment.now _ rows s marks held is h) said.leaves said.cause
