use Rattle.std.proofs.Common.{◌∙◌}
use Rattle.broker_tables.proofs.TableQuery.{LooksUpBetween-is_there}
use Rattle.registry_tables.proofs.GrantRows.{granted, IsShown-grant}
use Rattle.registry_tables.proofs.grants.granted.Goals as goal

pub returns : goal.returns
returns g c =
    let said = rw (c.params-to_sql.ensures, c.params-to_sql-2.ensures) at c.has_row.ensures in
    LooksUpBetween-is_there (granted c.args.team.now c.args.environment.now) _ _ (λ s held rows h has is. is ∙ IsShown-grant c.args.team.now c.args.environment.now _ rows s held h) said.leaves said.cause
