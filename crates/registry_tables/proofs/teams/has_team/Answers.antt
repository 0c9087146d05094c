use Rattle.std.{specs.Option.{is_some}, proofs.Common.{ap, sym, ◌∙◌, slice_get}}
use Rattle.sqlite_keyed.proofs.SliceLemmas.{is_some-map}
use Rattle.table_access.specs.Columns.{text}
use Rattle.broker_tables.proofs.TableQuery.{LooksUpBetween-is_there}
use Rattle.registry_tables.proofs.TeamRows.{token, IsShown-token}
use Rattle.registry_tables.proofs.teams.has_team.Goals as goal

pub returns : goal.returns
returns g c =
    let said = rw c.params-to_sql.ensures at c.has_row.ensures in
    LooksUpBetween-is_there (token c.args.team.now) _ _ (λ s held rows h has is. is ∙ sym (is_some-map (text 0) (slice_get rows 0)) ∙ ap is_some (IsShown-token c.args.team.now _ rows s held h)) said.leaves said.cause
