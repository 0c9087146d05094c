use Rattle.std.proofs.Common.{ap, ◌∙◌}
use Rattle.http_routes.specs.{Routes.{routes}, Table.{table, with_routes}}
use Rattle.http_routes.proofs.table.RouteTable.new.Goals as goal

pub invariant_of-result : goal.invariant_of-result
unfolding table
invariant_of-result c = record {
  whole = c.in_ok-add_routes.ensures ∙ ap (with_routes routes) c.new-router.ensures;
}
