use Rattle.std.proofs.Common.{◌≡◌, drop, map}
use Rattle.http_routes.specs.Table.{with_routes}
use Rattle.http_routes.proofs.table.add_routes.Given as goal

-- with the routes that are left the router has them all
abbrev pub invariant-loop-route : goal.invariant-loop-route
invariant-loop-route l =
    with_routes (map (λ row. (row.0.now, row.1)) (drop l.route-index l.routes)) l.router
    ≡ with_routes (map (λ row. (row.0.now, row.1)) l.routes) l.fn.router
