use Rattle.std.proofs.{Common.{◌+◌, ◌∙◌, ap, sym, drop, map, refl}, lemmas.List.{at_drop_more, drop_all}}
use Rattle.http_routes.specs.Table.{with_routes}
use Rattle.http_routes.proofs.table.add_routes.Goals as goal

pub loop-route-init : goal.loop-route-init
loop-route-init c = refl

pub loop-route-preserved : goal.loop-route-preserved
loop-route-preserved c =
    let routes = c.args.routes.now in
    let i = c.loop-route.route-index in
    ap (with_routes (map (λ row. (row.0.now, row.1)) (drop (i + 1) routes))) c.in_ok-add.ensures
    ∙ sym (at_drop_more (λ rows. with_routes (map (λ row. (row.0.now, row.1)) rows) c.loop-route.router) routes i _ c.loop-route-test.true)
    ∙ c.loop-route.invariant

pub returns : goal.returns
returns c =
    rw (drop_all c.loop-route.route-index c.args.routes.now c.loop-route-test.false) at c.loop-route.invariant
