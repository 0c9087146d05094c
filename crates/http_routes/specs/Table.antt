-- The routes as a router keeps them.
use Rattle.std.specs.Prelude.{ℕ, List, [], ◌∷◌, Result, Ok, Err}
use Rattle.matchit.specs.Order.{placed}
use Rattle.matchit.specs.Route.{Scan, parse_route}
use Rattle.matchit.specs.Router.{RouteOf, route_from}
use Rattle.matchit.specs.Rows.{RowsOf}
use Rattle.matchit.specs.declared.error.InsertError.{InsertError}
use Rattle.http_routes.specs.Routes.{routes}
use Rattle.http_routes.specs.declared.Resource.{Resource}

abbrev pub Rows : Type 0
Rows = RowsOf (RouteOf Resource)

-- the rows with one more, if the route's text is one
abbrev pub with_route : Result Scan InsertError → Resource → Rows → Rows
with_route (Ok scan) resource rows = placed (scan.pattern, route_from scan resource) rows
with_route (Err e) resource rows = rows

-- the rows with these routes
abbrev pub with_routes : List (List ℕ × Resource) → Rows → Rows
with_routes [] rows = rows
with_routes ((text, resource) ∷ more) rows = with_routes more (with_route (parse_route text) resource rows)

-- all routes
unfoldable pub table : Rows
table = with_routes routes []
