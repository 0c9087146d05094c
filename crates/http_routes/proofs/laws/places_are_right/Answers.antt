use Rattle.std.proofs.Common.{refl}
use Rattle.http_routes.specs.{Places.{PlacesAreRight}, Routes.{segment}}
use Rattle.http_routes.proofs.laws.places_are_right.Goals as goal

-- route by route, in their order, and name by name
each_route : PlacesAreRight
unfolding segment
each_route =
    ((refl, tt), ((refl, tt), ((refl, tt), ((refl, (refl, tt)), ((refl, (refl, tt)), ((refl, (refl, (refl, tt))), ((refl, (refl, (refl, tt))), ((refl, (refl, (refl, tt))), ((refl, (refl, (refl, tt))), ((refl, tt), ((refl, tt), ((refl, tt), ((refl, tt), (tt, (tt, tt)))))))))))))))

pub returns : goal.returns
returns c = each_route
