-- Which route a path has (the paths are this project's own choice but for the publication of a pact, which is
-- the Pact Broker's).
use Rattle.std.specs.Prelude.{ℕ, ◌==◌, ◌&&◌, Bool, true, false, List, [], ◌∷◌, ◌++◌, length, codes, bytes_eq, nat_eq, nat_lt, if◌then◌else◌, Option, Some, None, slice_get, unwrap_or}
use Rattle.std.specs.List.{slice_split, starts_with}
use Rattle.http_routes.specs.declared.Resource.{Resource}
use Rattle.http_routes.specs.declared.Resource.TheVariants.{Team, Pacticipant, Environment, Grant, Version, Pact, BranchPact, Results, Replies, Deployments, Undeployments, Releases, SupportEnded, CanIDeploy, Matrix}

abbrev pub is_slash : ℕ → Bool
is_slash b = b == 47

-- what is before, between and after the slashes
abbrev pub segments : List ℕ → List (List ℕ)
segments path = slice_split is_slash path

-- a piece in braces is a parameter
abbrev pub is_parameter : List ℕ → Bool
is_parameter piece = starts_with nat_eq piece (codes "{")

-- a segment fits a parameter if it isn't empty, and every other piece if it is the same
unfoldable pub fits : List ℕ → List ℕ → Bool
fits piece segment = if is_parameter piece then nat_lt 0 (length segment) else bytes_eq piece segment

-- as many segments as pieces, and each fits
abbrev pub all_fit : List (List ℕ) → List (List ℕ) → Bool
all_fit [] [] = true
all_fit [] (segment ∷ more) = false
all_fit (piece ∷ pieces) [] = false
all_fit (piece ∷ pieces) (segment ∷ more) = fits piece segment && all_fit pieces more

-- a path is on a route
unfoldable pub is_on : List ℕ → List ℕ → Bool
is_on route path = all_fit (segments route) (segments path)

-- teams and what they own
abbrev pub registry_routes : List (List ℕ × Resource)
registry_routes =
    (codes "/teams/{team}", Team)
    ∷ (codes "/pacticipants/{pacticipant}", Pacticipant)
    ∷ (codes "/environments/{environment}", Environment)
    ∷ (codes "/grants/team/{team}/environment/{environment}", Grant)
    ∷ (codes "/pacticipants/{pacticipant}/versions/{version}", Version)
    ∷ []

-- pacts and what is said of them
abbrev pub pact_routes : List (List ℕ × Resource)
pact_routes =
    (codes "/pacts/provider/{provider}/consumer/{consumer}/version/{version}", Pact)
    ∷ (codes "/pacts/provider/{provider}/consumer/{consumer}/branch/{branch}", BranchPact)
    ∷ (codes "/pacts/provider/{provider}/consumer/{consumer}/version/{version}/results", Results)
    ∷ (codes "/pacts/provider/{provider}/consumer/{consumer}/version/{version}/replies", Replies)
    ∷ []

-- what is deployed, and what is released
abbrev pub deployment_routes : List (List ℕ × Resource)
deployment_routes =
    (codes "/environments/{environment}/deployments", Deployments)
    ∷ (codes "/environments/{environment}/undeployments", Undeployments)
    ∷ (codes "/environments/{environment}/releases", Releases)
    ∷ (codes "/environments/{environment}/support-ended", SupportEnded)
    ∷ []

-- what may be asked
abbrev pub question_routes : List (List ℕ × Resource)
question_routes =
    (codes "/can-i-deploy", CanIDeploy)
    ∷ (codes "/matrix", Matrix)
    ∷ []

-- the routes there are; no path is on two of them
abbrev pub routes : List (List ℕ × Resource)
routes = registry_routes ++ (pact_routes ++ (deployment_routes ++ question_routes))

-- the resource of the route that a path is on
abbrev pub resource_in : List (List ℕ × Resource) → List ℕ → Option Resource
resource_in [] path = None
resource_in (route ∷ more) path = if is_on route.0 path then Some route.1 else resource_in more path

unfoldable pub resource_of : List ℕ → Option Resource
resource_of path = resource_in routes path

-- one segment of a path, counted from 0, empty if there is none
unfoldable pub segment : ℕ → List ℕ → List ℕ
segment n path = unwrap_or (slice_get (segments path) n) []
