-- Which segments of the routes are names.
use Rattle.std.specs.Prelude.{◌≡◌, ⊤, ℕ, List, [], ◌∷◌, codes}
use Rattle.http_routes.specs.Routes.{routes, segment}
use Rattle.http_routes.specs.declared.Resource.{Resource}
use Rattle.http_routes.specs.declared.Resource.TheVariants.{Team, Pacticipant, Environment, Grant, Version, Pact, BranchPact, Results, Replies, Deployments, Undeployments, Releases, SupportEnded, CanIDeploy, Matrix}
use Rattle.http_routes.specs.declared.places.TheConstants.{OWN_NAME, VERSION, GRANTED_TEAM, GRANTED_ENVIRONMENT, PROVIDER, CONSUMER, PACT_VERSION, PACT_BRANCH}

-- the contract that a path names
abbrev pub pact_names : List (ℕ × List ℕ)
pact_names =
    (PROVIDER, codes "{provider}") ∷ (CONSUMER, codes "{consumer}") ∷ (PACT_VERSION, codes "{version}") ∷ []

abbrev pub environment_name : List (ℕ × List ℕ)
environment_name = (OWN_NAME, codes "{environment}") ∷ []

-- the names in the path of a resource, each with its segment
abbrev pub names_in : Resource → List (ℕ × List ℕ)
names_in Team = (OWN_NAME, codes "{team}") ∷ []
names_in Pacticipant = (OWN_NAME, codes "{pacticipant}") ∷ []
names_in Environment = environment_name
names_in Grant = (GRANTED_TEAM, codes "{team}") ∷ (GRANTED_ENVIRONMENT, codes "{environment}") ∷ []
names_in Version = (OWN_NAME, codes "{pacticipant}") ∷ (VERSION, codes "{version}") ∷ []
names_in Pact = pact_names
names_in BranchPact =
    (PROVIDER, codes "{provider}") ∷ (CONSUMER, codes "{consumer}") ∷ (PACT_BRANCH, codes "{branch}") ∷ []
names_in Results = pact_names
names_in Replies = pact_names
names_in Deployments = environment_name
names_in Undeployments = environment_name
names_in Releases = environment_name
names_in SupportEnded = environment_name
names_in CanIDeploy = []
names_in Matrix = []

-- each of these names is the segment of the route
abbrev pub AreIn : List ℕ → List (ℕ × List ℕ) → Type 0
AreIn route [] = ⊤
AreIn route (name ∷ names) = (segment name.0 route ≡ name.1) × AreIn route names

-- the names of each of these routes are where they are said to be
abbrev pub ArePlaced : List (List ℕ × Resource) → Type 0
ArePlaced [] = ⊤
ArePlaced (route ∷ more) = AreIn route.0 (names_in route.1) × ArePlaced more

abbrev pub PlacesAreRight : Type 0
PlacesAreRight = ArePlaced routes
