-- What a method asks of a resource (this project's own choice).
use Rattle.std.specs.Prelude.{ℕ, List, [], ◌∷◌, ◌++◌, codes, bytes_eq, filter, is_some, if◌then◌else◌, Option, Some, None}
use Rattle.http_messages.specs.Heads.{served_methods}
use Rattle.http_routes.specs.declared.Resource.{Resource}
use Rattle.http_routes.specs.declared.Resource.TheVariants.{Team, Pacticipant, Environment, Grant, Version, Pact, BranchPact, Results, Replies, Deployments, Undeployments, Releases, SupportEnded, CanIDeploy, Matrix}
use Rattle.http_routes.specs.declared.Operation.{Operation}
use Rattle.http_routes.specs.declared.Operation.TheVariants as operation

-- the operations of a resource, each under its method, in the order of the methods' bytes
abbrev pub operations : Resource → List (List ℕ × Operation)
operations Team = (codes "PUT", operation.PutTeam) ∷ []
operations Pacticipant = (codes "PUT", operation.PutPacticipant) ∷ []
operations Environment = (codes "GET", operation.GetEnvironment) ∷ (codes "PUT", operation.PutEnvironment) ∷ []
operations Grant = (codes "DELETE", operation.DeleteGrant) ∷ (codes "PUT", operation.PutGrant) ∷ []
operations Version = (codes "PUT", operation.PutVersion) ∷ []
operations Pact = (codes "GET", operation.GetPact) ∷ (codes "PUT", operation.PutPact) ∷ []
operations BranchPact = (codes "GET", operation.GetBranchPact) ∷ []
operations Results = (codes "POST", operation.PostResult) ∷ []
operations Replies = (codes "POST", operation.PostReplies) ∷ []
operations Deployments = (codes "POST", operation.Deploy) ∷ []
operations Undeployments = (codes "POST", operation.Undeploy) ∷ []
operations Releases = (codes "POST", operation.Release) ∷ []
operations SupportEnded = (codes "POST", operation.EndSupport) ∷ []
operations CanIDeploy = (codes "GET", operation.CanIDeploy) ∷ []
operations Matrix = (codes "GET", operation.GetMatrix) ∷ []

-- what is under the method
abbrev pub operation_under : List ℕ → List (List ℕ × Operation) → Option Operation
operation_under method [] = None
operation_under method (entry ∷ more) =
    if bytes_eq method entry.0 then Some entry.1 else operation_under method more

-- what is asked; nothing if the resource doesn't have the method
abbrev pub operation_at : Resource → List ℕ → Option Operation
operation_at resource method = operation_under method (operations resource)

-- with a comma and a space between each two
abbrev pub listed : List (List ℕ) → List ℕ
listed [] = []
listed (text ∷ []) = text
listed (text ∷ next ∷ more) = text ++ (codes ", " ++ listed (next ∷ more))

-- the methods that a resource has
abbrev pub allow : Resource → List ℕ
allow resource = listed (filter (λ method. is_some (operation_at resource method)) served_methods)
