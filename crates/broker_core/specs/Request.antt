-- what each command asks for before its state is looked at: what must exist, and by which rule it is judged (this
-- project's own choice)
use Rattle.std.specs.Prelude.{List, [], ◌∷◌, ◌++◌, Bool, true, false, ◌&&◌, Option, Some, None, filter, filter_map, is_some}
use Rattle.std.specs.List.{last_or, list_any}
use Rattle.broker_core.specs.declared.policy.Caller.{Caller}
use Rattle.broker_core.specs.declared.policy.Caller.TheVariants.{Office, Team}
use Rattle.broker_core.specs.declared.policy.Rule.{Rule}
use Rattle.broker_core.specs.declared.policy.Rule.TheVariants.{KnownCaller, OfficeOnly, OwnerToPublish, OwnerToVerify, OwnerOrOfficeToRead, OwnerOrOfficeToAsk, OwnerWithGrant, KnownCallerToList}
use Rattle.broker_core.specs.declared.command.Command.{Command}
use Rattle.broker_core.specs.declared.command.Command.TheVariants.{PutTeam, PutPacticipant, PutEnvironment, PutGrant, DeleteGrant, PutVersion, PutPact, GetPact, GetBranchPact, PostResult, PostReplies, Deploy, Undeploy, Release, EndSupport, GetEnvironment, CanIDeploy, GetMatrix, Malformed}
use Rattle.broker_core.specs.declared.command.PactPath.{PactPath}
use Rattle.broker_core.specs.declared.command.Version.{Version}
use Rattle.broker_core.specs.declared.answer.Missing.{Missing}
use Rattle.broker_core.specs.declared.answer.Missing.TheVariants as missing
use Rattle.broker_core.specs.declared.answer.Answer.{Answer}
use Rattle.broker_core.specs.declared.answer.Answer.TheVariants.{Unknown, Denied}
use Rattle.broker_core.specs.Text.{Text, same_text, same_version, version}
use Rattle.broker_core.specs.State.{State}
use Rattle.broker_core.specs.Policy.{allows}

abbrev pub consumer_version : PactPath → Version
consumer_version path = version path.consumer path.version

abbrev pub is_known : State → Version → Bool
is_known s v = list_any (same_version v) s.versions

-- the consumer version with the greatest number among those on the branch that have a contract with the provider
abbrev pub branch_version : State → Text → Text → Text → Option Version
branch_version s provider consumer branch =
    last_or None (filter
    (λ v. same_text v.pacticipant consumer && (s.branches (v, branch) && is_some (s.contracts (v, provider))))
    s.versions)

-- something that has to exist: whether it does in a state, and what is said to be missing if it doesn't
abbrev pub Required : Type 0
Required = State → Bool × Missing

abbrev pub team_there : Text → Required
team_there team s = (is_some (s.teams team), missing.Team)

abbrev pub pacticipant_there : Text → Required
pacticipant_there p s = (is_some (s.pacticipants p), missing.Pacticipant)

abbrev pub environment_there : Text → Required
environment_there e s = (is_some (s.environments e), missing.Environment)

abbrev pub version_there : Version → Required
version_there v s = (is_known s v, missing.Version)

abbrev pub contract_there : PactPath → Required
contract_there path s = (is_some (s.contracts (consumer_version path, path.provider)), missing.Contract)

abbrev pub branch_there : Text → Text → Text → Required
branch_there provider consumer branch s = (is_some (branch_version s provider consumer branch), missing.Contract)

-- a version with its pacticipant, two pacticipants, and a contract between them
abbrev pub version_of : Version → List Required
version_of v = pacticipant_there v.pacticipant ∷ version_there v ∷ []

abbrev pub two_sides : Text → Text → List Required
two_sides provider consumer = pacticipant_there provider ∷ pacticipant_there consumer ∷ []

abbrev pub contract_of : PactPath → List Required
contract_of path =
    two_sides path.provider path.consumer ++ version_there (consumer_version path) ∷ contract_there path ∷ []

-- what a command asks before its state is looked at
pub record Access : Type 0 where
  -- what has to exist, in this order
  pub required : List Required
  -- the rule of the policy by which it is judged
  pub rule : Rule
  -- the pacticipants whose owners count as owners here
  pub sides : List Text
  -- the environment for which a grant is asked
  pub target : Option Text

abbrev pub access : List Required → Rule → List Text → Option Text → Access
access required rule sides target = record { required = required; rule = rule; sides = sides; target = target }

-- a malformed command asks for nothing: it is refused for its form
abbrev pub asks : Command → Access
asks (PutTeam team token) = access [] OfficeOnly [] None
asks (PutPacticipant p team) = access (team_there team ∷ []) OfficeOnly [] None
asks (PutEnvironment e marks) = access [] OfficeOnly [] None
asks (PutGrant team e) = access (team_there team ∷ environment_there e ∷ []) OfficeOnly [] None
asks (DeleteGrant team e) = access (team_there team ∷ environment_there e ∷ []) OfficeOnly [] None
asks (PutVersion v branch) = access (pacticipant_there v.pacticipant ∷ []) OwnerToPublish (v.pacticipant ∷ []) None
asks (PutPact path file) = access (two_sides path.provider path.consumer) OwnerToPublish (path.consumer ∷ []) None
asks (GetPact path) = access (contract_of path) OwnerOrOfficeToRead (path.provider ∷ path.consumer ∷ []) None
asks (GetBranchPact provider consumer branch) =
    access (two_sides provider consumer ++ branch_there provider consumer branch ∷ []) OwnerOrOfficeToRead (provider ∷ consumer ∷ []) None
asks (PostResult path report success) = access (contract_of path) OwnerToVerify (path.provider ∷ []) None
asks (PostReplies path report replies) = access (contract_of path) OwnerToVerify (path.provider ∷ []) None
asks (Deploy e v instance) = access (environment_there e ∷ version_of v) OwnerWithGrant (v.pacticipant ∷ []) (Some e)
asks (Undeploy e v instance) = access (environment_there e ∷ version_of v) OwnerWithGrant (v.pacticipant ∷ []) (Some e)
asks (Release e v) = access (environment_there e ∷ version_of v) OwnerWithGrant (v.pacticipant ∷ []) (Some e)
asks (EndSupport e v) = access (environment_there e ∷ version_of v) OwnerWithGrant (v.pacticipant ∷ []) (Some e)
asks (GetEnvironment e) = access (environment_there e ∷ []) KnownCallerToList [] None
asks (CanIDeploy v e) = access (version_of v ++ environment_there e ∷ []) OwnerOrOfficeToAsk (v.pacticipant ∷ []) None
asks (GetMatrix v) = access (version_of v) OwnerOrOfficeToAsk (v.pacticipant ∷ []) None
asks (Malformed fault) = access [] KnownCaller [] None

-- the first that isn't there
abbrev pub unless : Bool → Missing → Option Missing → Option Missing
unless true what rest = rest
unless false what rest = Some what

abbrev pub first_absent : State → List Required → Option Missing
first_absent s [] = None
first_absent s (required ∷ more) = unless (required s).0 (required s).1 (first_absent s more)

abbrev pub first_missing : State → Command → Option Missing
first_missing s command = first_absent s (asks command).required

abbrev pub has_grant : State → Caller → Option Text → Bool
has_grant s (Team team) (Some e) = s.grants (team, e)
has_grant s (Team team) None = false
has_grant s Office target = false

-- whether the policy allows the command to the caller
abbrev pub is_allowed : State → Caller → Command → Bool
is_allowed s caller command =
    allows (asks command).rule caller (filter_map s.pacticipants (asks command).sides)
    (has_grant s caller (asks command).target)

-- if something isn't there, that is the answer, also if the command isn't allowed
abbrev pub refused : Command → Option Missing → Bool → Option Answer
refused command (Some what) allowed = Some (Unknown what)
refused command None true = None
refused command None false = Some (Denied (asks command).rule)

-- the refusal of a well formed command, if there is one: existence is looked at before the policy
abbrev pub refusal : State → Caller → Command → Option Answer
refusal s caller command = refused command (first_missing s command) (is_allowed s caller command)
