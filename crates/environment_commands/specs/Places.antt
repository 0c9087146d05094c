-- what the commands on a version read of a state first, and how that refuses them, for the clauses of private
-- functions: no public clause cites it
use Rattle.std.specs.Prelude.{◌≡◌, ◌⊎◌, [], ◌∷◌, ℕ, Option, Some, None, Bool, false, is_some, Result, Ok, Err}
use Rattle.broker_core.specs.Text.{Text}
use Rattle.broker_core.specs.State.{State as Broker}
use Rattle.broker_core.specs.Request.{has_grant, is_known, refusal, unless}
use Rattle.broker_core.specs.declared.answer.Answer.{Answer}
use Rattle.broker_core.specs.declared.answer.Missing.{Missing}
use Rattle.broker_core.specs.declared.command.Command.{Command}
use Rattle.broker_core.specs.declared.command.Command.TheVariants.{Deploy, Undeploy, Release, EndSupport, CanIDeploy, GetMatrix}
use Rattle.broker_core.specs.declared.command.Marks.{Marks}
use Rattle.broker_core.specs.declared.command.Version.{Version}
use Rattle.broker_core.specs.declared.policy.Caller.{Caller}
use Rattle.broker_core.specs.declared.policy.Rule.{Rule}
use Rattle.broker_core.specs.declared.policy.Rule.TheVariants.{OwnerOrOfficeToAsk, OwnerWithGrant}
use Rattle.broker_tables.specs.Numbers.{number_of}
use Rattle.broker_tables.specs.ChangeRefusals.{AreShort}
use Rattle.caller_facts.specs.Owners.{IsOwnerRead}
use Rattle.deploy_tables.specs.Deployments.{IsEnvironment}
use Rattle.environment_commands.specs.declared.places.Admitted.{Admitted}
use Rattle.environment_commands.specs.declared.places.PlaceFacts.{PlaceFacts}
use Rattle.environment_commands.specs.declared.places.VersionFacts.{VersionFacts}
use Rattle.broker_core.specs.declared.answer.Missing.TheVariants as missing

-- of a version: whether its pacticipant is there, whether the rule allows the caller, with a grant or without, and its
-- number
pub record IsVersionRead (s : Broker) (caller : Caller) (rule : Rule) (v : Version) (granted : Bool)
    (found : VersionFacts) : Type 0 where
  pub owner : IsOwnerRead s caller rule v.pacticipant granted found.owner
  pub number_is : number_of s.versions v ≡ found.number
  pub known_is : is_known s v ≡ is_some found.number

-- what is read of a version for a caller who would change where it is deployed or released, and the environment's marks
pub record IsPlaceRead (s : Broker) (caller : Caller) (e : Text) (v : Version) (found : PlaceFacts) : Type 0 where
  pub version : IsVersionRead s caller OwnerWithGrant v (has_grant s caller (Some e)) found.version
  pub marks_is : s.environments e ≡ found.marks

-- the version has this number
abbrev pub HasNumber : Version → ℕ → Broker → Type 0
HasNumber v number s = number_of s.versions v ≡ Some number

-- the environment is there, and the version has this number
abbrev pub HasPlace : Text → Version → ℕ → Broker → Type 0
HasPlace e v number s = IsEnvironment e s × HasNumber v number s

-- a name of it is too long to be stored
abbrev pub IsLongPlace : Text → Version → Text → Type 0
IsLongPlace e v instance = ¬ AreShort (e ∷ v.pacticipant ∷ instance ∷ [])

-- the environment is there with these marks, and the version with this number
abbrev pub IsAdmitted : Text → Version → Admitted → Broker → Type 0
IsAdmitted e v place s = (s.environments e ≡ Some place.marks) × HasNumber v place.number s

-- the command would change whether v is deployed or released in e
abbrev pub ChangesPlace : Text → Version → Command → Type 0
ChangesPlace e v command =
    ((instance : Option Text) × (command ≡ Deploy e v instance))
    ⊎ (((instance : Option Text) × (command ≡ Undeploy e v instance))
    ⊎ ((command ≡ Release e v) ⊎ (command ≡ EndSupport e v)))

-- ---- what was read refuses, or doesn't

-- the first that isn't there: the environment, or what comes next
abbrev pub unless_environment : Broker → Text → Option Missing → Option Missing
unless_environment s e next = unless (is_some (s.environments e)) missing.Environment next

-- the same of a version, whose pacticipant comes before it
abbrev pub unless_version : Broker → Version → Option Missing → Option Missing
unless_version s v next =
    unless (is_some (s.pacticipants v.pacticipant)) missing.Pacticipant (unless (is_known s v) missing.Version next)

-- if this was read of a version, what is missing first follows so from what is missing next
abbrev pub MissesFirst : VersionFacts → (Option Missing → Option Missing) → Type 0
MissesFirst found first = (s : Broker) (v : Version) (next : Option Missing)
    → is_some (s.pacticipants v.pacticipant) ≡ found.owner.has_pacticipant → is_known s v ≡ is_some found.number
    → unless_version s v next ≡ first next

-- each command of this caller that would change whether v is deployed or released in e has this refusal, or none
abbrev pub ChangeHasRefusal : Caller → Text → Version → Option Answer → Broker → Type 0
ChangeHasRefusal caller e v answer s = (command : Command) → ChangesPlace e v command
    → refusal s caller command ≡ answer

-- the caller may change whether v is deployed or released in e, with what is there; or the answer that refuses it
abbrev pub IsAdmission : Caller → Text → Version → Result Admitted Answer → Broker → Type 0
IsAdmission caller e v (Ok place) s = IsAdmitted e v place s × ChangeHasRefusal caller e v None s
IsAdmission caller e v (Err answer) s = ChangeHasRefusal caller e v (Some answer) s

-- if this was read of a place, its change is admitted or refused so
abbrev pub Admits : PlaceFacts → Result Admitted Answer → Type 0
Admits place admission = (s : Broker) (caller : Caller) (e : Text) (v : Version)
    → IsPlaceRead s caller e v place → IsAdmission caller e v admission s

-- if this was read of a version and an environment, the question to the gate has this refusal, or none
abbrev pub GateHasRefusal : VersionFacts → Option Marks → Option Answer → Type 0
GateHasRefusal version marks answer = (s : Broker) (caller : Caller) (v : Version) (e : Text)
    → IsVersionRead s caller OwnerOrOfficeToAsk v false version → s.environments e ≡ marks
    → refusal s caller (CanIDeploy v e) ≡ answer

-- if this was read of a version, the question for its matrix has this refusal, or none
abbrev pub MatrixHasRefusal : VersionFacts → Option Answer → Type 0
MatrixHasRefusal version answer = (s : Broker) (caller : Caller) (v : Version)
    → IsVersionRead s caller OwnerOrOfficeToAsk v false version → refusal s caller (GetMatrix v) ≡ answer
