-- What the names and the digests of a state are, as in every state that a broker reaches (this project's own choice).
use Rattle.std.specs.Prelude.{◌≡◌, ◌⊎◌, ◌≤◌, ℕ, List, [], length, All, Contains, Option, Some, IfSome, IsTrue}
use Rattle.std.specs.List.{AllByRecursion}
use Rattle.broker_core.specs.declared.answer.Answer.{Answer}
use Rattle.broker_core.specs.declared.command.Command.{Command}
use Rattle.broker_core.specs.declared.command.Command.TheVariants.{PutTeam, PutPacticipant, PutEnvironment, PutGrant, DeleteGrant, PutVersion, PutPact, GetPact, GetBranchPact, PostResult, PostReplies, Deploy, Undeploy, Release, EndSupport, GetEnvironment, CanIDeploy, GetMatrix, Malformed}
use Rattle.broker_core.specs.declared.command.Marks.{Marks}
use Rattle.broker_core.specs.declared.command.PactPath.{PactPath}
use Rattle.broker_core.specs.declared.command.Report.{Report}
use Rattle.broker_core.specs.declared.command.Version.{Version}
use Rattle.broker_core.specs.Change.{Transition}
use Rattle.broker_core.specs.Machine.{Primitives, Request, Run, Step}
use Rattle.broker_names.specs.Name.{IsName, IsToken}
use Rattle.broker_core.specs.State.{State, Verification, opening}
use Rattle.broker_core.specs.Text.{Text}

-- 0 to 9, or a to f
abbrev pub IsHexDigit : ℕ → Type 0
IsHexDigit b = ((48 ≤ b) × (b ≤ 57)) ⊎ ((97 ≤ b) × (b ≤ 102))

-- a digest of 32 bytes, as 64 lower-case hexadecimal digits
pub record IsDigest (text : Text) : Type 0 where
  pub whole : length text ≡ 64
  pub digits : All IsHexDigit text

-- both names of a version are names
abbrev pub VersionHasNames : Version → Type 0
VersionHasNames v = IsName v.pacticipant × IsName v.name

-- a name, or the empty text of a deployment without an instance
abbrev pub IsInstance : Text → Type 0
IsInstance instance = (instance ≡ []) ⊎ IsName instance

-- each name is a name, and each digest of a token has its form
pub record HasSoundNames (s : State) : Type 0 where
  pub office : IsDigest s.office
  pub teams : (team digest : Text) → s.teams team ≡ Some digest → IsName team × IsDigest digest
  pub pacticipants : (p team : Text) → s.pacticipants p ≡ Some team → IsName p × IsName team
  pub versions : (v : Version) → Contains s.versions v → VersionHasNames v
  pub branches : (v : Version) (branch : Text) → IsTrue (s.branches (v, branch)) → VersionHasNames v × IsName branch
  pub environments : (e : Text) (marks : Marks) → s.environments e ≡ Some marks → IsName e
  pub grants : (team e : Text) → IsTrue (s.grants (team, e)) → IsName team × IsName e
  pub contracts : (v : Version) (provider : Text) (content : ℕ) → s.contracts (v, provider) ≡ Some content
      → VersionHasNames v × IsName provider
  pub results : (r : Verification) → Contains s.results r → VersionHasNames r.version × IfSome r.run IsName
  pub deployed : (e p instance name : Text) → s.deployed (e, p, instance) ≡ Some name
      → IsName e × IsName p × IsInstance instance × IsName name
  pub released : (e : Text) (v : Version) → IsTrue (s.released (e, v)) → IsName e × VersionHasNames v

-- ---- the names of a command

abbrev pub AreNamesOfPath : PactPath → Type 0
AreNamesOfPath path = IsName path.provider × IsName path.consumer × IsName path.version

abbrev pub AreNamesOfReport : Report → Type 0
AreNamesOfReport report = IsName report.provider_version × IfSome report.run IsName

-- each name of a command is a name, and its token is a token
abbrev pub AreNames : Command → Type 0
AreNames (PutTeam team token) = IsName team × IsToken token
AreNames (PutPacticipant p team) = IsName p × IsName team
AreNames (PutEnvironment e marks) = IsName e
AreNames (PutGrant team e) = IsName team × IsName e
AreNames (DeleteGrant team e) = IsName team × IsName e
AreNames (PutVersion v branch) = VersionHasNames v × IfSome branch IsName
AreNames (PutPact path file) = AreNamesOfPath path
AreNames (GetPact path) = AreNamesOfPath path
AreNames (GetBranchPact provider consumer branch) = IsName provider × IsName consumer × IsName branch
AreNames (PostResult path report success) = AreNamesOfPath path × AreNamesOfReport report
AreNames (PostReplies path report replies) = AreNamesOfPath path × AreNamesOfReport report
AreNames (Deploy e v instance) = IsName e × VersionHasNames v × IfSome instance IsName
AreNames (Undeploy e v instance) = IsName e × VersionHasNames v × IfSome instance IsName
AreNames (Release e v) = IsName e × VersionHasNames v
AreNames (EndSupport e v) = IsName e × VersionHasNames v
AreNames (GetEnvironment e) = IsName e
AreNames (CanIDeploy v e) = VersionHasNames v × IsName e
AreNames (GetMatrix v) = VersionHasNames v
AreNames (Malformed fault) = Unit {0}

-- ---- the laws

-- each digest that is taken of a token has the form of one
abbrev pub GivesDigests : Primitives → Type 0
GivesDigests parts = (token : Text) → IsDigest (parts.digest_of token)

-- a new broker's names are sound
abbrev pub NamesBegin : Type 0
NamesBegin = (office : Text) → IsDigest office → HasSoundNames (opening office)

-- sound names stay sound after each step
abbrev pub NamesStay : Primitives → Type 0
NamesStay parts =
    (s : State) (token : Option Text) (command : Command) (out : Transition) → AreNames command
    → HasSoundNames s → Step parts s token command out → HasSoundNames out.state

-- and after a run too
abbrev pub NamesStayInRuns : Primitives → Type 0
NamesStayInRuns parts =
    (s last : State) (requests : List Request) (answers : List Answer)
    → AllByRecursion (λ r. AreNames r.command) requests → HasSoundNames s
    → Run parts s requests answers last → HasSoundNames last
