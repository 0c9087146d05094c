-- Laws of what can be read back: what a command, a token and a pact file bring into a state, and that each state which
-- a broker reaches from the opening state can be read back (this project's own choice). Of another state that a
-- database holds this isn't known: no rule of the tables asks that a name, a digest or a text is in UTF-8.
use Rattle.std.specs.Prelude.{List, Option, IsUtf8, IfSome}
use Rattle.std.specs.List.{AllByRecursion}
use Rattle.broker_core.specs.declared.answer.Answer.{Answer}
use Rattle.broker_core.specs.declared.command.Command.{Command}
use Rattle.broker_core.specs.declared.command.Command.TheVariants.{PutTeam, PutPacticipant, PutEnvironment, PutGrant, DeleteGrant, PutVersion, PutPact, GetPact, GetBranchPact, PostResult, PostReplies, Deploy, Undeploy, Release, EndSupport, GetEnvironment, CanIDeploy, GetMatrix, Malformed}
use Rattle.broker_core.specs.declared.command.PactPath.{PactPath}
use Rattle.broker_core.specs.declared.command.Report.{Report}
use Rattle.broker_core.specs.declared.command.Version.{Version}
use Rattle.broker_core.specs.Text.{Text}
use Rattle.broker_core.specs.State.{State as Broker, opening}
use Rattle.broker_core.specs.Change.{Transition}
use Rattle.broker_core.specs.Machine.{Primitives, Request, Run, Step}
use Rattle.broker_core.specs.Machine.Reading.{IsPact}
use Rattle.broker_core.specs.SoundNames.{AreNames}
use Rattle.broker_tables.specs.Readable.{IsReadable}

-- ---- what a command brings in

-- both names of a version are in UTF-8
abbrev pub VersionIsUtf8 : Version → Type 0
VersionIsUtf8 v = IsUtf8 v.pacticipant × IsUtf8 v.name

abbrev pub PathIsUtf8 : PactPath → Type 0
PathIsUtf8 path = IsUtf8 path.provider × IsUtf8 path.consumer × IsUtf8 path.version

abbrev pub ReportIsUtf8 : Report → Type 0
ReportIsUtf8 report = IsUtf8 report.provider_version × IfSome report.run IsUtf8

-- each name of a command is in UTF-8
abbrev pub AreUtf8 : Command → Type 0
AreUtf8 (PutTeam team token) = IsUtf8 team
AreUtf8 (PutPacticipant p team) = IsUtf8 p × IsUtf8 team
AreUtf8 (PutEnvironment e marks) = IsUtf8 e
AreUtf8 (PutGrant team e) = IsUtf8 team × IsUtf8 e
AreUtf8 (DeleteGrant team e) = IsUtf8 team × IsUtf8 e
AreUtf8 (PutVersion v branch) = VersionIsUtf8 v × IfSome branch IsUtf8
AreUtf8 (PutPact path file) = PathIsUtf8 path
AreUtf8 (GetPact path) = PathIsUtf8 path
AreUtf8 (GetBranchPact provider consumer branch) = IsUtf8 provider × IsUtf8 consumer × IsUtf8 branch
AreUtf8 (PostResult path report success) = PathIsUtf8 path × ReportIsUtf8 report
AreUtf8 (PostReplies path report replies) = PathIsUtf8 path × ReportIsUtf8 report
AreUtf8 (Deploy e v instance) = IsUtf8 e × VersionIsUtf8 v × IfSome instance IsUtf8
AreUtf8 (Undeploy e v instance) = IsUtf8 e × VersionIsUtf8 v × IfSome instance IsUtf8
AreUtf8 (Release e v) = IsUtf8 e × VersionIsUtf8 v
AreUtf8 (EndSupport e v) = IsUtf8 e × VersionIsUtf8 v
AreUtf8 (GetEnvironment e) = IsUtf8 e
AreUtf8 (CanIDeploy v e) = VersionIsUtf8 v × IsUtf8 e
AreUtf8 (GetMatrix v) = VersionIsUtf8 v
AreUtf8 (Malformed fault) = Unit {0}

-- each name of a command is a name in UTF-8, as its type promises
abbrev pub HasReadableNames : Command → Type 0
HasReadableNames command = AreNames command × AreUtf8 command

-- ---- what the machine takes from other crates

-- what is kept of a token, and of a pact file, is in UTF-8
pub record KeepsUtf8 (parts : Primitives) : Type 0 where
  -- the digest
  pub digests : (token : Text) → IsUtf8 (parts.digest_of token)
  -- the normal text
  pub pacts : (file consumer provider text : Text) → parts.Reads file (IsPact consumer provider text) → IsUtf8 text

-- ---- the laws

-- a new broker's state can be read back
abbrev pub ReadableBegins : Type 0
ReadableBegins = (office : Text) → IsUtf8 office → IsReadable (opening office)

-- a state that can be read back stays so after any command
abbrev pub ReadableStays : Primitives → Type 0
ReadableStays parts =
    (s : Broker) (token : Option Text) (command : Command) (out : Transition) → HasReadableNames command
    → IsReadable s → Step parts s token command out → IsReadable out.state

-- and after a run too
abbrev pub ReadableStaysInRuns : Primitives → Type 0
ReadableStaysInRuns parts =
    (s last : Broker) (requests : List Request) (answers : List Answer)
    → AllByRecursion (λ r. HasReadableNames r.command) requests → IsReadable s
    → Run parts s requests answers last → IsReadable last
