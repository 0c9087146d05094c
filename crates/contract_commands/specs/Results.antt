-- what the commands on results read of a state and report of it, for the clauses of private functions: no public clause
-- cites it
use Rattle.std.specs.Prelude.{◌≡◌, ◌+◌, ◌++◌, ◌∷◌, [], ℕ, List, unwrap_or, Option, Some, None, Bool, is_some, IsTrue, length}
use Rattle.broker_core.specs.Text.{Text, version}
use Rattle.broker_core.specs.State.{State as Broker, Verification, claimed_result}
use Rattle.broker_core.specs.Request.{is_known}
use Rattle.broker_core.specs.Change.{Transition, with_version, report, result_of_run, says_same}
use Rattle.broker_core.specs.declared.command.Report.{Report}
use Rattle.broker_core.specs.declared.command.Version.{Version}
use Rattle.broker_core.specs.declared.answer.Answer.{Answer}
use Rattle.broker_core.specs.declared.answer.Answer.TheVariants as answer
use Rattle.broker_core.specs.declared.answer.Detail.{Detail}
use Rattle.broker_core.specs.declared.answer.Detail.TheVariants as detail
use Rattle.broker_core.specs.declared.answer.Clash.TheVariants as clash
use Rattle.broker_tables.specs.Numbers.{number_of}
use Rattle.broker_tables.specs.ChangeRefusals.{AreShort}
use Rattle.contract_tables.specs.Verified.{Returned, returned, returned_of, result_for}
use Rattle.contract_tables.specs.declared.lookups.ResultRow.{ResultRow}
use Rattle.contract_commands.specs.Numbering.{CanName}
use Rattle.contract_commands.specs.Pacts.{HasContent}
use Rattle.contract_commands.specs.declared.numbers.VersionNumber.{VersionNumber}
use Rattle.contract_commands.specs.declared.results.Finding.{Finding}
use Rattle.contract_commands.specs.declared.results.Reported.{Reported}
use Rattle.contract_commands.specs.declared.results.Reported.TheVariants.{Recorded, Known, RunTaken, Full}

-- the pacticipant is there
abbrev pub HasPacticipant : Broker → Text → Type 0
HasPacticipant s p = IsTrue (is_some (s.pacticipants p))

-- a result of the provider for the content may come in: both are there
abbrev pub CanReceive : Text → ℕ → Broker → Type 0
CanReceive provider content s = HasPacticipant s provider × HasContent s content

-- the version that a report is of
abbrev pub reported_version : Text → Report → Version
reported_version provider report = version provider report.provider_version

-- the names that are stored with a result
abbrev pub names_of : Text → Report → List Text
names_of provider report = provider ∷ report.provider_version ∷ unwrap_or report.run [] ∷ []

-- one of them is too long to be stored
abbrev pub AreLong : Text → Report → Type 0
AreLong provider report = ¬ AreShort (names_of provider report)

-- the result that a report gives with what was found
abbrev pub reported_result : Text → Report → Finding → Verification
reported_result provider report found =
    result_for found.content (reported_version provider report) found.pass found.checked report.run

-- what is answered for a result, with this detail beside its number
abbrev pub returned_as : (ℕ → Detail) → Reported → Answer
returned_as detail (Recorded number) = answer.Done (detail number)
returned_as detail (Known number) = answer.Already (detail number)
returned_as detail RunTaken = answer.Taken clash.Run
returned_as detail Full = answer.Full

-- the result comes in: this is reported of it, for any detail, and the next state is t
abbrev pub Reports : Broker → Verification → Reported → Broker → Type 0
Reports s r it t = (detail : ℕ → Detail) → record { answer = returned_as detail it; state = t } ≡ report s r detail

-- a report of what was found comes in: this is reported of it, and the next state is t
abbrev pub Receives : Text → Report → Finding → Reported → Broker → Broker → Type 0
Receives provider report found it s t = Reports s (reported_result provider report found) it t

-- the result is to be recorded as it comes in
abbrev pub IsToReport : Text → Report → Finding → Broker → Type 0
IsToReport provider report found s = (number : ℕ) × (t : Broker) × Receives provider report found (Recorded number) s t

-- a report comes in as its sender claims it
abbrev pub Claims : Text → Report → ℕ → Bool → Broker → Transition → Type 0
Claims provider r content success s out =
    out ≡ report s (claimed_result content (reported_version provider r) success r.run) detail.Result

-- the row as a result of the tables
abbrev pub returned_row : ResultRow → Returned
returned_row row = returned row.number row.content row.provider_version row.pass row.checked

-- the row is this result with its number
abbrev pub IsRowOf : Broker → ResultRow → ℕ × Verification → Type 0
IsRowOf s row e = returned_row row ≡ returned_of s.versions e

-- whether the result of the row says the same as what was found by any report whose version has this number
abbrev pub ReportsSame : Broker → ResultRow → Option ℕ → Finding → Bool → Type 0
ReportsSame s row number found same =
    (provider : Text) (report : Report) (e : ℕ × Verification) → IsRowOf s row e
    → number_of s.versions (reported_version provider report) ≡ number
    → same ≡ says_same e.1 (reported_result provider report found)

-- what is reported of any such report whose run was used for the result of the row; nothing changes
abbrev pub ReportsAgain : Broker → ResultRow → Option ℕ → Finding → Reported → Type 0
ReportsAgain s row number found it =
    (provider : Text) (report : Report) (e : ℕ × Verification) → IsRowOf s row e
    → number_of s.versions (reported_version provider report) ≡ number → result_of_run s provider report.run ≡ Some e
    → Reports s (reported_result provider report found) it s

-- the number of the version that a report is of
pub record IsNumbered (s : Broker) (v : Version) (number : Option ℕ) : Type 0 where
  pub number_is : number_of s.versions v ≡ number
  pub known_is : is_known s v ≡ is_some number

-- the provider is there, and has used no such run
pub record IsUnused (s : Broker) (provider : Text) (report : Report) (number : Option ℕ) : Type 0 where
  pub version : IsNumbered s (reported_version provider report) number
  pub owned : HasPacticipant s provider
  pub unused : result_of_run s provider report.run ≡ None

-- the result is added as the last, and its version is named
abbrev pub recorded : Broker → Verification → Broker
recorded s r = record (with_version s r.version) { results = s.results ++ r ∷ [] }

-- a report may come in: its version has this number or gets it, and the provider has used no such run
abbrev pub CanReport : Text → Report → VersionNumber → Broker → Type 0
CanReport provider report version s =
    CanName s (reported_version provider report) version × (result_of_run s provider report.run ≡ None)

-- and be recorded under the next number
abbrev pub CanRecordReport : Text → Report → VersionNumber → ℕ → Broker → Type 0
CanRecordReport provider report version next s =
    CanName s (reported_version provider report) version × (next ≡ length s.results + 1)

-- nothing refuses it: the run is new and the content of what was found is there
abbrev pub AllowsReport : Text → Report → Finding → VersionNumber → ℕ → Broker → Type 0
AllowsReport provider report found version next s =
    CanReport provider report version s × (next ≡ length s.results + 1) × HasContent s found.content

-- what was found is the last result, and the version of its report is named
abbrev pub RecordsReport : Text → Report → Finding → Broker → Broker → Type 0
RecordsReport provider report found s t = t ≡ recorded s (reported_result provider report found)
