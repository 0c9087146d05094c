-- The command that a message asks (the forms are this project's own choice).
-- The first fault is returned: those of the path's names come first, in the path's order, and then those of
-- the fields or the query's keys, in the order in which they are written here.
use Rattle.std.specs.Prelude.{◌≡◌, ℕ, Bool, codes, Option, Result, Ok, Err, MatchOption, MatchResult}
use Rattle.serde_json.specs.Data.{Data}
use Rattle.broker_core.specs.Text.{Text, version}
use Rattle.broker_core.specs.declared.command.Command.{Command}
use Rattle.broker_core.specs.declared.command.Command.TheVariants as command
use Rattle.broker_core.specs.declared.command.FormFault.{FormFault}
use Rattle.broker_core.specs.declared.command.FormFault.TheVariants as fault
use Rattle.broker_core.specs.declared.command.Marks.{Marks}
use Rattle.broker_core.specs.declared.command.PactPath.{PactPath}
use Rattle.broker_core.specs.declared.command.Report.{Report}
use Rattle.broker_core.specs.declared.command.Version.{Version}
use Rattle.http_routes.specs.declared.Operation.{Operation}
use Rattle.http_routes.specs.declared.Operation.TheVariants as operation
use Rattle.http_requests.specs.Names.{CommandPart, IsPathName}
use Rattle.http_requests.specs.Queries.{IsQueryName}
use Rattle.http_requests.specs.Bodies.{IsObject, or_empty, IsNameField, IsOptionalName, IsTokenField, IsTruthField, IsOptionalTruth}

-- one part is read, and then the rest; a fault of the part is the whole's
abbrev pub AndThen : {A B : Type 0} → CommandPart A → (A → CommandPart B) → CommandPart B
AndThen {A} IsPart rest r =
    (part : Result A FormFault) × IsPart part × MatchResult part (λ a. rest a r) (λ f. r ≡ Err f)

-- the body is an object, and this is read of its fields
abbrev pub WithFields : {B : Type 0} → Text → (Data → CommandPart B) → CommandPart B
WithFields body rest r =
    (object : Option Data) × IsObject body object × MatchOption object (r ≡ Err fault.Json) (λ fields. rest fields r)

-- all parts are read
abbrev pub IsMade : {A : Type 0} → A → CommandPart A
IsMade made r = r ≡ Ok made

abbrev pub pact_path : Text → Text → Text → PactPath
pact_path provider consumer version = record { provider = provider; consumer = consumer; version = version }

abbrev pub marks : Bool → Bool → Marks
marks gated strict = record { gated = gated; strict = strict }

abbrev pub report_on : Text → Option Text → Report
report_on version run = record { provider_version = version; run = run }

-- two names of the path. A name's place is its segment, counted from 0 by the slashes: in
-- `/pacts/provider/{provider}/consumer/{consumer}/version/{version}` the provider is 3, the consumer 5, the version 7
abbrev pub IsTwoNames : ℕ → ℕ → Text → CommandPart (Text × Text)
IsTwoNames first second path =
    AndThen (IsPathName first path) (λ a.
    AndThen (IsPathName second path) (λ b.
    IsMade (a, b)))

-- the provider, the consumer and a third name
abbrev pub IsPactNames : ℕ → Text → CommandPart (Text × Text × Text)
IsPactNames third path =
    AndThen (IsTwoNames 3 5 path) (λ of.
    AndThen (IsPathName third path) (λ last.
    IsMade (of.0, of.1, last)))

-- the contract that the path names: provider, consumer, version
abbrev pub IsPactPath : Text → CommandPart PactPath
IsPactPath path = AndThen (IsPactNames 7 path) (λ names. IsMade (pact_path names.0 names.1 names.2))

-- the version that the body's fields name
abbrev pub IsVersionFields : Data → CommandPart Version
IsVersionFields fields =
    AndThen (IsNameField (codes "pacticipant") fields) (λ pacticipant.
    AndThen (IsNameField (codes "version") fields) (λ v.
    IsMade (version pacticipant v)))

-- the version that the query names
abbrev pub IsVersionQuery : Text → CommandPart Version
IsVersionQuery query =
    AndThen (IsQueryName (codes "pacticipant") query) (λ pacticipant.
    AndThen (IsQueryName (codes "version") query) (λ v.
    IsMade (version pacticipant v)))

abbrev pub IsMarksFields : Data → CommandPart Marks
IsMarksFields fields =
    AndThen (IsTruthField (codes "gated") fields) (λ gated.
    AndThen (IsOptionalTruth (codes "strict") fields) (λ strict.
    IsMade (marks gated strict)))

-- a grant that is given or taken
abbrev pub IsGrant : (Text → Text → Command) → Text → CommandPart Command
IsGrant make path = AndThen (IsTwoNames 3 5 path) (λ names. IsMade (make names.0 names.1))

-- how a version of a provider did in a run
abbrev pub IsResultFields : Data → CommandPart (Report × Bool)
IsResultFields fields =
    AndThen (IsNameField (codes "providerApplicationVersion") fields) (λ v.
    AndThen (IsTruthField (codes "success") fields) (λ success.
    AndThen (IsOptionalName (codes "run") fields) (λ run.
    IsMade (report_on v run, success))))

-- a report: on which version of a provider, and of which run
abbrev pub IsReportFields : Data → CommandPart Report
IsReportFields fields =
    AndThen (IsNameField (codes "providerApplicationVersion") fields) (λ v.
    AndThen (IsOptionalName (codes "run") fields) (λ run.
    IsMade (report_on v run)))

-- a version, and the instance of an environment
abbrev pub IsMoveFields : Data → CommandPart (Version × Option Text)
IsMoveFields fields =
    AndThen (IsVersionFields fields) (λ v.
    AndThen (IsOptionalName (codes "instance") fields) (λ instance.
    IsMade (v, instance)))

-- what a version does in an environment's instance
abbrev pub IsMove : (Text → Version → Option Text → Command) → Text → Text → CommandPart Command
IsMove make path body =
    AndThen (IsPathName 2 path) (λ environment.
    AndThen (WithFields body IsMoveFields) (λ moved.
    IsMade (make environment moved.0 moved.1)))

-- what is said of a version in an environment
abbrev pub IsSupport : (Text → Version → Command) → Text → Text → CommandPart Command
IsSupport make path body =
    AndThen (IsPathName 2 path) (λ environment.
    AndThen (WithFields body IsVersionFields) (λ v.
    IsMade (make environment v)))

-- the command that an operation asks of a path, a query and a body, or its first fault
abbrev pub IsParsed : Operation → (path query body : Text) → CommandPart Command
IsParsed operation.PutTeam path query body =
    AndThen (IsPathName 2 path) (λ team.
    AndThen (WithFields body IsTokenField) (λ token.
    IsMade (command.PutTeam team token)))
IsParsed operation.PutPacticipant path query body =
    AndThen (IsPathName 2 path) (λ pacticipant.
    AndThen (WithFields body (IsNameField (codes "team"))) (λ team.
    IsMade (command.PutPacticipant pacticipant team)))
IsParsed operation.PutEnvironment path query body =
    AndThen (IsPathName 2 path) (λ environment.
    AndThen (WithFields body IsMarksFields) (λ marked.
    IsMade (command.PutEnvironment environment marked)))
IsParsed operation.PutGrant path query body = IsGrant command.PutGrant path
IsParsed operation.DeleteGrant path query body = IsGrant command.DeleteGrant path
IsParsed operation.PutVersion path query body =
    AndThen (IsTwoNames 2 4 path) (λ names.
    AndThen (WithFields (or_empty body) (IsOptionalName (codes "branch"))) (λ branch.
    IsMade (command.PutVersion (version names.0 names.1) branch)))
IsParsed operation.PutPact path query body = AndThen (IsPactPath path) (λ of. IsMade (command.PutPact of body))
IsParsed operation.GetPact path query body = AndThen (IsPactPath path) (λ of. IsMade (command.GetPact of))
IsParsed operation.GetBranchPact path query body =
    AndThen (IsPactNames 7 path) (λ names. IsMade (command.GetBranchPact names.0 names.1 names.2))
IsParsed operation.PostResult path query body =
    AndThen (IsPactPath path) (λ of.
    AndThen (WithFields body IsResultFields) (λ returned.
    IsMade (command.PostResult of returned.0 returned.1)))
IsParsed operation.PostReplies path query body =
    AndThen (IsPactPath path) (λ of.
    AndThen (WithFields body IsReportFields) (λ report.
    IsMade (command.PostReplies of report body)))
IsParsed operation.Deploy path query body = IsMove command.Deploy path body
IsParsed operation.Undeploy path query body = IsMove command.Undeploy path body
IsParsed operation.Release path query body = IsSupport command.Release path body
IsParsed operation.EndSupport path query body = IsSupport command.EndSupport path body
IsParsed operation.GetEnvironment path query body =
    AndThen (IsPathName 2 path) (λ environment. IsMade (command.GetEnvironment environment))
IsParsed operation.CanIDeploy path query body =
    AndThen (IsVersionQuery query) (λ v.
    AndThen (IsQueryName (codes "environment") query) (λ environment.
    IsMade (command.CanIDeploy v environment)))
IsParsed operation.GetMatrix path query body = AndThen (IsVersionQuery query) (λ v. IsMade (command.GetMatrix v))

-- a command that can't be read is malformed
abbrev pub or_malformed : Result Command FormFault → Command
or_malformed (Ok c) = c
or_malformed (Err f) = command.Malformed f

-- the command of an operation
abbrev pub IsCommand : Operation → (path query body : Text) → Command → Type 0
IsCommand operation path query body c =
    (r : Result Command FormFault) × IsParsed operation path query body r × (c ≡ or_malformed r)
