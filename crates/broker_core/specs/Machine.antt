-- the machine: what each command answers in a state, and the state that it leaves
-- (this project's own choice; the matrix and the lists of an environment show what the Pact Broker's show)
use Rattle.std.specs.Prelude.{◌≡◌, ◌⊎◌, ℕ, List, [], ◌∷◌, Bool, true, false, not, ◌&&◌, Option, Some, None, option_and_then, IsTrue, IsSomeAnd, MatchOption, is_some, if◌then◌else◌, codes}
use Rattle.std.specs.declared.cmp.Ordering.{Ordering}
use Rattle.std.specs.Ordering.{ordering_then}
use Rattle.std.specs.Option.{option_cmp}
use Rattle.broker_core.specs.declared.policy.Caller.{Caller}
use Rattle.broker_core.specs.declared.policy.Caller.TheVariants.{Office, Team}
use Rattle.broker_core.specs.declared.policy.Rule.TheVariants.{KnownCaller}
use Rattle.broker_core.specs.declared.command.Command.{Command}
use Rattle.broker_core.specs.declared.command.Command.TheVariants.{PutTeam, PutPacticipant, PutEnvironment, PutGrant, DeleteGrant, PutVersion, PutPact, GetPact, GetBranchPact, PostResult, PostReplies, Deploy, Undeploy, Release, EndSupport, GetEnvironment, CanIDeploy, GetMatrix, Malformed}
use Rattle.broker_core.specs.declared.command.FormFault.{FormFault}
use Rattle.broker_core.specs.declared.command.FormFault.TheVariants as fault
use Rattle.broker_core.specs.declared.command.Marks.{Marks}
use Rattle.broker_core.specs.declared.command.Version.{Version}
use Rattle.broker_core.specs.declared.need.PairFault.{PairFault}
use Rattle.broker_core.specs.declared.answer.Answer.{Answer}
use Rattle.broker_core.specs.declared.answer.Answer.TheVariants as answer
use Rattle.broker_core.specs.declared.answer.Answer.TheVariants.{Denied, BadForm, NotPermitted, Shown}
use Rattle.broker_core.specs.declared.answer.Shown.TheVariants as shown
use Rattle.broker_core.specs.declared.answer.Detail.TheVariants.{Result, Replies}
use Rattle.broker_core.specs.declared.answer.DeployedItem.{DeployedItem}
use Rattle.broker_core.specs.declared.answer.MatrixRow.{MatrixRow}
use Rattle.broker_core.specs.declared.answer.Verified.{Verified}
use Rattle.broker_core.specs.Text.{Text, same_text, text_cmp, version}
use Rattle.broker_core.specs.State.{State, claimed_result, checked_result, said_by, latest_result}
use Rattle.broker_core.specs.Listing.{Lists}
use Rattle.broker_core.specs.Gate.{Judges}
use Rattle.broker_core.specs.Request.{consumer_version, branch_version, refusal}
use Rattle.broker_core.specs.Change.{Transition, unchanged_with, put_team, put_pacticipant, put_environment, put_grant, delete_grant, put_version, text_of, put_pact, report, instance_of, deploy, undeploy, release, end_support}

-- a file is read as a pact, of which its two names and its normal text matter here, or refused
pub data Reading : Type 0 where
  IsPact : (consumer provider normal_text : Text) → Reading
  IsRefused : FormFault → Reading

-- what other crates define: the digest, the reading of pact files and of replies, and their comparison. Reading
-- and comparing are relations,
-- since the definitions don't decide whether each pattern is read
pub record Primitives : Type 1 where
  pub digest_of : Text → Text
  -- the reading of the bytes of a pact file
  pub Reads : Text → Reading → Type 0
  -- whether the bytes hold well formed replies: the fault, or none
  pub ReadsReplies : Text → Option FormFault → Type 0
  -- of a normal text and the bytes of replies: the places of the interactions that fail; none where a reply
  -- belongs to no interaction
  pub Fails : Text → Text → Option (List ℕ) → Type 0

-- the token of this caller has this digest
abbrev pub HasDigest : State → Text → Caller → Type 0
HasDigest s digest Office = s.office ≡ digest
HasDigest s digest (Team team) = s.teams team ≡ Some digest

-- the caller whose token has this digest: the office if it is the office's, else the team that has it, none
-- if no one's has.
-- That the office comes first is this project's own choice, for states in which a team's token is the office's too
abbrev pub IsCallerOfDigest : State → Text → Option Caller → Type 0
IsCallerOfDigest s digest (Some Office) = HasDigest s digest Office
IsCallerOfDigest s digest (Some (Team team)) = ¬ (HasDigest s digest Office) × HasDigest s digest (Team team)
IsCallerOfDigest s digest None = (caller : Caller) → ¬ (HasDigest s digest caller)

-- the caller of a token; without a token there is none
abbrev pub IsCallerOfToken : Primitives → State → Option Text → Option Caller → Type 0
IsCallerOfToken parts s (Some token) who = IsCallerOfDigest s (parts.digest_of token) who
IsCallerOfToken parts s None who = who ≡ None

-- the fault of a file for a path: its own, or that its names are others
abbrev pub fault_of_reading : Text → Text → Reading → Option FormFault
fault_of_reading consumer provider (IsRefused fault) = Some fault
fault_of_reading consumer provider (IsPact c p text) =
    if same_text c consumer && same_text p provider then None else Some fault.Names

-- a strict environment is a gated one
abbrev pub fault_of_marks : Marks → Option FormFault
fault_of_marks marks = if marks.strict && not marks.gated then Some (fault.Field (codes "strict")) else None

-- the fault of a command's form, if there is one; of the other commands no form is wrong
abbrev pub FindsFault : Primitives → Command → Option FormFault → Type 0
FindsFault parts (PutEnvironment e marks) found = found ≡ fault_of_marks marks
FindsFault parts (PutPact path file) found =
    (reading : Reading) × parts.Reads file reading × (found ≡ fault_of_reading path.consumer path.provider reading)
FindsFault parts (PostReplies path report replies) found = parts.ReadsReplies replies found
FindsFault parts (Malformed fault) found = found ≡ Some fault
FindsFault parts _ found = found ≡ None

abbrev pub is_empty : List ℕ → Bool
is_empty [] = true
is_empty (x ∷ xs) = false

-- the text of the contract of a version with a provider
abbrev pub pact_text : State → Version → Text → Option Text
pact_text s v provider = option_and_then (text_of s) (s.contracts (v, provider))

-- what is deployed is listed by pacticipant and instance
abbrev pub deployed_cmp : DeployedItem → DeployedItem → Ordering
deployed_cmp x y =
    ordering_then (text_cmp x.pacticipant y.pacticipant)
    (ordering_then (text_cmp x.instance y.instance) (text_cmp x.version y.version))

-- what is released is listed by pacticipant and version
abbrev pub version_cmp : Version → Version → Ordering
version_cmp x y = ordering_then (text_cmp x.pacticipant y.pacticipant) (text_cmp x.name y.name)

-- there is a result for this content and version of the provider; r has what the latest one says, and its number
abbrev pub IsLatest : State → ℕ → Version → Verified → Type 0
IsLatest s content w r = IsSomeAnd (latest_result s content w) (λ e. (r.result ≡ e.0) × (r.latest ≡ said_by e.1))

abbrev pub verified_version : Option Verified → Option Text
verified_version None = None
verified_version (Some r) = Some r.provider_version

-- rows of the matrix are sorted as faults are: by consumer, its version, provider, its version (none first)
abbrev pub matrix_cmp : MatrixRow → MatrixRow → Ordering
matrix_cmp x y = ordering_then (text_cmp x.consumer y.consumer)
    (ordering_then (text_cmp x.consumer_version y.consumer_version)
    (ordering_then (text_cmp x.provider y.provider)
    (option_cmp text_cmp (verified_version x.verified) (verified_version y.verified))))

-- a contract with the latest result of a version of its provider, if one of the two is v; or a contract that v
-- consumes and no version of the provider has a result for
pub record IsMatrixRow (s : State) (v : Version) (row : MatrixRow) : Type 0 where
  pub content : ℕ
  pub contract : s.contracts (version row.consumer row.consumer_version, row.provider) ≡ Some content
  pub verified : MatchOption row.verified
      ((version row.consumer row.consumer_version ≡ v)
      × ((w : Text) → latest_result s content (version row.provider w) ≡ None))
      (λ r. ((version row.consumer row.consumer_version ≡ v) ⊎ (version row.provider r.provider_version ≡ v))
      × IsLatest s content (version row.provider r.provider_version) r)

-- replies pass if no interaction fails; they are refused if one belongs to no interaction
abbrev pub report_replies : State → ℕ → Version → Option Text → Option (List ℕ) → Transition
report_replies s content v run None = unchanged_with s (BadForm fault.UnknownReply)
report_replies s content v run (Some failing) =
    report s (checked_result content v (is_empty failing) run) (λ n. Replies failing n (is_empty failing))

-- what a permitted command does
abbrev pub TakesEffect : Primitives → State → Command → Transition → Type 0
TakesEffect parts s (PutTeam team token) out =
    (holder : Option Caller) × IsCallerOfDigest s (parts.digest_of token) holder
    × (out ≡ put_team s team (parts.digest_of token) (is_some holder))
TakesEffect parts s (PutPacticipant p team) out = out ≡ put_pacticipant s p team
TakesEffect parts s (PutEnvironment e marks) out = out ≡ put_environment s e marks
TakesEffect parts s (PutGrant team e) out = out ≡ put_grant s team e
TakesEffect parts s (DeleteGrant team e) out = out ≡ delete_grant s team e
TakesEffect parts s (PutVersion v branch) out = out ≡ put_version s v branch
TakesEffect parts s (PutPact path file) out =
    (text : Text) × parts.Reads file (IsPact path.consumer path.provider text)
    × (out ≡ put_pact s (consumer_version path) path.provider text)
TakesEffect parts s (GetPact path) out =
    (text : Text) × (pact_text s (consumer_version path) path.provider ≡ Some text)
    × (out ≡ unchanged_with s (Shown (shown.Pact text)))
TakesEffect parts s (GetBranchPact provider consumer branch) out =
    (v : Version) × (branch_version s provider consumer branch ≡ Some v)
    × ((text : Text) × (pact_text s v provider ≡ Some text) × (out ≡ unchanged_with s (Shown (shown.Pact text))))
TakesEffect parts s (PostResult path r success) out =
    (content : ℕ) × (s.contracts (consumer_version path, path.provider) ≡ Some content)
    × (out ≡ report s (claimed_result content (version path.provider r.provider_version) success r.run) Result)
TakesEffect parts s (PostReplies path r replies) out =
    (content : ℕ) × (s.contracts (consumer_version path, path.provider) ≡ Some content)
    × ((text : Text) × (text_of s content ≡ Some text)
    × ((failing : Option (List ℕ)) × parts.Fails text replies failing
    × (out ≡ report_replies s content (version path.provider r.provider_version) r.run failing)))
TakesEffect parts s (Deploy e v instance) out =
    (permitted : Bool) × (faults : List PairFault) × Judges s v e permitted faults
    × (out ≡ (if permitted then deploy s e v (instance_of instance) else unchanged_with s (NotPermitted faults)))
TakesEffect parts s (Undeploy e v instance) out = out ≡ undeploy s e v (instance_of instance)
TakesEffect parts s (Release e v) out =
    (permitted : Bool) × (faults : List PairFault) × Judges s v e permitted faults
    × (out ≡ (if permitted then release s e v else unchanged_with s (NotPermitted faults)))
TakesEffect parts s (EndSupport e v) out = out ≡ end_support s e v
TakesEffect parts s (GetEnvironment e) out =
    (marks : Marks) × (s.environments e ≡ Some marks)
    × ((items : List DeployedItem)
    × Lists deployed_cmp (λ x. s.deployed (e, x.pacticipant, x.instance) ≡ Some x.version) items
    × ((versions : List Version) × Lists version_cmp (λ v. IsTrue (s.released (e, v))) versions
    × (out ≡ unchanged_with s (Shown (shown.Environment e marks items versions)))))
TakesEffect parts s (CanIDeploy v e) out =
    (marks : Marks) × (s.environments e ≡ Some marks)
    × ((permitted : Bool) × (faults : List PairFault) × Judges s v e permitted faults
    × (out ≡ unchanged_with s (Shown (shown.Gate e marks permitted faults))))
TakesEffect parts s (GetMatrix v) out =
    (rows : List MatrixRow) × Lists matrix_cmp (IsMatrixRow s v) rows
    × (out ≡ unchanged_with s (Shown (shown.Matrix rows)))
TakesEffect parts s (Malformed fault) out = ⊥

-- the answers that steps have: none of them says that a pattern was too costly, that memory or the store failed,
-- or that a broker is stopped
abbrev pub is_step : Answer → Bool
is_step (answer.Done detail) = true
is_step (answer.Already detail) = true
is_step (answer.Shown shown) = true
is_step (answer.Denied rule) = true
is_step (answer.Unknown missing) = true
is_step (answer.BadForm fault) = true
is_step (answer.Taken clash) = true
is_step answer.Full = true
is_step (answer.NotPermitted faults) = true
is_step answer.Pattern = false
is_step answer.Memory = false
is_step answer.Store = false
is_step answer.Stopped = false

-- a known caller's command: its form comes first, then existence and policy, and then what the command does
abbrev pub StepOfCaller : Primitives → State → Caller → Command → Transition → Type 0
StepOfCaller parts s caller command out =
    (found : Option FormFault) × FindsFault parts command found × MatchOption found
    (MatchOption (refusal s caller command) (TakesEffect parts s command out)
    (λ answer. out ≡ unchanged_with s answer))
    (λ fault. out ≡ unchanged_with s (BadForm fault))

-- a command with its token: who calls comes before all else
abbrev pub Step : Primitives → State → Option Text → Command → Transition → Type 0
Step parts s token command out =
    (who : Option Caller) × IsCallerOfToken parts s token who
    × MatchOption who (out ≡ unchanged_with s (Denied KnownCaller)) (λ caller. StepOfCaller parts s caller command out)

-- a command with the token that came with it
pub record Request : Type 0 where
  pub token : Option Text
  pub command : Command

-- the answers and the last state, one step after another
abbrev pub Run : Primitives → State → List Request → List Answer → State → Type 0
Run parts s [] [] last = last ≡ s
Run parts s (r ∷ rs) (a ∷ answers) last =
    (next : State) × Step parts s r.token r.command (record { answer = a; state = next })
    × Run parts next rs answers last
Run parts s [] (a ∷ answers) last = ⊥
Run parts s (r ∷ rs) [] last = ⊥
