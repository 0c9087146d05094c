-- the laws of the machine (this project's own)
use Rattle.std.specs.Prelude.{◌≡◌, ◌⊎◌, ◌++◌, ℕ, Bool, List, [], ◌∷◌, Option, Some, None, IsSome, IsTrue}
use Rattle.broker_core.specs.declared.policy.Caller.{Caller}
use Rattle.broker_core.specs.declared.policy.Caller.TheVariants.{Team}
use Rattle.broker_core.specs.declared.command.Command.{Command}
use Rattle.broker_core.specs.declared.command.Command.TheVariants.{PutPact, PostResult, PostReplies, Deploy}
use Rattle.broker_core.specs.declared.command.Version.{Version}
use Rattle.broker_core.specs.declared.answer.Answer.{Answer}
use Rattle.broker_core.specs.declared.answer.Answer.TheVariants.{Done, BadForm}
use Rattle.broker_core.specs.declared.command.FormFault.{FormFault}
use Rattle.broker_core.specs.Text.{Text}
use Rattle.broker_core.specs.State.{State, latest, opening}
use Rattle.broker_core.specs.Gate.{IsPresent}
use Rattle.broker_core.specs.Request.{is_known, consumer_version}
use Rattle.broker_core.specs.Change.{Transition}
use Rattle.broker_core.specs.Machine.{Primitives, Reading, HasDigest, pact_text, Step, Request, Run}
use Rattle.broker_core.specs.Machine.Reading.{IsPact, IsRefused}
use Rattle.broker_core.specs.Contents.{HasSoundContents}
use Rattle.broker_core.specs.Listed.{IsListed}

-- no two teams have tokens with one digest: else a digest would have two callers. No step gives two teams one digest
abbrev pub TeamsDiffer : State → Type 0
TeamsDiffer s = (digest a b : Text) → s.teams a ≡ Some digest → s.teams b ≡ Some digest → a ≡ b

abbrev pub IsDone : Answer → Type 0
IsDone (Done detail) = Unit {0}
IsDone _ = ⊥

-- only a step that is answered Done changes anything
abbrev pub OnlyDoneChanges : Primitives → Type 0
OnlyDoneChanges parts =
    (s : State) (token : Option Text) (command : Command) (out : Transition) → Step parts s token command out
    → (out.state ≡ s) ⊎ IsDone out.answer

-- a new broker has sound contents
abbrev pub OpeningIsSound : Primitives → Type 0
OpeningIsSound parts = (office : Text) → HasSoundContents parts (opening office)

-- sound contents stay sound after each step
abbrev pub ContentsStay : Primitives → Type 0
ContentsStay parts =
    (s : State) (token : Option Text) (command : Command) (out : Transition)
    → HasSoundContents parts s → Step parts s token command out → HasSoundContents parts out.state

-- the version v, or one that is in e
abbrev pub Concerns : State → Version → Text → Version → Type 0
Concerns s v e w = (w ≡ v) ⊎ IsPresent s e w

-- what a deployment of v to e by this token may depend on is the same in both states
pub record Agree (parts : Primitives) (token : Option Text) (s t : State) (v : Version) (e : Text) : Type 0 where
  pub callers : (digest : Text) (caller : Caller) → (HasDigest s digest caller → HasDigest t digest caller)
      × (HasDigest t digest caller → HasDigest s digest caller)
  pub owner : s.pacticipants v.pacticipant ≡ t.pacticipants v.pacticipant
  pub known : is_known s v ≡ is_known t v
  pub grant : (team secret : Text) → token ≡ Some secret → HasDigest s (parts.digest_of secret) (Team team)
      → s.grants (team, e) ≡ t.grants (team, e)
  pub environment : s.environments e ≡ t.environments e
  pub deployed : (p instance : Text) → s.deployed (e, p, instance) ≡ t.deployed (e, p, instance)
  pub released : (w : Version) → s.released (e, w) ≡ t.released (e, w)
  pub contracts : (w : Version) (p : Text) → Concerns s v e w → s.contracts (w, p) ≡ t.contracts (w, p)
  pub results : (w : Version) (p : Text) (content : ℕ) → Concerns s v e w → s.contracts (w, p) ≡ Some content
      → (u : Version) → latest s content u ≡ latest t content u

-- an answer that a deployment may get in a state, it may get in each state that agrees on these
abbrev pub GateLocality : Primitives → Type 0
GateLocality parts =
    (token : Option Text) (e : Text) (v : Version) (instance : Option Text) (s t : State) (a : Transition)
    → Agree parts token s t v e → Step parts s token (Deploy e v instance) a
    → (b : Transition) × Step parts t token (Deploy e v instance) b × (a.answer ≡ b.answer)

-- and if a token has one caller, that is the only answer
abbrev pub GateAnswersOnce : Primitives → Type 0
GateAnswersOnce parts =
    (token : Option Text) (e : Text) (v : Version) (instance : Option Text) (s t : State) (a b : Transition)
    → TeamsDiffer s → Agree parts token s t v e
    → Step parts s token (Deploy e v instance) a → Step parts t token (Deploy e v instance) b → a.answer ≡ b.answer

-- a command may come twice, but for results and replies without a run, which are counted each time
abbrev pub IsRepeatable : Command → Type 0
IsRepeatable (PostResult path report success) = IsSome report.run
IsRepeatable (PostReplies path report replies) = IsSome report.run
IsRepeatable _ = Unit {0}

-- Of a command that comes twice one step counts, with its answer: the first, and the second changes nothing; or the
-- second, which is a step from the same state, since the first changed nothing.
abbrev pub Retry : Primitives → (State → Type 0) → Type 0
Retry parts IsAllowed =
    (s : State) (token : Option Text) (command : Command) (a b : Transition) → IsAllowed s → IsRepeatable command
    → Step parts s token command a → Step parts a.state token command b
    → (b.state ≡ a.state) ⊎ ((a.state ≡ s) × Step parts s token command b)

-- the requests of a session that were answered by a step, and at most one more that was cut
pub record Session : Type 0 where
  pub answered : List Request
  pub cut : Option Request

-- the cut request took its step, or did nothing
abbrev pub CutLeaves : Primitives → State → Option Request → State → Type 0
CutLeaves parts s None last = last ≡ s
CutLeaves parts s (Some r) last =
    (last ≡ s) ⊎ ((answer : Answer) × Step parts s r.token r.command (record { answer = answer; state = last }))

-- the states after a list of sessions
abbrev pub Sessions : Primitives → State → List Session → State → Type 0
Sessions parts s [] last = last ≡ s
Sessions parts s (x ∷ xs) last =
    (answers : List Answer) × (mid : State) × (next : State) × Run parts s x.answered answers mid
    × CutLeaves parts mid x.cut next × Sessions parts next xs last

-- how a call ended: answered by a step, answered by no step, or cut by a stop or answered Store
pub data Exit : Type 0 where
  Stepped : Answer → Exit
  NoStep : Exit
  WasCut : Exit

-- what the clauses of one call allow it to leave
abbrev pub CallLeaves : Primitives → State → Request → Exit → State → Type 0
CallLeaves parts s r (Stepped a) next = Step parts s r.token r.command (record { answer = a; state = next })
CallLeaves parts s r NoStep next = next ≡ s
CallLeaves parts s r WasCut next = CutLeaves parts s (Some r) next

-- what the calls of a session leave, one after another
abbrev pub LeavesAll : Primitives → State → List (Request × Exit) → State → Type 0
LeavesAll parts s [] last = last ≡ s
LeavesAll parts s (c ∷ cs) last = (next : State) × CallLeaves parts s c.0 c.1 next × LeavesAll parts next cs last

-- after a call that was cut no call of the session is a step: the broker is stopped
abbrev pub AllNoStep : List (Request × Exit) → Type 0
AllNoStep [] = Unit {0}
AllNoStep ((r, NoStep) ∷ cs) = AllNoStep cs
AllNoStep ((r, Stepped a) ∷ cs) = ⊥
AllNoStep ((r, WasCut) ∷ cs) = ⊥

abbrev pub IsSession : List (Request × Exit) → Type 0
IsSession [] = Unit {0}
IsSession ((r, Stepped a) ∷ cs) = IsSession cs
IsSession ((r, NoStep) ∷ cs) = IsSession cs
IsSession ((r, WasCut) ∷ cs) = AllNoStep cs

-- the session that the calls make
abbrev pub answered_of : List (Request × Exit) → List Request
answered_of [] = []
answered_of ((r, Stepped a) ∷ cs) = r ∷ answered_of cs
answered_of ((r, NoStep) ∷ cs) = answered_of cs
answered_of ((r, WasCut) ∷ cs) = []

abbrev pub cut_of : List (Request × Exit) → Option Request
cut_of [] = None
cut_of ((r, Stepped a) ∷ cs) = cut_of cs
cut_of ((r, NoStep) ∷ cs) = cut_of cs
cut_of ((r, WasCut) ∷ cs) = Some r

abbrev pub sessions_of : List (List (Request × Exit)) → List Session
sessions_of [] = []
sessions_of (cs ∷ css) = record { answered = answered_of cs; cut = cut_of cs } ∷ sessions_of css

-- calls of sessions, each session from the state that the one before left
abbrev pub LeavesSessions : Primitives → State → List (List (Request × Exit)) → State → Type 0
LeavesSessions parts s [] last = last ≡ s
LeavesSessions parts s (cs ∷ css) last =
    (next : State) × IsSession cs × LeavesAll parts s cs next × LeavesSessions parts next css last

-- each session's cut request comes first in the next session, and it isn't a result without a run
abbrev pub BeginsWith : Option Request → List Session → Type 0
BeginsWith None xs = Unit {0}
BeginsWith (Some r) [] = ⊥
BeginsWith (Some r) (x ∷ xs) = ((rest : List Request) × (x.answered ≡ r ∷ rest)) × IsRepeatable r.command

abbrev pub ComeAgain : List Session → Type 0
ComeAgain [] = Unit {0}
ComeAgain (x ∷ xs) = BeginsWith x.cut xs × ComeAgain xs

abbrev pub all_answered : List Session → List Request
all_answered [] = []
all_answered (x ∷ xs) = x.answered ++ all_answered xs

-- if cut requests come again, the state is that of a run over all requests, each once
abbrev pub RunsOnce : Primitives → Type 0
RunsOnce parts =
    (s last : State) (xs : List Session) → ComeAgain xs → Sessions parts s xs last
    → (answers : List Answer) × Run parts s (all_answered xs) answers last

-- the command's file is read in some way, and its replies can be compared with the text of the contract; nothing is
-- asked of a command without a file
abbrev pub CanBeRead : Primitives → State → Command → Type 0
CanBeRead parts s (PutPact path file) = (reading : Reading) × parts.Reads file reading
CanBeRead parts s (PostReplies path report replies) = ((found : Option FormFault) × parts.ReadsReplies replies found)
    × ((text : Text) → pact_text s (consumer_version path) path.provider ≡ Some text → parts.ReadsReplies replies None
    → (failing : Option (List ℕ)) × parts.Fails text replies failing)
CanBeRead parts s _ = Unit {0}

-- every command has a step, in each state whose tables are listed and whose contents are sound
abbrev pub StepExists : Primitives → Type 0
StepExists parts =
    (s : State) (token : Option Text) (command : Command) → IsListed s → HasSoundContents parts s
    → CanBeRead parts s command → (out : Transition) × Step parts s token command out

-- the reading is that a pattern was refused: only this refusal may be a second reading of a file
abbrev pub ReadsRefusal : (FormFault → Bool) → Reading → Type 0
ReadsRefusal is_refusal (IsPact consumer provider text) = ⊥
ReadsRefusal is_refusal (IsRefused fault) = IsTrue (is_refusal fault)

-- the command's file is read in one way, unless a pattern is refused, and its replies in one way; nothing is asked
-- of a command without a file
abbrev pub IsReadOnce : Primitives → (FormFault → Bool) → Command → Type 0
IsReadOnce parts is_refusal (PutPact path file) = (a b : Reading) → parts.Reads file a → parts.Reads file b
    → (a ≡ b) ⊎ (ReadsRefusal is_refusal a ⊎ ReadsRefusal is_refusal b)
IsReadOnce parts is_refusal (PostReplies path report replies) =
    ((a b : Option FormFault) → parts.ReadsReplies replies a → parts.ReadsReplies replies b → a ≡ b)
    × ((text : Text) (a b : Option (List ℕ)) → parts.Fails text replies a → parts.Fails text replies b → a ≡ b)
IsReadOnce parts is_refusal _ = Unit {0}

-- the answer is that a pattern was refused
abbrev pub AnswersRefusal : (FormFault → Bool) → Answer → Type 0
AnswersRefusal is_refusal answer = (fault : FormFault) × (answer ≡ BadForm fault) × IsTrue (is_refusal fault)

-- two steps of this command in one state are one, unless one of them answers that a pattern was refused
abbrev pub HasOneStep : Primitives → (FormFault → Bool) → Command → Type 0
HasOneStep parts is_refusal command =
    (s : State) (token : Option Text) (a b : Transition) → TeamsDiffer s
    → Step parts s token command a → Step parts s token command b
    → (a ≡ b) ⊎ (AnswersRefusal is_refusal a.answer ⊎ AnswersRefusal is_refusal b.answer)

-- a command that is read in one way has one step
abbrev pub StepOnce : Primitives → Type 0
StepOnce parts =
    (is_refusal : FormFault → Bool) (command : Command) → IsReadOnce parts is_refusal command
    → HasOneStep parts is_refusal command
