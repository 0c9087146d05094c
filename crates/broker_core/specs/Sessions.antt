-- which requests of sessions are done (this project's own)
use Rattle.std.specs.Prelude.{◌≡◌, ◌++◌, List, [], ◌∷◌, Option, Some, None}
use Rattle.broker_core.specs.declared.answer.Answer.{Answer}
use Rattle.broker_core.specs.State.{State}
use Rattle.broker_core.specs.Machine.{Primitives, Request, Run}
use Rattle.broker_core.specs.Laws.{Session, Sessions}

abbrev pub with_cut : List Request → Option Request → List Request
with_cut requests None = requests
with_cut requests (Some cut) = requests ++ cut ∷ []

-- the requests of a session: those that were answered by a step, and the one that was cut
abbrev pub requests_of : Session → List Request
requests_of x = with_cut x.answered x.cut

-- of a session only these requests are done: they are the first of its requests, and every answered one is among them
pub record IsDoneOf (x : Session) (done : List Request) : Type 0 where
  pub are_first : (left : List Request) × (requests_of x ≡ done ++ left)
  pub has_answered : (more : List Request) × (done ≡ x.answered ++ more)

-- of each session these are done, session after session
abbrev pub AreDoneOf : List Session → List Request → Type 0
AreDoneOf [] done = done ≡ []
AreDoneOf (x ∷ xs) done =
    (first : List Request) × (rest : List Request) × IsDoneOf x first × AreDoneOf xs rest × (done ≡ first ++ rest)

-- the state is that of a run over what is done of the sessions
abbrev pub RunsDone : Primitives → State → List Session → State → Type 0
RunsDone parts s xs last =
    (done : List Request) × (answers : List Answer) × AreDoneOf xs done × Run parts s done answers last

-- the states after a list of sessions are exactly those of runs over what is done of them
abbrev pub SessionsRun : Primitives → Type 0
SessionsRun parts =
    (s last : State) (xs : List Session)
    → (Sessions parts s xs last → RunsDone parts s xs last) × (RunsDone parts s xs last → Sessions parts s xs last)
