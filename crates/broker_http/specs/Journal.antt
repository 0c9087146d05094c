-- A stream's commands as a run of the machine.
use Rattle.std.specs.Prelude.{◌≡◌, ◌⊎◌, List, [], ◌∷◌, ◌++◌, map, Option, if◌then◌else◌}
use Rattle.broker_core.specs.Laws.{TeamsDiffer}
use Rattle.broker_core.specs.Machine.{Request, Run, is_step}
use Rattle.broker_core.specs.State.{State as Broker}
use Rattle.broker_core.specs.Text.{Text}
use Rattle.broker_core.specs.declared.answer.Answer.{Answer}
use Rattle.broker_core.specs.declared.command.Command.{Command}
use Rattle.command_facts.specs.Primitives.{broker_primitives}
use Rattle.broker_http.specs.Serving.{Mode, ModeStep}
use Rattle.broker_http.specs.Serving.Mode.{Running, IsStopped}

-- the machine's mode, and what it answered by a step so far, in order
pub record Journal : Type 0 where
  pub mode : Mode
  pub steps : List (Request × Answer)

-- nothing is answered yet
abbrev pub blank : Mode → Journal
blank mode = record { mode = mode; steps = [] }

-- an answer that is no step is left out
abbrev pub written : List (Request × Answer) → Option Text → Command → Answer → List (Request × Answer)
written steps token command answer =
    if is_step answer then steps ++ (record { token = token; command = command }, answer) ∷ [] else steps

-- the machine answers, and a step is written down
abbrev pub JournalStep : Journal → Option Text → Command → Answer → Journal → Type 0
JournalStep old token command answer new =
    ModeStep old.mode token command answer new.mode × (new.steps ≡ written old.steps token command answer)

-- the state that the machine is in, or was in before the command that failed
abbrev pub state_of : Mode → Broker
state_of (Running s) = s
state_of (IsStopped s token command) = s

pub record IsRunFrom (mode : Mode) (journal : Journal) : Type 0 where
  -- the steps, in order and with their answers, run the machine from the first state to the last
  pub runs : Run broker_primitives (state_of mode) (map (λ x. x.0) journal.steps) (map (λ x. x.1) journal.steps)
      (state_of journal.mode)
  -- if there is a step, no two teams of the first state have tokens with one digest
  pub teams_differ : (journal.steps ≡ []) ⊎ TeamsDiffer (state_of mode)
