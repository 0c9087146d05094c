-- The sentence of Headline.antt over a list of requests (this project's own): in a run of the machine, each deployment
-- is recorded exactly when it may be in the state in which it comes, and otherwise refused; so is each release
use Rattle.std.specs.Prelude.{◌≡◌, ◌++◌, List, ◌∷◌, Option}
use Rattle.broker_core.specs.declared.command.Command.TheVariants.{Deploy, Release}
use Rattle.broker_core.specs.declared.command.Version.{Version}
use Rattle.broker_core.specs.declared.answer.Answer.{Answer}
use Rattle.broker_core.specs.Text.{Text}
use Rattle.broker_core.specs.State.{State, opening}
use Rattle.broker_core.specs.Change.{Transition}
use Rattle.broker_core.specs.Machine.{Primitives, Request, Run}
use Rattle.broker_core.specs.Laws.{TeamsDiffer}
use Rattle.broker_core.specs.Headline.{IsDeployedExactly, IsReleasedExactly}

module _ (parts : Primitives) where
  -- A request of a run from one state to another, with the requests before and after it: IsExactly says, by the state
  -- in which the request comes, what it is answered and what it leaves.
  pub record IsTaken (IsExactly : State → Transition → Type 0) (first : State) (before after : List Request)
      (answers : List Answer) (last : State) : Type 0 where
    -- the requests before it lead to the state in which it comes
    pub earlier : List Answer
    pub found : State
    pub reached : Run parts first before earlier found
    -- its own answer, and the state that it leaves
    pub answer : Answer
    pub left : State
    pub exactly : IsExactly found (record { answer = answer; state = left })
    -- from which the requests after it lead to the last
    pub later : List Answer
    pub goes_on : Run parts left after later last
    -- the answers of the run are these, in this order
    pub in_order : answers ≡ earlier ++ answer ∷ later

  -- in each run each deployment is recorded exactly when it may be
  abbrev pub RunsDeployExactly : Type 0
  RunsDeployExactly =
      (first last : State) (before after : List Request) (answers : List Answer)
      (token : Option Text) (e : Text) (v : Version) (instance : Option Text) → TeamsDiffer first
      → Run parts first (before ++ record { token = token; command = Deploy e v instance } ∷ after) answers last
      → IsTaken (λ s. IsDeployedExactly parts s token e v instance) first before after answers last

  -- and each release
  abbrev pub RunsReleaseExactly : Type 0
  RunsReleaseExactly =
      (first last : State) (before after : List Request) (answers : List Answer)
      (token : Option Text) (e : Text) (v : Version) → TeamsDiffer first
      → Run parts first (before ++ record { token = token; command = Release e v } ∷ after) answers last
      → IsTaken (λ s. IsReleasedExactly parts s token e v) first before after answers last

  -- two teams never have tokens with one digest: in no state of a run, if in the first they had none
  abbrev pub TeamsStayApart : Type 0
  TeamsStayApart =
      (first last : State) (requests : List Request) (answers : List Answer)
      → TeamsDiffer first → Run parts first requests answers last → TeamsDiffer last

-- a new broker has no team
abbrev pub TeamsBeginApart : Type 0
TeamsBeginApart = (office : Text) → TeamsDiffer (opening office)
