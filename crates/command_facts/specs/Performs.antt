-- what a command does to the tables, inside its transaction
use Rattle.std.specs.Prelude.{◌⊎◌, ⊤, Result, Ok, Err, Option, Bool, true, false}
use Rattle.sqlite.specs.Held.{Held, state}
use Rattle.sqlite.specs.State.{State}
use Rattle.sqlite_trees.specs.declared.store.Store.{Ghosts}
use Rattle.table_access.specs.declared.StoreFault.{StoreFault}
use Rattle.table_access.specs.Calls.{CallsTablesBetween}
use Rattle.broker_core.specs.Contents.{HasSoundContents}
use Rattle.broker_core.specs.State.{State as Broker}
use Rattle.broker_core.specs.Change.{Transition}
use Rattle.broker_core.specs.declared.answer.Answer.{Answer}
use Rattle.broker_core.specs.declared.answer.Answer.TheVariants.{Done}
use Rattle.broker_core.specs.declared.answer.Detail.{Detail}
use Rattle.broker_core.specs.declared.answer.Detail.TheVariants.{Plain}
use Rattle.broker_core.specs.declared.command.Command.{Command}
use Rattle.broker_core.specs.declared.policy.Caller.{Caller}
use Rattle.broker_core.specs.Machine.{StepOfCaller, Step}
use Rattle.broker_core.specs.SoundNames.{AreNames}
use Rattle.broker_core.specs.Text.{Text}
use Rattle.broker_tables.specs.Failures.{FailsFromBetween, FailsByStoreFromBetween}
use Rattle.broker_tables.specs.Holds.{Holds, HoldsAfter}
use Rattle.broker_tables.specs.Room.{enough}
use Rattle.command_facts.specs.Primitives.{broker_primitives}
use Rattle.command_facts.specs.Patterns.{RefusesPattern, ComparesPattern, AsksPattern}

-- what a known caller's command does: a step of the machine
abbrev pub IsStepOf : Caller → Command → Broker → Transition → Type 0
IsStepOf caller command s out = StepOfCaller broker_primitives s caller command out

-- what a known caller's command does if each stored pact can be read again: a step, or no step if a pattern is refused
abbrev pub CallersStep : Caller → Command → Broker → Transition → Type 0
CallersStep caller command s out =
    HasSoundContents broker_primitives s
    → StepOfCaller broker_primitives s caller command out
    ⊎ (RefusesPattern s out × ComparesPattern s caller command)

-- and what a command does with the token that came with it
abbrev pub TokensStep : Option Text → Command → Broker → Transition → Type 0
TokensStep token command s out =
    HasSoundContents broker_primitives s
    → Step broker_primitives s token command out ⊎ (RefusesPattern s out × AsksPattern s token command)

-- an answer, and the state that the database holds now, are such a transition from the state that it held
abbrev pub PerformsBetween : State → State → (Broker → Transition → Type 0) → Result Answer StoreFault → Type 0
PerformsBetween old new P r =
    CallsTablesBetween old new r (λ answer. (s : Broker) → Holds old.now s → (t : Broker)
    × P s (record { answer = answer; state = t }) × HoldsAfter enough old new t)

-- the same if the state that the database held allows it
abbrev pub PerformsWhereBetween : State → State → (Broker → Type 0) → (Broker → Transition → Type 0)
    → Result Answer StoreFault → Type 0
PerformsWhereBetween old new Allows P r =
    CallsTablesBetween old new r (λ answer. (s : Broker) → Holds old.now s → Allows s → (t : Broker)
    × P s (record { answer = answer; state = t }) × HoldsAfter enough old new t)

-- a step of the command from this state changes something
abbrev pub IsToChange : (Broker → Transition → Type 0) → Broker → Type 0
IsToChange P s = (detail : Detail) × (t : Broker) × P s (record { answer = Done detail; state = t })

-- Why a call fails, in a transaction that shows a state which can be read back: the store failed, or memory ran out;
-- or, only at the states of At, a change of its own was refused. TooBig is what holds if a row was too big for the
-- store.
abbrev pub FailsOnlyAtBetween : {A : Type 0} → State → State → Type 0 → (Broker → Type 0) → Result A StoreFault → Type 0
FailsOnlyAtBetween old new TooBig At r = FailsFromBetween old new r TooBig (λ _. ⊤) At

-- a name of the command is none, as no name of a request is
abbrev pub IsMisnamed : Command → Type 0
IsMisnamed command = ¬ AreNames command

-- ---- both in one

-- why a command fails from states that allow it: also since its change was refused, or never for that
abbrev pub FailsBetween : Bool → State → State → Result Answer StoreFault → Type 0 → (Broker → Type 0)
    → (Broker → Transition → Type 0) → Type 0
FailsBetween true old new r TooBig Allows P = FailsFromBetween old new r TooBig Allows (IsToChange P)
FailsBetween false old new r TooBig Allows P = FailsByStoreFromBetween old new r Allows

-- a command; `changes` is true if its change may be refused
pub record CarriesBetween (changes : Bool) (old new : State) (Allows Open : Broker → Type 0) (TooBig : Type 0)
    (P : Broker → Transition → Type 0) (r : Result Answer StoreFault) : Type 0 where
  -- what it answers from a state that allows it, and what the database holds afterwards
  pub answers : PerformsWhereBetween old new Allows P r
  -- why it fails from a state that is open to it
  pub failure : FailsBetween changes old new r TooBig Open P

-- what a command answers by its change
abbrev pub returned_done : Result (Unit {0}) StoreFault → Result Answer StoreFault
returned_done (Ok u) = Ok (Done Plain)
returned_done (Err e) = Err e

-- ---- the same of a connection over this store

module _ {X : Type 0} (store : Ghosts X) (old new : Held X) where
  abbrev pub Performs : Result Answer StoreFault → (Broker → Transition → Type 0) → Type 0
  Performs r P = PerformsBetween (state store old) (state store new) P r

  abbrev pub PerformsWhere : Result Answer StoreFault → (Broker → Type 0) → (Broker → Transition → Type 0) → Type 0
  PerformsWhere r Allows P = PerformsWhereBetween (state store old) (state store new) Allows P r

  abbrev pub FailsOnlyAt : {A : Type 0} → Result A StoreFault → Type 0 → (Broker → Type 0) → Type 0
  FailsOnlyAt r TooBig At = FailsOnlyAtBetween (state store old) (state store new) TooBig At r

  -- why a command fails from states that allow it: only of one that was to change something the change may be refused
  abbrev pub FailsToChangeFrom : Result Answer StoreFault → Type 0 → (Broker → Type 0) → (Broker → Transition → Type 0)
      → Type 0
  FailsToChangeFrom r TooBig Allows P =
      FailsFromBetween (state store old) (state store new) r TooBig Allows (IsToChange P)

  -- of a known caller's command, whose rows are never too big
  abbrev pub FailsToDoFrom : Result Answer StoreFault → (Broker → Type 0) → Caller → Command → Type 0
  FailsToDoFrom r Allows caller command = FailsToChangeFrom r (IsMisnamed command) Allows (IsStepOf caller command)

  -- a command that may be refused its change
  abbrev pub CarriesFrom : Result Answer StoreFault → (Allows Open : Broker → Type 0) → Type 0
      → (Broker → Transition → Type 0) → Type 0
  CarriesFrom r Allows Open TooBig P = CarriesBetween true (state store old) (state store new) Allows Open TooBig P r

  -- if the states that allow it are those that are open to it
  abbrev pub CarriesWhere : Result Answer StoreFault → (Broker → Type 0) → Type 0 → (Broker → Transition → Type 0)
      → Type 0
  CarriesWhere r Allows TooBig P = CarriesFrom r Allows Allows TooBig P

  -- and from any state
  abbrev pub CarriesTo : Result Answer StoreFault → Type 0 → (Broker → Transition → Type 0) → Type 0
  CarriesTo r TooBig P = CarriesWhere r (λ _. ⊤) TooBig P

  -- a known caller's command, whose rows are never too big
  abbrev pub Carries : Result Answer StoreFault → Caller → Command → Type 0
  Carries r caller command = CarriesTo r (IsMisnamed command) (IsStepOf caller command)

  -- and one whose change is never refused
  abbrev pub CarriesUnrefused : Result Answer StoreFault → Caller → Command → Type 0
  CarriesUnrefused r caller command =
      CarriesBetween false (state store old) (state store new) (λ _. ⊤) (λ _. ⊤) (IsMisnamed command)
      (IsStepOf caller command) r
