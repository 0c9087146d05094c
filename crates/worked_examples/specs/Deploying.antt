-- What the caller that deploys promises (this project's own).
use Rattle.std.specs.Prelude.{◌≡◌, Bool, true, false, Option, Some, Result, Ok, Err}
use Rattle.sqlite.specs.Held.{Held}
use Rattle.sqlite.specs.State.{State, HasCleanDisk}
use Rattle.broker_core.specs.Change.{instance_of}
use Rattle.broker_core.specs.Headline.{MayBeRecorded, IsRefusal}
use Rattle.broker_core.specs.Machine.{is_step}
use Rattle.broker_core.specs.State.{State as Broker}
use Rattle.broker_core.specs.Text.{Text}
use Rattle.broker_core.specs.declared.answer.Answer.{Answer}
use Rattle.broker_core.specs.declared.answer.Answer.TheVariants.{Done, Already}
use Rattle.broker_core.specs.declared.command.Command.{Command}
use Rattle.broker_core.specs.declared.command.Command.TheVariants.{Deploy}
use Rattle.broker_core.specs.declared.command.Version.{Version}
use Rattle.broker_database.specs.BrokerView.{BrokerView}
use Rattle.broker_database.specs.Stored.{HoldsState}
use Rattle.command_facts.specs.Primitives.{broker_primitives}

-- it was done, or had been done before
abbrev pub is_accepted : Answer → Bool
is_accepted (Done detail) = true
is_accepted (Already detail) = true
is_accepted _ = false

-- memory, the store or a pattern failed, and the machine took no step
abbrev pub HasFailed : Result (Unit {0}) Answer → Type 0
HasFailed (Ok u) = ⊥
HasFailed (Err answer) = is_step answer ≡ false

-- shown is what a connection shows of its store
module _ {X : Type 0} (shown : Held X → State) where
  -- a deployment of v into e, from a state that the database held
  pub record DeploysExactly (s : Broker) (token : Text) (e : Text) (v : Version) (instance : Option Text)
      (result : Result (Unit {0}) Answer) (new : BrokerView X) : Type 0 where
    -- if it may be recorded, it is
    pub recorded : MayBeRecorded broker_primitives s (Some token) e v → (result ≡ Ok tt)
        × ((t : Broker) × HoldsState t (shown new.connection)
        × (t.deployed (e, v.pacticipant, instance_of instance) ≡ Some v.name))
    -- else the refusal is handed on, with all faults in order, and the database holds what it held
    pub refused : ¬ (MayBeRecorded broker_primitives s (Some token) e v) → HoldsState s (shown new.connection)
        × ((answer : Answer) × (result ≡ Err answer) × IsRefusal broker_primitives s (Some token) e v answer)

  -- so it is unless the broker failed
  abbrev pub IsDeployedOrRefused : BrokerView X → Text → Command → Result (Unit {0}) Answer → BrokerView X → Type 0
  IsDeployedOrRefused old token command result new =
      HasCleanDisk (shown new.connection) → old.is_stopped ≡ false → ¬ (HasFailed result)
      → (s : Broker) → HoldsState s (shown old.connection)
      → (e : Text) (v : Version) (instance : Option Text) → command ≡ Deploy e v instance
      → DeploysExactly s token e v instance result new
