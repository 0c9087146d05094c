-- What the caller that only asks promises (this project's own).
use Rattle.std.specs.Prelude.{◌≡◌, ◌⊎◌, Bool, true, false, IsTrue, Option, Some, None}
use Rattle.sqlite.specs.Held.{Held}
use Rattle.sqlite.specs.State.{State, HasCleanDisk}
use Rattle.table_access.specs.Calls.{HasFailed}
use Rattle.table_access.specs.declared.StoreFault.TheVariants as faults
use Rattle.broker_core.specs.Change.{unchanged_with}
use Rattle.broker_core.specs.Machine.{Step}
use Rattle.broker_core.specs.State.{State as Broker}
use Rattle.broker_core.specs.Text.{Text}
use Rattle.broker_core.specs.declared.answer.Answer.{Answer}
use Rattle.broker_core.specs.declared.answer.Answer.TheVariants.{Memory}
use Rattle.broker_core.specs.declared.command.Command.{Command}
use Rattle.broker_core.specs.declared.command.Command.TheVariants.{GetPact, GetBranchPact, GetEnvironment, CanIDeploy, GetMatrix}
use Rattle.broker_database.specs.BrokerView.{BrokerView}
use Rattle.broker_database.specs.Causes.{HoldsReadable}
use Rattle.broker_database.specs.Stored.{HoldsState}
use Rattle.command_facts.specs.Primitives.{broker_primitives}

-- it asks, and changes nothing
abbrev pub is_question : Command → Bool
is_question (GetPact path) = true
is_question (GetBranchPact provider consumer branch) = true
is_question (GetEnvironment e) = true
is_question (CanIDeploy v e) = true
is_question (GetMatrix v) = true
is_question _ = false

-- shown is what a connection shows of its store
module _ {X : Type 0} (shown : Held X → State) where
  -- a question that a broker was asked whose database held this state
  pub record IsOnlyAsked (s : Broker) (token : Text) (question : Command) (answer : Answer) (new : BrokerView X)
      : Type 0 where
    -- the machine's answer, or that memory ran out
    pub answered : Step broker_primitives s (Some token) question (unchanged_with s answer) ⊎ (answer ≡ Memory)
    -- the database holds the state
    pub holds : HoldsState s (shown new.connection)
    -- and the broker takes the next command
    pub runs : new.is_stopped ≡ false

  -- So it is on a clean disk, if the broker ran, its database held a state that can be read back, and the store didn't
  -- fail. Another command isn't run.
  abbrev pub IsAsked : BrokerView X → Text → Command → Option Answer → BrokerView X → Type 0
  IsAsked old token command None new = (is_question command ≡ false) × (new ≡ old)
  IsAsked old token command (Some answer) new =
      IsTrue (is_question command)
      × (HasCleanDisk (shown new.connection) → old.is_stopped ≡ false
      → ¬ (HasFailed (shown old.connection) (shown new.connection) faults.Store)
      → (s : Broker) → HoldsReadable s (shown old.connection) → IsOnlyAsked s token command answer new)
