-- What the caller that serves bytes promises (this project's own).
use Rattle.std.specs.Prelude.{◌≢◌, ℕ, List, [], Some}
use Rattle.std.specs.Io.KnownBytes.{IsAtEnd}
use Rattle.sqlite.specs.Held.{Held}
use Rattle.sqlite.specs.State.{State, HasCleanDisk}
use Rattle.broker_core.specs.State.{State as Broker}
use Rattle.broker_database.specs.BrokerView.{BrokerView}
use Rattle.broker_http.specs.Calls.{ByMachine}
use Rattle.broker_http.specs.Journal.{Journal, IsRunFrom, blank}
use Rattle.broker_http.specs.Serving.{IsInMode, Serves}
use Rattle.broker_http.specs.Serving.Mode.{Running}
use Rattle.broker_http.specs.declared.served.Ended.TheVariants.{Closed}
use Rattle.broker_http.specs.declared.served.Served.{Served}

-- shown is what a connection shows of its store
module _ {X : Type 0} (shown : Held X → State) where
  -- The machine, from this state on, answers the messages at the front of these bytes, and what it answers is all that
  -- goes out.
  pub record MachineAnswers (s : Broker) (requests out : List ℕ) (new : BrokerView X) : Type 0 where
    -- its steps, in order, are a run to the last state, which the database holds
    pub last : Journal
    pub run : IsRunFrom (Running s) last
    pub holds : IsInMode shown last.mode new
    -- these bytes are left
    pub served : Served
    pub left : List ℕ
    pub answers : Serves ByMachine (blank (Running s)) last (Some requests) (Some left) (Some []) (Some out) served
    -- none, unless an answer closed the stream
    pub end : served.ended ≢ Closed → IsAtEnd (Some left)

  -- so it is on a clean disk, if the broker ran and its database held a state
  abbrev pub IsAnswered : BrokerView X → List ℕ → List ℕ → BrokerView X → Type 0
  IsAnswered old requests out new =
      HasCleanDisk (shown new.connection) → (s : Broker) → IsInMode shown (Running s) old
      → MachineAnswers s requests out new
