-- What is served to a writer that had taken nothing.
use Rattle.std.proofs.Common.{◌≡◌, ℕ, List, [], Some, Ok, subst}
use Rattle.sqlite.specs.{Held.{Held}, State.{State}}
use Rattle.broker_core.specs.State.{State as Broker}
use Rattle.broker_database.specs.BrokerView.{BrokerView}
use Rattle.broker_http.specs.{Calls.{ByMachine, IsAnsweredByMachine}, Journal.{blank}, Serving.{Serves}, Serving.Mode.{Running}}
use Rattle.broker_http.specs.declared.served.Served.{Served}
use Rattle.worked_examples.specs.Streams.{MachineAnswers}

-- so all that it has taken afterwards are the answers
pub MachineAnswers-of_stream : {X : Type 0} (shown : Held X → State) (s : Broker) (requests left begun out : List ℕ) (old new : BrokerView X) (served : Served) → begun ≡ []
    → IsAnsweredByMachine shown old new (Some requests) (Some left) (Some begun) (Some out) (Running s) (Ok served) → MachineAnswers shown s requests out new
MachineAnswers-of_stream shown s requests left begun out old new served empty it = record {
  last = it.last;
  run = it.run;
  holds = it.holds;
  served = served;
  left = left;
  answers = subst (λ (b : List ℕ). Serves ByMachine (blank (Running s)) it.last (Some requests) (Some left) (Some b) (Some out) served) empty it.serves.ok;
  end = it.serves.end;
}
