-- the commands that a broker runs for a peer, in order, each with its end (this project's own choice)
use Rattle.std.specs.Prelude.{ℕ, List, [], ◌∷◌, ◌++◌, Option, Ok, Err, Result}
use Rattle.sqlite.specs.Held.{Held}
use Rattle.sqlite.specs.State.{State}
use Rattle.broker_core.specs.Laws.{Exit}
use Rattle.broker_core.specs.Machine.{Request as Asked}
use Rattle.broker_database.specs.BrokerView.{BrokerView}
use Rattle.broker_database.specs.Calls.{Applied}
use Rattle.broker_database.specs.Sessions.{exit_of}
use Rattle.http_requests.specs.declared.requests.Request.{Request}
use Rattle.http_requests.specs.declared.requests.Request.TheVariants.{Refused, NoRoute, NoMethod, Asks}
use Rattle.http_responses.specs.Responses.{Response}
use Rattle.broker_http.specs.Calls.{ByBroker, IsServed}
use Rattle.broker_http.specs.Exchange.{Responds}
use Rattle.broker_http.specs.Stream.{Responses}
use Rattle.broker_http.specs.declared.served.StreamFault.{StreamFault}
use Rattle.broker_http.specs.declared.served.Served.{Served}

-- shown is what a connection shows of its store
module _ {X : Type 0} (shown : Held X → State) where
  -- the one that is asked for, if one is
  abbrev pub calls_of_request : (s t : BrokerView X) (asked : Request) (response : Response) → Responds (Applied shown) s asked response t → List (Asked × Exit)
  calls_of_request s t (Refused refusal is_bodiless) response it = []
  calls_of_request s t (NoRoute closes) response it = []
  calls_of_request s t (NoMethod resource closes) response it = []
  calls_of_request s t (Asks token command closes) response it =
      (record { token = token; command = command }, exit_of it.0) ∷ []

  -- those of the messages that are answered
  abbrev pub calls_of_stream : (s t : BrokerView X) (stream rest : List ℕ) (responses : List Response) → Responses (ByBroker shown) s stream responses t rest → List (Asked × Exit)
  calls_of_stream s t stream rest [] it = []
  calls_of_stream s t stream rest (response ∷ responses) it =
      calls_of_request s it.1 it.4.0 response it.4.2 ++ calls_of_stream it.1 t it.2 rest responses it.5

  -- those of a peer
  abbrev pub calls_of_served : (s t : BrokerView X) (before after old new : Option (List ℕ)) (result : Result Served StreamFault) → IsServed shown s t before after old new result → List (Asked × Exit)
  calls_of_served s t before after old new (Ok served) it =
      let all = it.answers.ok in calls_of_stream s t all.0 all.2 all.1 all.4
  calls_of_served s t before after old new (Err fault) it =
      let all = it.answers.fault in calls_of_stream s t all.0 all.2 all.1 all.5
