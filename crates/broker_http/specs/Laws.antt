-- the laws of streams (this project's own)
use Rattle.std.specs.Prelude.{◌≡◌, ℕ, Bool, true, List, [], ◌∷◌, ◌++◌, length, map, Option}
use Rattle.sqlite.specs.Held.{Held}
use Rattle.sqlite.specs.State.{State}
use Rattle.broker_core.specs.Change.{Transition}
use Rattle.broker_core.specs.Headline.{IsDeployedExactly, IsReleasedExactly}
use Rattle.broker_core.specs.Machine.{Request as Asked, Run}
use Rattle.broker_core.specs.State.{State as Broker}
use Rattle.broker_core.specs.Text.{Text}
use Rattle.broker_core.specs.declared.answer.Answer.{Answer}
use Rattle.broker_core.specs.declared.command.Command.TheVariants.{Deploy, Release}
use Rattle.broker_core.specs.declared.command.Version.{Version}
use Rattle.broker_database.specs.BrokerView.{BrokerView}
use Rattle.broker_database.specs.Calls.{Applied}
use Rattle.command_facts.specs.Primitives.{broker_primitives}
use Rattle.http_messages.specs.Message.{Message}
use Rattle.http_messages.specs.Messages.{BeginsWithMessage}
use Rattle.http_requests.specs.declared.requests.Request.{Request}
use Rattle.http_requests.specs.declared.requests.Request.TheVariants.{Refused, NoRoute, NoMethod, Asks}
use Rattle.http_responses.specs.Responses.{Response}
use Rattle.broker_http.specs.Calls.{ByBroker}
use Rattle.broker_http.specs.Exchange.{Responds}
use Rattle.broker_http.specs.Journal.{Journal, IsRunFrom, state_of}
use Rattle.broker_http.specs.Serving.{Mode}
use Rattle.broker_http.specs.Stream.{Responses, StreamEnds}
use Rattle.broker_http.specs.declared.served.Ended.{Ended}

-- ---- one reading

-- the stream begins with these messages, one after another, and this comes after them
abbrev pub IsCutInto : List ℕ → List Message → List ℕ → Type 0
IsCutInto stream [] rest = rest ≡ stream
IsCutInto stream (m ∷ messages) rest = (after : List ℕ) × BeginsWithMessage stream m after × IsCutInto after messages rest

-- whether the response to a request is the last of its stream
abbrev pub closes_at : Request → Bool
closes_at (Refused refusal is_bodiless) = true
closes_at (NoRoute closes) = closes
closes_at (NoMethod resource closes) = closes
closes_at (Asks token command closes) = closes

-- Two readings of a stream, with so many responses, what they leave of it, and how they end: the messages are the same,
-- each has a response, and so is the rest and the end.
pub record IsOneReading (stream : List ℕ) (responses others : List Response) (rest left : List ℕ) (ended second : Ended)
    : Type 0 where
  pub messages : List Message
  pub cut : IsCutInto stream messages rest
  pub each : length responses ≡ length messages
  pub as_many : length others ≡ length messages
  pub same_rest : left ≡ rest
  pub same_end : second ≡ ended

-- shown is what a connection shows of its store
module _ {X : Type 0} (shown : Held X → State) where
  -- whether a response closes its stream follows from what its message asks, for all answers of a broker
  abbrev pub ClosesByRequest : Type 0
  ClosesByRequest = (s t : BrokerView X) (asked : Request) (response : Response)
      → Responds (Applied shown) s asked response t → response.closes ≡ closes_at asked

-- two brokers, over these stores, or one at two times: for all their answers, they read one stream in one way
module _ {X Y : Type 0} (shown : Held X → State) (other : Held Y → State) where
  abbrev pub OneReading : Type 0
  OneReading =
      (s t : BrokerView X) (u v : BrokerView Y) (stream : List ℕ) (responses others : List Response)
      (rest left : List ℕ) (ended second : Ended)
      → Responses (ByBroker shown) s stream responses t rest → StreamEnds ended responses rest
      → Responses (ByBroker other) u stream others v left → StreamEnds second others left
      → IsOneReading stream responses others rest left ended second

-- ---- the sentence

-- the machine answers these requests so, from one state to another
abbrev pub RunsSteps : Broker → List (Asked × Answer) → Broker → Type 0
RunsSteps s steps last = Run broker_primitives s (map (λ x. x.0) steps) (map (λ x. x.1) steps) last

-- A request of a stream, with the steps before and after it: IsExactly says, by the state in which it comes, what it is
-- answered and what it leaves.
pub record IsServedExactly (IsExactly : Broker → Transition → Type 0) (first : Broker)
    (before : List (Asked × Answer)) (answer : Answer) (after : List (Asked × Answer)) (last : Broker) : Type 0 where
  -- the steps before it lead to the state in which it comes
  pub found : Broker
  pub reached : RunsSteps first before found
  -- with its own answer it leaves this state
  pub left : Broker
  pub exactly : IsExactly found (record { answer = answer; state = left })
  -- from which the steps after it lead to the last
  pub goes_on : RunsSteps left after last

-- In each stream that a broker served, by steps that are a run as its promise says (`machine`): what was answered to
-- this request by a step.
abbrev pub EachServed : Asked → (Broker → Transition → Type 0) → Type 0
EachServed r IsExactly =
    (mode : Mode) (journal : Journal) (before after : List (Asked × Answer)) (answer : Answer)
    → IsRunFrom mode journal → journal.steps ≡ before ++ (r, answer) ∷ after
    → IsServedExactly IsExactly (state_of mode) before answer after (state_of journal.mode)

-- each deployment is recorded exactly when it may be in the state in which it comes
abbrev pub StreamsDeployExactly : Type 0
StreamsDeployExactly = (token : Option Text) (e : Text) (v : Version) (instance : Option Text)
    → EachServed (record { token = token; command = Deploy e v instance })
    (λ s. IsDeployedExactly broker_primitives s token e v instance)

-- and each release
abbrev pub StreamsReleaseExactly : Type 0
StreamsReleaseExactly = (token : Option Text) (e : Text) (v : Version)
    → EachServed (record { token = token; command = Release e v })
    (λ s. IsReleasedExactly broker_primitives s token e v)
