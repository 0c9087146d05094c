-- How a message is answered by what runs commands.
use Rattle.std.specs.Prelude.{◌≡◌, ℕ, List, Option}
use Rattle.broker_core.specs.declared.answer.Answer.{Answer}
use Rattle.broker_core.specs.declared.command.Command.{Command}
use Rattle.http_messages.specs.Message.{Message}
use Rattle.http_requests.specs.Requests.{IsRequest}
use Rattle.http_requests.specs.declared.requests.Request.{Request}
use Rattle.http_requests.specs.declared.requests.Request.TheVariants.{Refused, NoRoute, NoMethod, Asks}
use Rattle.http_responses.specs.Responses.{Response, refusal_response, no_route_response, no_method_response, answer_response}

-- Applies says how a command with a token is answered, and what state it leaves.
module _ {S : Type 0} (Applies : S → Option (List ℕ) → Command → Answer → S → Type 0) where
  -- the response to what is asked; a refusal by HTTP changes nothing
  abbrev pub Responds : S → Request → Response → S → Type 0
  Responds s (Refused refusal is_bodiless) response t =
      (response ≡ refusal_response refusal is_bodiless) × (t ≡ s)
  Responds s (NoRoute closes) response t = (response ≡ no_route_response closes) × (t ≡ s)
  Responds s (NoMethod resource closes) response t = (response ≡ no_method_response resource closes) × (t ≡ s)
  Responds s (Asks token command closes) response t =
      (answer : Answer) × Applies s token command answer t × (response ≡ answer_response answer closes)

  -- the response to a message
  abbrev pub Exchange : S → Message → Response → S → Type 0
  Exchange s m response t = (asked : Request) × IsRequest m asked × Responds s asked response t
