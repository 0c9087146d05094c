-- the law of requests (this project's own)
use Rattle.std.specs.Prelude.{◌≡◌}
use Rattle.http_messages.specs.Message.{Message}
use Rattle.http_requests.specs.Requests.{IsRequest}
use Rattle.http_requests.specs.declared.requests.Request.{Request}

-- what a message asks is one
abbrev pub AsksOne : Type 0
AsksOne = (m : Message) (a b : Request) → IsRequest m a → IsRequest m b → a ≡ b
