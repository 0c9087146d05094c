-- what is known of a peer that waits to be served (this project's own choice)
use Rattle.std.specs.Prelude.{ℕ, List}
use Rattle.http_messages.specs.declared.arrival.Arrived.{Arrived}

-- its stream, what was read of that, and what has come of its first message by this
pub record Waited (S : Type 0) : Type 0 where
  pub stream : S
  pub sent : List ℕ
  pub arrived : Arrived

-- what was read of a peer's stream before it was served and isn't taken yet, and the peer, which sends the rest
pub record Lasting (R : Type 0) : Type 0 where
  pub sent : List ℕ
  pub peer : R
