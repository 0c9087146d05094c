-- What is in a buffer.
use Rattle.std.specs.Prelude.{ℕ, List}

-- the bytes of a stream that were read and aren't taken yet
pub record Unread : Type 0 where
  pub items : List ℕ
