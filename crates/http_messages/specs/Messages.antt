-- The messages of a stream.
use Rattle.std.specs.Prelude.{◌≡◌, ℕ, ◌<◌, ◌≤◌, List, ◌++◌, length, take, drop, MatchOption, Option, None, Some}
use Rattle.http_messages.specs.Message.{Message, message}
use Rattle.http_messages.specs.Lines.{head_text}
use Rattle.http_messages.specs.Heads.{IsBodyLength}
use Rattle.http_messages.specs.Limits.{head_limit}

-- the head text that ends within the limit, or a whole limit of bytes in which none ends
abbrev pub IsHeadOf : List ℕ → List ℕ → Type 0
IsHeadOf stream head =
    MatchOption (head_text (take head_limit stream))
    ((head ≡ take head_limit stream) × (head_limit ≤ length stream))
    (λ text. head ≡ text)

-- no head is whole yet
abbrev pub HasNoHead : List ℕ → Type 0
HasNoHead stream = (head : List ℕ) → ¬ (IsHeadOf stream head)

-- the head of so many bytes is at the front, or none is whole yet
abbrev pub IsHeadFound : List ℕ → Option ℕ → Type 0
IsHeadFound bytes None = HasNoHead bytes
IsHeadFound bytes (Some n) = (n ≤ length bytes) × (n ≤ head_limit) × IsHeadOf bytes (take n bytes)

-- the stream begins with this message, and goes on with after
pub record BeginsWithMessage (stream : List ℕ) (m : Message) (after : List ℕ) : Type 0 where
  pub whole : stream ≡ m.head ++ (m.body ++ after)
  pub head : IsHeadOf stream m.head
  pub body : IsBodyLength m.head (length m.body)

-- a whole message is there
abbrev pub HasMessage : List ℕ → Type 0
HasMessage stream = (m : Message) × (after : List ℕ) × BeginsWithMessage stream m after

-- no message is whole yet
abbrev pub HasNoMessage : List ℕ → Type 0
HasNoMessage stream = (m : Message) (after : List ℕ) → ¬ (BeginsWithMessage stream m after)

-- the stream begins with a head that announces a body
abbrev pub AnnouncesBody : List ℕ → Type 0
AnnouncesBody stream = (head : List ℕ) × (n : ℕ) × IsHeadOf stream head × IsBodyLength head n × (0 < n)

-- the message of so many bytes of head and body
abbrev pub message_of : List ℕ → ℕ → ℕ → Message
message_of bytes head_len body_len = message (take head_len bytes) (take body_len (drop head_len bytes))
