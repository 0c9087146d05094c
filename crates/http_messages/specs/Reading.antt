-- What reading a message leaves of the bytes, and what it finds.
use Rattle.std.specs.Prelude.{◌≡◌, ℕ, ◌+◌, ◌<◌, ◌≤◌, max, List, ◌++◌, length, take, drop, Option}
use Rattle.std.specs.Io.KnownBytes.{Consumes, IsAtEnd}
use Rattle.http_messages.specs.Messages.{AnnouncesBody, BeginsWithMessage, HasNoMessage, message_of}
use Rattle.http_messages.specs.Views.{IsHeadRead}
use Rattle.http_messages.specs.Limits.{head_limit, body_limit}
use Rattle.http_messages.specs.declared.reading.ReadFault.{ReadFault}
use Rattle.http_messages.specs.declared.reading.ReadFault.TheVariants.{Reader, Memory}
use Rattle.http_messages.specs.declared.reading.ReadOutcome.{ReadOutcome}
use Rattle.http_messages.specs.declared.reading.ReadOutcome.TheVariants as outcomes

-- the buffer grew by what the reader gave
abbrev pub Gains : (before after : Option (List ℕ)) (old new : List ℕ) → Type 0
Gains before after old new = (more : List ℕ) × Consumes before after more × (new ≡ old ++ more)

-- What a fault leaves: if the reader failed, the buffer grew by all that it gave; if memory ran out,
-- the last bytes that it gave are lost.
abbrev pub LeavesAtFault : (before after : Option (List ℕ)) (old new : List ℕ) → ReadFault → Type 0
LeavesAtFault before after old new (Reader failed) = Gains before after old new
LeavesAtFault before after old new Memory =
    (more : List ℕ) × (lost : List ℕ)
    × Consumes before after (more ++ lost) × (0 < length lost) × (new ≡ old ++ more)

-- the reader has failed, if this fault says so
abbrev pub ReportsFailure : ReadFault → Type 0 → Type 0
ReportsFailure (Reader failed) HasFailed = HasFailed
ReportsFailure Memory HasFailed = Unit {0}

-- the buffer begins with that message, whose head says this, or with none
abbrev pub IsOutcome : List ℕ → ReadOutcome → Type 0
IsOutcome bytes (outcomes.Message head_len body_len head) =
    (head_len + body_len ≤ length bytes)
    × IsHeadRead (take head_len bytes) head
    × BeginsWithMessage bytes (message_of bytes head_len body_len) (drop (head_len + body_len) bytes)
IsOutcome bytes outcomes.End = HasNoMessage bytes

-- how many bytes are wanted at most: a head's limit until there is one, and then the message
abbrev pub size_limit : ReadOutcome → ℕ
size_limit (outcomes.Message head_len body_len head) = max head_limit (head_len + body_len)
size_limit outcomes.End = head_limit + body_limit

-- The reader had before to give and has after; the buffer had the bytes old and has new.
module _ (before after : Option (List ℕ)) (old new : List ℕ) where
  -- what reading a message promises if it comes to an outcome
  pub record ReadsMessage (read : ReadOutcome) : Type 0 where
    -- what the reader gave is after what was in the buffer
    pub gains : Gains before after old new
    -- the buffer begins with the message, whose head says what is returned of it; or it begins with no message
    pub outcome : IsOutcome new read
    -- it finds no message only if the reader is at its end
    pub end : read ≡ outcomes.End → IsAtEnd after
    -- it reads no more than the limit of a head, or than the message
    pub wanted : length new ≤ max (length old) (size_limit read)

  -- what it promises if it fails
  pub record FailsToReadMessage (fault : ReadFault) : Type 0 where
    -- bytes are lost only if memory ran out, and some are lost then
    pub leaves : LeavesAtFault before after old new fault
    -- it fails only while no message is whole
    pub none : HasNoMessage new
    -- memory runs out only after a head, for a body that it announces
    pub body : fault ≡ Memory → AnnouncesBody new
