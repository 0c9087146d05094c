-- The replies of a file, or its first fault (this project's own choice): no JSON, no tree, no object, no list, then
-- reply by reply its parts, and last two replies for one interaction.
use Rattle.std.specs.Prelude.{◌≡◌, ◌⊎◌, ℕ, List, [], ◌∷◌, Result, Ok, Err}
use Rattle.serde_json.specs.Data.{Data}
use Rattle.pact_file.specs.Headers.{HeadersRead}
use Rattle.pact_rules.specs.Lists.{OneOf}
use Rattle.pact_rules.specs.Reading.{just, ◌>>=◌, EachRead}
use Rattle.reply_check.specs.Recorded.{Reply as Recorded}
use Rattle.reply_check.specs.ReplyParts.{file_of, items_of, at, parts_at}
use Rattle.reply_check.specs.declared.fault.RepliesFault.{RepliesFault}
use Rattle.reply_check.specs.declared.fault.RepliesFault.TheVariants.{SameReplyTwice}
use Rattle.pact_file.specs.declared.fault.Part.TheVariants.{Headers}

-- a reply, in the order of its tests
unfoldable pub ReplyRead : ℕ → Data → Result Recorded RepliesFault → Type 0
ReplyRead i d = do
  reply ← just (parts_at i d)
  headers ← HeadersRead (at i Headers) reply.response
  just (Ok reply)

-- two replies for one interaction: of one description and one list of states
abbrev pub AreRivals : Recorded → Recorded → Type 0
AreRivals r s = (r.description ≡ s.description) × (r.states ≡ s.states)

-- one of them has a rival after it
abbrev pub HasRivals : List Recorded → Type 0
HasRivals [] = ⊥
HasRivals (r ∷ rs) = OneOf (λ s. AreRivals r s) rs ⊎ HasRivals rs

-- at most one for an interaction
abbrev pub Apart : List Recorded → Result (List Recorded) RepliesFault → Type 0
Apart found (Ok replies) = (¬ HasRivals found) × (replies ≡ found)
Apart found (Err fault) = HasRivals found × (fault ≡ SameReplyTwice)

-- of a file that was read as JSON
abbrev pub FileRead : Data → Result (List Recorded) RepliesFault → Type 0
FileRead file = do
  items ← just (items_of file)
  found ← EachRead ReplyRead 0 items
  Apart found

unfoldable pub RepliesRead : List ℕ → Result (List Recorded) RepliesFault → Type 0
RepliesRead bytes = do
  file ← just (file_of bytes)
  FileRead file
