-- which pact each stored text is, as in every state that a broker reaches (this project's own choice)
use Rattle.std.specs.Prelude.{◌≡◌, ℕ, Some, Contains}
use Rattle.broker_core.specs.declared.command.Version.{Version}
use Rattle.broker_core.specs.Text.{Text}
use Rattle.broker_core.specs.State.{State, Verification}
use Rattle.broker_core.specs.Change.{text_of}
use Rattle.broker_core.specs.Machine.{Primitives}
use Rattle.broker_core.specs.Machine.Reading.{IsPact}

-- the content with this number is the normal text of a pact of this consumer with this provider, and reads as it
abbrev pub IsContentOf : Primitives → State → ℕ → Text → Text → Type 0
IsContentOf parts s content consumer provider =
    (text : Text) × (text_of s content ≡ Some text) × parts.Reads text (IsPact consumer provider text)

-- no text is there twice; each reads as the pact whose normal text it is; its names are the consumer and the provider
-- of each contract with it, and its provider is that of each result for it
pub record HasSoundContents (parts : Primitives) (s : State) : Type 0 where
  pub apart : (m n : ℕ) (text : Text) → text_of s m ≡ Some text → text_of s n ≡ Some text → m ≡ n
  pub normal : (n : ℕ) (text : Text) → text_of s n ≡ Some text
      → (consumer : Text) × (provider : Text) × parts.Reads text (IsPact consumer provider text)
  pub contracts : (v : Version) (provider : Text) (content : ℕ) → s.contracts (v, provider) ≡ Some content
      → IsContentOf parts s content v.pacticipant provider
  pub results : (r : Verification) → Contains s.results r
      → (consumer : Text) × IsContentOf parts s r.content consumer r.version.pacticipant

-- the normal text of a pact reads as the same pact
abbrev pub ReadsAgain : Primitives → Type 0
ReadsAgain parts =
    (file consumer provider text : Text) → parts.Reads file (IsPact consumer provider text)
    → parts.Reads text (IsPact consumer provider text)
