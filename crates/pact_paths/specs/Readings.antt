-- What a text reads as: a path, or the first fault from left to right.
-- That reading takes the most that can be spelled, and the three faults, are this project's own choice.
use Rattle.std.specs.Prelude.{◌≡◌, ◌≢◌, ◌↔◌, ◌≤◌, ◌<◌, ◌+◌, ℕ, List, [], ◌++◌, length, codes, Option, Some, Result, Ok, Err}
use Rattle.pact_paths.specs.Paths.{Token}
use Rattle.pact_paths.specs.Spelling.{AreSpelled, IsPathText}
use Rattle.pact_paths.specs.declared.path_reader.PathFault.{PathFault}
use Rattle.pact_paths.specs.declared.path_reader.PathFault.TheVariants.{NoRoot, BadToken, TooManyTokens, Memory}

-- the text begins with spellings of the tokens, of which there are at most so many
pub record IsFront (limit : ℕ) (text front rest : List ℕ) (tokens : List Token) : Type 0 where
  pub split : text ≡ front ++ rest
  pub spelled : AreSpelled front tokens
  pub few : length tokens ≤ limit

-- and no longer front of it is spelled
pub record IsLongestFront (limit : ℕ) (text front rest : List ℕ) (tokens : List Token) : Type 0 where
  pub is_front : IsFront limit text front rest tokens
  pub longest : (other following : List ℕ) (others : List Token) → IsFront limit text other following others
      → length other ≤ length front

-- after the root the longest front of at most 60 tokens ends at an offset of the text, with some of it left
pub record StopsAt (text : List ℕ) (tokens : List Token) (offset : ℕ) : Type 0 where
  pub body : List ℕ
  pub front : List ℕ
  pub rest : List ℕ
  pub is_after_root : text ≡ codes "$" ++ body
  pub is_longest : IsLongestFront 60 body front rest tokens
  pub is_left : rest ≢ []
  pub is_offset : offset ≡ 1 + length front

-- A path's text reads as that path. A text without a root is NoRoot. Otherwise reading stops with text left:
-- after 60 tokens that is TooManyTokens, and before that no token begins at the offset where it stops.
abbrev pub IsReading : List ℕ → Result (List Token) PathFault → Type 0
IsReading text (Ok tokens) = IsPathText text tokens
IsReading text (Err NoRoot) = (body : List ℕ) → text ≢ codes "$" ++ body
IsReading text (Err (BadToken offset)) = (tokens : List Token) × (length tokens < 60) × StopsAt text tokens offset
IsReading text (Err TooManyTokens) =
    (tokens : List Token) × (offset : ℕ) × (length tokens ≡ 60) × StopsAt text tokens offset
IsReading text (Err Memory) = ⊥

-- the one reading of the text
abbrev pub IsTheReading : List ℕ → Result (List Token) PathFault → Type 0
IsTheReading text r = IsReading text r × ((s : Result (List Token) PathFault) → IsReading text s → s ≡ r)

-- each text's path, and none of a text that is no path
abbrev pub ReadsPaths : (List ℕ → Option (List Token)) → Type 0
ReadsPaths paths = (text : List ℕ) (tokens : List Token) → (paths text ≡ Some tokens) ↔ IsPathText text tokens
