-- The pattern of a text, whether it is found in another text, and why the crate `regex` reads or builds none.
use Rattle.std.specs.Prelude.{◌≢◌, ℕ, Bool, false, List, Option, Some, None, is_some, option_map, chars}
use Rattle.regex.specs.Failures.{IsPattern}
use Rattle.regex.specs.Patterns.{Re, find_str, default_config, Refuses}
use Rattle.regex.specs.declared.error.Error.{Error}
use Rattle.regex.specs.declared.error.Error.TheVariants.{Syntax, CompiledTooBig, Internal, OutOfMemory}
use Rattle.regex_syntax.specs.Grammar.{read}
use Rattle.regex_syntax.specs.declared.error.ErrorKind.TheVariants as kind

-- the pattern that the grammar reads in a text
abbrev pub pattern_of : List ℕ → Option Re
pattern_of source = option_map (λ found. found.0.value) (read default_config (chars source))

-- the grammar of patterns reads the text
abbrev pub is_pattern : List ℕ → Bool
is_pattern source = is_some (pattern_of source)

-- the pattern matches somewhere in the text
abbrev pub is_found : Option Re → List ℕ → Bool
is_found None t = false
is_found (Some re) t = is_some (find_str re t 0)

-- An error that the crate may answer for a text: memory ran out, the grammar of patterns doesn't read the text or it
-- nests too deep, or it is a pattern and what is built of it is too big.
abbrev pub IsCause : List ℕ → Error → Type 0
IsCause source OutOfMemory = Unit {0}
IsCause source (Syntax e) = (e.kind ≢ kind.OutOfMemory) × Refuses default_config source e.kind
IsCause source CompiledTooBig = IsPattern default_config source
IsCause source Internal = ⊥
