-- The value of a `Token` in the logic.
use Rattle.std.specs.Prelude.{string_bytes}
use Rattle.pact_paths.specs.Paths as path
use Rattle.pact_paths.specs.declared.path.Token.{Token}
use Rattle.pact_paths.specs.declared.path.Token.TheVariants.{Name, Index, Any}
use Rattle.pact_paths.specs.declared.path_reader.Seen.{Seen}
use Rattle.pact_paths.specs.declared.path_reader.Seen.TheVariants as seen

abbrev pub token_view : Token → path.Token
token_view (Name n) = path.named (string_bytes n)
token_view (Index i) = path.indexed i
token_view Any = path.any

abbrev pub seen_view : Seen → path.Token
seen_view (seen.Name n) = path.named n.now
seen_view (seen.Index i) = path.indexed i
seen_view seen.Any = path.any
