use Rattle.std.{specs.List.{flat_map}, proofs.Common.{◌≡◌, ◌++◌, map, drop, string_bytes}}
use Rattle.pact_paths.specs.{TokenView.{token_view}, Spelling.{path_text, token_text}}
use Rattle.pact_paths.proofs.path_writer.text_of.Given as goal

abbrev pub invariant-loop-token : goal.invariant-loop-token
invariant-loop-token l =
    string_bytes l.text ++ flat_map token_text (map token_view (drop l.token-index l.tokens)) ≡ path_text (map token_view l.tokens)
