-- For private clauses: JSON values by the tokens of their texts, which the code writes one after another.
use Rattle.std.specs.Prelude.{◌≡◌, List, ◌++◌}
use Rattle.json.specs.Token.{Token}
use Rattle.json.specs.Tree.{json_tokens}
use Rattle.json.specs.Written.{Written}
use Rattle.serde_json.specs.Data.{Data}
use Rattle.serde_json.specs.Written.{outline}

-- the tokens of a value
abbrev pub tokens_of : Data → List Token
tokens_of d = json_tokens (outline d)

-- a writer appended these tokens to those that it had
pub record Adds (tokens : List Token) (old new : Written) : Type 0 where
  pub before : new.before ≡ old.before
  pub more : new.tokens ≡ old.tokens ++ tokens
