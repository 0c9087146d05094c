-- When a reply's body meets the one that is expected (this project's own choice).
use Rattle.std.specs.Prelude.{◌≡◌, ◌==◌, Bool, true, false, IsTrue, length, [], Option, Some, None, ⊤}
use Rattle.serde_json.specs.Data.{Data, null, string}
use Rattle.pact_rules.specs.Rules.{Rules}
use Rattle.reply_check.specs.Fitting.{Fits}

-- null, or the empty text
abbrev pub is_empty : Data → Bool
is_empty null = true
is_empty (string s) = length s == 0
is_empty d = false

-- If none is expected, any body meets it. An empty one is met by none or by the same, under any rules; any other one
-- must be there and fit at the root.
abbrev pub MeetsBody : Rules → Option Data → Option Data → Type 0
MeetsBody rules None actual = ⊤
MeetsBody rules (Some x) None = IsTrue (is_empty x)
MeetsBody rules (Some x) (Some y) = (is_empty x ≡ true → y ≡ x) × (is_empty x ≡ false → Fits rules [] x y)
