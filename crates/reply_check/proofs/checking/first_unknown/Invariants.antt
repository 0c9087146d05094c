use Rattle.std.proofs.Common.{◌≡◌, ℕ, ◌<◌, Some, slice_get}
use Rattle.reply_check.specs.{Recorded.{Reply}, Verdicts.{IsKnown}}
use Rattle.reply_check.proofs.checking.first_unknown.Given as goal

-- each reply before the index is known
abbrev pub invariant-loop-index : goal.invariant-loop-index
invariant-loop-index l = (j : ℕ) (r : Reply) → j < l.index → slice_get l.replies j ≡ Some r → IsKnown l.interactions r
