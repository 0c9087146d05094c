use Rattle.std.proofs.Common.{ℕ, ◌<◌, ◌+◌, String, Global, get_or}
use Rattle.pact_rules.specs.Gathered.{IsApart}
use Rattle.pact_rules.proofs.parts.are_apart.Given as goal

-- so it is of those before the index
abbrev pub invariant-loop-index : goal.invariant-loop-index
invariant-loop-index l = (k : ℕ) (d : String Global) → k + 1 < l.index → IsApart (get_or l.texts k d) (get_or l.texts (k + 1) d)
