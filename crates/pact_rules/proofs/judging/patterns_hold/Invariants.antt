use Rattle.std.proofs.Common.{◌≡◌, string_bytes, drop}
use Rattle.pact_rules.specs.{Gathered.{judged}, Matching.{pattern_of, is_found}}
use Rattle.pact_rules.proofs.judging.patterns_hold.Given as goal

-- the patterns hold if and only if the ones that are left hold
abbrev pub invariant-loop-pattern : goal.invariant-loop-pattern
invariant-loop-pattern l =
    judged l.any (λ s. is_found (pattern_of (string_bytes s)) l.text) l.patterns.items ≡ judged l.any (λ s. is_found (pattern_of (string_bytes s)) l.text) (drop l.pattern-index l.pattern-items)
