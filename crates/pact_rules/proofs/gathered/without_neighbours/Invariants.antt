use Rattle.std.proofs.Common.{◌≡◌, ℕ, Bool, List, string_bytes, drop}
use Rattle.pact_rules.specs.Gathered.{joined, judged}
use Rattle.pact_rules.proofs.gathered.without_neighbours.Given as goal

-- what was kept, with what is left, says the whole
abbrev pub invariant-loop-text : goal.invariant-loop-text
invariant-loop-text l = (any : Bool) (test : List ℕ → Bool)
    → joined any (judged any (λ s. test (string_bytes s)) l.kept.items) (judged any (λ s. test (string_bytes s)) (drop l.text-index l.text-items))
    ≡ judged any (λ s. test (string_bytes s)) l.texts.items
