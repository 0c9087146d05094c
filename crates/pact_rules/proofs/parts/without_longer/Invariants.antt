use Rattle.std.{specs.List.{list_any}, proofs.Common.{◌≡◌, ◌||◌, ℕ, List, string_bytes, drop}}
use Rattle.pact_rules.specs.Matching.{contains}
use Rattle.pact_rules.proofs.parts.without_longer.Given as goal

-- what was kept, with what is left, says the whole
abbrev pub invariant-loop-text : goal.invariant-loop-text
invariant-loop-text l = (t : List ℕ)
    → (list_any (λ s. contains (string_bytes s) t) l.kept.items || list_any (λ s. contains (string_bytes s) t) (drop l.text-index l.texts))
    ≡ list_any (λ s. contains (string_bytes s) t) l.texts
