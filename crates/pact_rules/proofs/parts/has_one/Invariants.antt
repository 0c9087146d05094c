use Rattle.std.{specs.List.{list_any}, proofs.Common.{◌≡◌, string_bytes, drop}}
use Rattle.pact_rules.specs.Matching.{contains}
use Rattle.pact_rules.proofs.parts.has_one.Given as goal

-- the text contains one of the parts if and only if the rest of the text contains one
abbrev pub invariant-loop-at : goal.invariant-loop-at
invariant-loop-at l = list_any (λ s. contains (string_bytes s) l.text) l.parts ≡ list_any (λ s. contains (string_bytes s) (drop l.at l.text)) l.parts
