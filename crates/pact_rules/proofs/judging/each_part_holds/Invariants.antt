use Rattle.std.proofs.Common.{◌≡◌, string_bytes, drop}
use Rattle.pact_rules.specs.{Gathered.{judged}, Matching.{contains}}
use Rattle.pact_rules.proofs.judging.each_part_holds.Given as goal

-- the parts hold if and only if the ones that are left hold
abbrev pub invariant-loop-part : goal.invariant-loop-part
invariant-loop-part l =
    judged l.any (λ s. contains (string_bytes s) l.text) l.parts.items ≡ judged l.any (λ s. contains (string_bytes s) l.text) (drop l.part-index l.part-items)
