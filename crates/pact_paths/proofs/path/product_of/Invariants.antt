use Rattle.std.proofs.Common.{◌≡◌, ◌≤◌, ◌*◌, ◌^◌, drop}
use Rattle.pact_paths.proofs.WeightLemmas.{of_parts}
use Rattle.pact_paths.proofs.path.product_of.Given as goal

-- so far, and what is left
abbrev pub invariant-loop-index : goal.invariant-loop-index
invariant-loop-index l = record {
  value : l.product * of_parts (drop l.index l.tokens) (drop l.index l.location) ≡ of_parts l.tokens l.location;
  bound : l.product ≤ 2 ^ l.index;
}
