use Rattle.std.{specs.List.{fold}, proofs.Common.{◌≡◌, drop}}
use Rattle.pact_patterns.specs.Weights.{weighed, at_first}
use Rattle.pact_patterns.proofs.weights.weighed_whole.Given as goal

-- the bytes that are left make the whole of it
abbrev pub invariant-loop-byte : goal.invariant-loop-byte
invariant-loop-byte l = fold weighed at_first l.source ≡ fold weighed l.weighing (drop l.byte-index l.source)
