use Rattle.std.proofs.Common.{◌≡◌, drop}
use Rattle.pact_rules.proofs.NameLemmas.{lower_cmp}
use Rattle.pact_rules.proofs.table.lower_order.Given as goal

-- what is left compares as the whole
abbrev pub invariant-loop-index : goal.invariant-loop-index
invariant-loop-index l = lower_cmp l.left l.right ≡ lower_cmp (drop l.index l.left) (drop l.index l.right)
