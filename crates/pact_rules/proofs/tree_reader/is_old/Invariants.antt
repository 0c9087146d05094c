use Rattle.std.proofs.Common.{◌≡◌}
use Rattle.pact_rules.specs.RuleReading.{has_old_key}
use Rattle.pact_trees.specs.Trees.{members_data}
use Rattle.pact_rules.proofs.tree_reader.is_old.Given as goal

-- there is one exactly if there is one among those that are left
abbrev pub invariant-loop-key : goal.invariant-loop-key
invariant-loop-key l = has_old_key (members_data l.members.entries) ≡ has_old_key (members_data l.key-iterator)
