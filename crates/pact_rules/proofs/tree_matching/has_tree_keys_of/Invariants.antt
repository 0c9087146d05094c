use Rattle.std.proofs.Common.{◌≡◌}
use Rattle.pact_rules.specs.Matching.{has_keys_of}
use Rattle.pact_trees.specs.Trees.{members_data}
use Rattle.pact_rules.proofs.tree_matching.has_tree_keys_of.Given as goal

-- all keys are there exactly if those that are left are
abbrev pub invariant-loop-key : goal.invariant-loop-key
invariant-loop-key l =
    has_keys_of (members_data l.a.entries) (members_data l.b.entries) ≡ has_keys_of (members_data l.key-iterator) (members_data l.b.entries)
