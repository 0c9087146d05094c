use Rattle.std.proofs.Common.{◌≡◌}
use Rattle.pact_rules.specs.RuleReading.{has_old_key}
use Rattle.serde_json.specs.View.{members_view}
use Rattle.pact_rules.proofs.table_reader.has_old_key.Given as goal

-- there is an old key if and only if there is one among the keys that are left
abbrev pub invariant-loop-key : goal.invariant-loop-key
invariant-loop-key l = has_old_key (members_view l.members.entries) ≡ has_old_key (members_view l.key-iterator)
