use Rattle.std.proofs.Common.{◌≡◌}
use Rattle.pact_rules.specs.Matching.{has_keys_of}
use Rattle.serde_json.specs.View.{members_view}
use Rattle.pact_rules.proofs.matching.has_keys_of.Given as goal

-- all keys are there if and only if the ones that are left are there
abbrev pub invariant-loop-key : goal.invariant-loop-key
invariant-loop-key l =
    has_keys_of (members_view l.a.entries) (members_view l.b.entries) ≡ has_keys_of (members_view l.key-iterator) (members_view l.b.entries)
