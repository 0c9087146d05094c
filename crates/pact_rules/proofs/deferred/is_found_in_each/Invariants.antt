use Rattle.std.{specs.List.{list_all}, proofs.Common.{◌≡◌, drop}}
use Rattle.pact_rules.specs.Deferred.{is_matched}
use Rattle.pact_rules.proofs.deferred.is_found_in_each.Given as goal

-- it is found in each if and only if it is in each of those that are left
abbrev pub invariant-loop-text : goal.invariant-loop-text
invariant-loop-text l =
    list_all (λ t. is_matched t l.pattern) l.texts.items ≡ list_all (λ t. is_matched t l.pattern) (drop l.text-index l.text-items)
