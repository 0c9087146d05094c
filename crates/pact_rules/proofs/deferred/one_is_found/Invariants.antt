use Rattle.std.{specs.List.{list_all, list_any}, proofs.Common.{◌≡◌, drop}}
use Rattle.pact_rules.specs.Deferred.{is_matched}
use Rattle.pact_rules.proofs.deferred.one_is_found.Given as goal

-- one is found in each text if and only if one of those that are left is, in each text that is left
abbrev pub invariant-loop-pattern : goal.invariant-loop-pattern
invariant-loop-pattern l =
    list_all (λ t. list_any (is_matched t) l.patterns.items) l.fn.texts.items
    ≡ list_all (λ t. list_any (is_matched t) (drop l.pattern-index l.pattern-items)) l.left.items
