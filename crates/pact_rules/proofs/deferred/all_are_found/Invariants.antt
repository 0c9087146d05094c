use Rattle.std.{specs.List.{list_all}, proofs.Common.{◌≡◌, drop}}
use Rattle.pact_rules.specs.Deferred.{is_matched}
use Rattle.pact_rules.proofs.deferred.all_are_found.Given as goal

-- the patterns are found in each text if and only if those that are left are
abbrev pub invariant-loop-pattern : goal.invariant-loop-pattern
invariant-loop-pattern l =
    list_all (λ t. list_all (is_matched t) l.patterns.items) l.texts.items
    ≡ list_all (λ t. list_all (is_matched t) (drop l.pattern-index l.pattern-items)) l.texts.items
