use Rattle.std.{specs.List.{list_all}, proofs.Common.{◌≡◌, ◌&&◌, ◌||◌, Bool, String, Global}}
use Rattle.pact_rules.specs.Deferred.{is_matched}
use Rattle.pact_rules.proofs.deferred.without_found.Given as goal

-- those that were kept, and what is left, say as much as all
abbrev pub invariant-loop-text : goal.invariant-loop-text
invariant-loop-text l =
    (holds : String Global → Bool) → list_all (λ t. is_matched t l.pattern || holds t) l.fn.texts.items
    ≡ list_all holds l.left.items && list_all (λ t. is_matched t l.pattern || holds t) l.text-iterator.rest.items
