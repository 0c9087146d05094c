use Rattle.std.{specs.List.{list_all, AllByRecursion}, proofs.Common.{◌≡◌}}
use Rattle.pact_rules.specs.Deferred.{deferred_hold}
use Rattle.reply_check.specs.Deferred.{IsOf, deferred_holds}
use Rattle.reply_check.proofs.deferred.Deferred.holds.Given as goal

-- all hold if and only if those that are left do, which are the table's too
abbrev pub invariant-loop-group : goal.invariant-loop-group
invariant-loop-group l =
    (goal.iterator-loop-group).can_next l.group-iterator × (goal.iterator-loop-group).is_finite l.group-iterator
    × (deferred_holds l.fn.self ≡ list_all (λ g. deferred_hold g.entry.now g.texts.items) l.group-iterator.rest.items)
    × AllByRecursion (IsOf l.rules) l.group-iterator.rest.items
