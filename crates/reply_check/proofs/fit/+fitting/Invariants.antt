use Rattle.std.proofs.Common.{◌≡◌, ◌&&◌, drop}
use Rattle.pact_paths.specs.Paths.{Location}
use Rattle.reply_check.specs.{Computed.{items_fit, members_fit}, Deferred.{AreOf, deferred_holds}}
use Rattle.pact_rules.specs.Walks.{HasReached}
use Rattle.serde_json.specs.View.{items_view, members_view}
use Rattle.reply_check.proofs.fit.+fitting.Given as goal

-- all fit if and only if those that are left do
abbrev pub invariant-items_fit-loop-index : goal.invariant-items_fit-loop-index
invariant-items_fit-loop-index l =
    let xs = items_view l.expected.items in
    AreOf l.rules l.deferred × ((at : Location) → HasReached l.rules l.alive at → (deferred_holds l.fn.deferred && items_fit l.rules at xs 0 (items_view l.actual.items)) ≡ (deferred_holds l.deferred && items_fit l.rules at xs l.index (items_view (drop l.index l.item-items))))

abbrev pub invariant-members_fit-loop-key : goal.invariant-members_fit-loop-key
invariant-members_fit-loop-key l =
    let fs = members_view l.expected.entries in
    AreOf l.rules l.deferred × ((at : Location) → HasReached l.rules l.alive at → (deferred_holds l.fn.deferred && members_fit l.rules at fs (members_view l.actual.entries)) ≡ (deferred_holds l.deferred && members_fit l.rules at fs (members_view l.key-iterator)))
