use Rattle.std.proofs.Common.{◌≡◌, ◌||◌, nat_le, drop}
use Rattle.serde_json.specs.{Data.{items_depth, members_depth}, Written.{items_have_float, members_have_float}, View.{items_view, members_view}}
use Rattle.pact_trees.proofs.check.+walk.Given as goal

-- All are within the limit of depth if and only if the ones that are left are; and one has a fraction if and only if
-- one that was seen has, or one of those that are left.
abbrev pub invariant-items_fraction-loop-item : goal.invariant-items_fraction-loop-item
invariant-items_fraction-loop-item l =
    let left = items_view (drop l.item-index l.item-items) in
    (nat_le (items_depth (items_view l.items.items)) l.limit ≡ nat_le (items_depth left) l.limit)
    × (items_have_float (items_view l.items.items) ≡ (l.found || items_have_float left))

abbrev pub invariant-members_fraction-loop-member : goal.invariant-members_fraction-loop-member
invariant-members_fraction-loop-member l =
    let left = members_view l.member-iterator in
    (nat_le (members_depth (members_view l.members.entries)) l.limit ≡ nat_le (members_depth left) l.limit)
    × (members_have_float (members_view l.members.entries) ≡ (l.found || members_have_float left))
