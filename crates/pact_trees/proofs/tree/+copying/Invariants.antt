use Rattle.std.proofs.Common.{◌≡◌, List, ◌++◌, false, take, drop, map}
use Rattle.serde_json.{specs.{View.{view, items_view, members_view}, Written.{items_have_float, members_have_float}}, proofs.Views.{Entry}}
use Rattle.pact_trees.specs.Trees.{data_of, members_data}
use Rattle.pact_trees.proofs.tree.+copying.Given as goal

-- those that were seen are copied, and those that are left have no fraction
abbrev pub invariant-copied_items-loop-item : goal.invariant-copied_items-loop-item
invariant-copied_items-loop-item l =
    (map data_of l.trees.items ≡ map view (take l.item-index l.item-items))
    × (items_have_float (items_view (drop l.item-index l.item-items)) ≡ false)

abbrev pub invariant-copied_members-loop-key : goal.invariant-copied_members-loop-key
invariant-copied_members-loop-key l =
    (done : List Entry) × (l.members.entries ≡ done ++ l.key-iterator) × (members_data l.trees.entries ≡ members_view done)
    × (members_have_float (members_view l.key-iterator) ≡ false)
