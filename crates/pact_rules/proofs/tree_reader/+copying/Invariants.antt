use Rattle.std.proofs.Common.{◌≡◌, ◌++◌, take, map}
use Rattle.serde_json.specs.View.{view, members_view}
use Rattle.pact_rules.proofs.AsReadLemmas.{Entries, map_as_read, tree_as_read}
use Rattle.pact_rules.proofs.tree_reader.+copying.Given as goal

-- those that were seen are copied
abbrev pub invariant-values_of-loop-item : goal.invariant-values_of-loop-item
invariant-values_of-loop-item l = map view l.values.items ≡ map tree_as_read (take l.item-index l.item-items)

abbrev pub invariant-map_of-loop-key : goal.invariant-map_of-loop-key
invariant-map_of-loop-key l =
    (done : Entries) × (l.members.entries ≡ done ++ l.key-iterator) × (members_view l.map.entries ≡ map_as_read done)
