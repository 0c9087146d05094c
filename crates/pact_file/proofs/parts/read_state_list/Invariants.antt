use Rattle.std.proofs.Common.{◌≡◌, map, drop}
use Rattle.serde_json.specs.View.{view}
use Rattle.pact_file.{specs.Parts.{state_in, all_of}, proofs.Lists.{with_front}}
use Rattle.pact_file.proofs.parts.read_state_list.Given as goal

abbrev pub invariant-loop-item : goal.invariant-loop-item
invariant-loop-item l = with_front l.states.items (all_of state_in (map view (drop l.item-index l.items))) ≡ all_of state_in (map view l.items)
