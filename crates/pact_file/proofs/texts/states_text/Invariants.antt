use Rattle.std.proofs.Common.{◌≡◌, ◌++◌, map, drop, false, string_bytes}
use Rattle.pact_file.{specs.Pact.{state_data, states_data}, proofs.NormalTexts.{left}}
use Rattle.serde_json.specs.{View.{items_of}, Written.{compact_text, items_have_float}}
use Rattle.pact_file.proofs.texts.states_text.Given as goal

-- what is written, with what is left, is the whole; and none that is left has a fraction
abbrev pub invariant-loop-index : goal.invariant-loop-index
invariant-loop-index l =
    let following = drop l.index l.states in record {
      text : string_bytes l.text ++ left state_data l.index following ≡ compact_text (states_data l.states);
      whole : items_have_float (items_of (map state_data following)) ≡ false;
    }
