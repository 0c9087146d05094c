use Rattle.std.proofs.Common.{◌≡◌, map, drop, option_map, string_bytes, ◌++◌}
use Rattle.pact_file.{specs.Parts.{all_of, joined}, proofs.Joined.{still}}
use Rattle.serde_json.specs.{Find.{as_str}, View.{view}}
use Rattle.pact_file.proofs.headers.read_joined.Given as goal

abbrev pub invariant-loop-index : goal.invariant-loop-index
invariant-loop-index l = option_map (λ ts. string_bytes l.text ++ still l.index ts) (all_of as_str (map view (drop l.index l.items))) ≡ option_map joined (all_of as_str (map view l.items))
