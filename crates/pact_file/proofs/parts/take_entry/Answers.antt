use Rattle.std.proofs.Common.{option_map, ap, ◌∙◌}
use Rattle.serde_json.{specs.View.{view}, proofs.Views.{view-lookup}}
use Rattle.pact_file.proofs.parts.take_entry.Goals as goal

pub returns : goal.returns
returns c = ap (option_map view) c.remove.ensures.value ∙ view-lookup c.args.key.now c.args.members.entries
