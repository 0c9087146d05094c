use Rattle.std.proofs.Common.{nat_le, sym, ap, ◌∙◌}
use Rattle.serde_json.proofs.Views.{items_len-items_view}
use Rattle.pact_file.specs.File.{most_interactions}
use Rattle.pact_file.proofs.read.is_few.Goals as goal

pub returns : goal.returns
returns c = ap (λ n. nat_le n most_interactions) (c.len.ensures ∙ c.args.items.now.ok.0 ∙ sym (items_len-items_view c.args.items.now.items))
