use Rattle.std.proofs.Common.{nat_eq, sym, ap, ◌∙◌}
use Rattle.serde_json.{specs.View.{view}, proofs.Views.{view-Array, items_len-items_view}}
use Rattle.pact_file.specs.File.{holds_nothing}
use Rattle.pact_file.proofs.read.is_nothing.Goals as goal

pub returns-in-Array : goal.returns-in-Array
returns-in-Array c = ap (λ n. nat_eq n 0) (c.len.ensures ∙ c.in-Array.list.ok.0 ∙ sym (items_len-items_view c.in-Array.list.items)) ∙ sym (ap holds_nothing (ap view c.in-Array.is ∙ view-Array c.in-Array.list))
