use Rattle.std.proofs.Common.{◌∙◌, slice_get, ap}
use Rattle.reply_check.proofs.FitLemmas.{example-items_view, IsItemAt-slice_get}
use Rattle.reply_check.proofs.fit.example_at.Goals as goal

pub returns : goal.returns
returns c =
    let ts = c.args.expected.now.items in
    example-items_view ts c.args.index c.get.result c.first.result c.or.result
    (IsItemAt-slice_get c.deref.result.now c.args.index c.get.result c.get.ensures.lookup ∙ ap (λ xs. slice_get xs c.args.index) c.deref.ensures.value)
    (c.first.ensures.value ∙ ap (λ xs. slice_get xs 0) c.deref-2.ensures.value) c.or.ensures
