use Rattle.std.proofs.Common.{◌∙◌, slice_get, option_copied, sym, ap}
use Rattle.pact_rules.proofs.GatheredLemmas.{judged-false_of_some, judged-false_of_none}
use Rattle.pact_rules.proofs.judging.nothing_holds.Goals as goal

pub returns-in-Some : goal.returns-in-Some
returns-in-Some c =
    let xs = c.args.texts.now.items in
    sym (judged-false_of_some c.args.any xs (c.in-Some.field-0).now (sym (ap (λ ys. slice_get ys 0) c.deref.ensures.value) ∙ sym c.first.ensures.value ∙ ap option_copied c.in-Some.is))

pub returns-in-None : goal.returns-in-None
returns-in-None c =
    let xs = c.args.texts.now.items in
    sym (judged-false_of_none c.args.any xs (sym (ap (λ ys. slice_get ys 0) c.deref.ensures.value) ∙ sym c.first.ensures.value ∙ ap option_copied c.in-None.is))
