use Rattle.std.proofs.Common.{◌∙◌, slice_get, option_copied, sym, ap}
use Rattle.pact_rules.proofs.GatheredLemmas.{judged-const_of_some, judged-const_of_none}
use Rattle.pact_rules.proofs.judging.kinds_hold.Goals as goal

pub returns-in-Some : goal.returns-in-Some
returns-in-Some c =
    let xs = c.args.bounds.now.items in
    sym (judged-const_of_some c.args.any c.args.is_one_kind xs (c.in-Some.field-0).now (sym (ap (λ ys. slice_get ys 0) c.deref.ensures.value) ∙ sym c.first.ensures.value ∙ ap option_copied c.in-Some.is))

pub returns-in-None : goal.returns-in-None
returns-in-None c =
    let xs = c.args.bounds.now.items in
    sym (judged-const_of_none c.args.any c.args.is_one_kind xs (sym (ap (λ ys. slice_get ys 0) c.deref.ensures.value) ∙ sym c.first.ensures.value ∙ ap option_copied c.in-None.is))
