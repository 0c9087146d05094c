use Rattle.std.proofs.Common.{◌∙◌, sym, ap}
use Rattle.pact_rules.{specs.{Gathered.{judged, part_holds}, Matching.{holds, text_form}, Rules.{include}}, proofs.GatheredLemmas.{passes-same_parts}}
use Rattle.pact_rules.proofs.gathered.distinct_parts.Goals as goal

pub returns-in_ok-shortest_parts : goal.returns-in_ok-shortest_parts
returns-in_ok-shortest_parts c = λ x y own.
    let v = c.in_ok-shortest_parts.field-0 in
    ap (λ a. judged a (part_holds x y own) v.items) c.if-any.true ∙ passes-same_parts v.items c.args.texts.items c.in_ok-shortest_parts.ensures (text_form y)
    ∙ sym (ap (λ a. judged a (part_holds x y own) c.args.texts.items) c.if-any.true)

pub returns-in_ok-distinct : goal.returns-in_ok-distinct
returns-in_ok-distinct c = λ x y own. c.in_ok-distinct.ensures c.args.any (λ t. holds (include t) x y own)
