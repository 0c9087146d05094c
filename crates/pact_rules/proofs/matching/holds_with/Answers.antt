use Rattle.std.proofs.Common.{◌∙◌, string_bytes, option_map, Some, sym, ap}
use Rattle.pact_rules.proofs.MatchingLemmas.{holds-include}
use Rattle.serde_json.specs.View.{view}
use Rattle.pact_rules.proofs.matching.holds_with.Goals as goal

pub returns-in-Some-2-clause-value : goal.returns-in-Some-2-clause-value
returns-in-Some-2-clause-value c =
    let e = c.in_ok-text-in-Include.ensures in
    holds-include c.args.matcher.now (view c.args.expected.now) (view c.args.actual.now) c.args.own_place c.in-Include.part c.deref-in-Some-2.result.now c.as_str.result.now c.contains.result c.in-Include.is
    (ap (λ s. Some s) c.deref-in-Some-2.ensures ∙ ap (option_map (λ s. string_bytes s)) (sym c.in-Some-2.is) ∙ e) c.as_str.ensures.value c.contains.ensures.cases
