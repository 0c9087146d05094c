use Rattle.std.proofs.Common.{◌≡◌, ◌+◌, ◌-◌, ◌∙◌, map, drop, length, sym, ap, arith}
use Rattle.pact_rules.{specs.{Choice.{best}, RuleViews.{rule_view}}, proofs.ChoiceLemmas.{as_candidate-better_of, drop-rule_view, as_candidate}}
use Rattle.pact_paths.specs.{Weights.{weight}, Locations.{step_view}}
use Rattle.pact_rules.proofs.table.best_of.Goals as goal

pub loop-index-preserved : goal.loop-index-preserved
loop-index-preserved c =
    let xs = c.args.rules.now in
    let at = map step_view c.args.location.now in
    let x = c.index-rules-index.result in
    let k = c.loop-index.index - 1 in
    let up : c.loop-index.index ≡ k + 1 = omega arith in
    as_candidate-better_of at (map rule_view xs) (rule_view x) k c.weight.result c.len.result c.loop-index.found c.better-found.result c.requires
    (drop-rule_view xs k x (omega arith) c.index-rules-index.is)
    (c.weight.ensures.value ∙ ap (λ y. weight y.path at) (sym c.index-rules-index.is))
    (c.len.ensures.value ∙ ap (λ y. length y.path) (sym c.index-rules-index.is))
    (c.loop-index.invariant ∙ ap (λ n. as_candidate n at (best (drop n (map rule_view xs)) at)) up)
    c.better-found.ensures
