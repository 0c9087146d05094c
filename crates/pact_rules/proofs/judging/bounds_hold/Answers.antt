use Rattle.std.proofs.Common.{◌∙◌, ◌||◌, not, sym, ap}
use Rattle.serde_json.specs.View.{view}
use Rattle.pact_rules.{specs.{Gathered.{judged, bounds_hold}, Matching.{same_kind, within}}, proofs.GatheredLemmas.{judged-same_tests, and-true_right}}
use Rattle.pact_rules.proofs.judging.bounds_hold.Goals as goal

pub returns-else-asks_bounds : goal.returns-else-asks_bounds
returns-else-asks_bounds c =
    let x = view c.args.expected.now in
    let y = view c.args.actual.now in
    let own = c.args.own_place in
    c.kinds_hold.ensures ∙ ap (λ k. judged c.args.any (λ b. k) c.args.bounds.now.items) c.are_of_one_kind.ensures
    ∙ sym (judged-same_tests c.args.any (bounds_hold x y own) (λ b. same_kind x y) c.args.bounds.now.items (λ b.
    and-true_right (same_kind x y) (not own || within b.min b.max x y) (c.asks_bounds.ensures b.min b.max c.if-asks_bounds.false)))
