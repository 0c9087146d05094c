use Rattle.std.proofs.Common.{List, ◌≡◌, ◌∙◌, ◌++◌, [], ◌∷◌, map, sym, ap, subst}
use Rattle.pact_paths.specs.Locations.{step_view}
use Rattle.pact_rules.specs.{Rules.{BodyRule, Rules}, RuleViews.{rule_view}, Walks.{Walk, IsWalkTo}, Survivors.{survivor_view}}
use Rattle.pact_rules.proofs.WalkLemmas.{IsWalkTo-of_parts, step_count-push}
use Rattle.pact_rules.proofs.walk.Alive.step.Goals as goal

pub returns : goal.returns
returns c = λ at h.
    let s = step_view c.args.step.now in
    let same : ◌≡◌ {A = List BodyRule} (map rule_view c.table.inside.body.items) c.args.table.now.body = ap (λ (r : Rules). r.body) c.table.view_is in
    let body : ◌≡◌ {A = List BodyRule} (map rule_view c.deref-2.result.now) c.args.table.now.body = ap (map rule_view) c.deref-2.ensures.value ∙ same in
    let walk : ◌≡◌ {A = Walk} (record { steps = c.self.inside.steps; alive = map survivor_view c.deref.result.now }) c.args.self.now =
    ap (λ xs. record { steps = c.self.inside.steps; alive = map survivor_view xs }) c.deref.ensures.value ∙ c.self.view_is in
    let here = subst (λ rs. IsWalkTo rs (record { steps = c.self.inside.steps; alive = map survivor_view c.deref.result.now }) at) (sym body)
    (subst (λ w. IsWalkTo c.args.table.now.body w at) (sym walk) h) in
    IsWalkTo-of_parts c.args.table.now.body (map rule_view c.deref-2.result.now) (map rule_view c.deref-3.result.now) c.saturating_add-steps.result c.in_ok-entries.entries.items c.sort_by_asked.new.entries.items (at ++ s ∷ [])
    body (ap (map rule_view) c.deref-3.ensures.value ∙ same) (c.saturating_add-steps.ensures ∙ step_count-push at s c.self.inside.steps here.steps)
    c.sort_by_asked.ensures.same (c.in_ok-entries.ensures at here) c.sort_by_asked.ensures.order
