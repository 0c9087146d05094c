use Rattle.std.proofs.Common.{List, ◌≡◌, ◌∙◌, map, sym, ap, subst}
use Rattle.pact_rules.specs.{Survivors.{survivor_view}, Rules.{BodyRule, Rules, IsInOrder}, Choice.{IsChoice, chosen}, RuleViews.{rule_view}}
use Rattle.pact_rules.{specs.Walks.{Walk, IsWalkTo}, proofs.ChoiceLemmas.{IsChoice-chosen, IsChoice-unique, IsChoice-within}}
use Rattle.pact_rules.proofs.walk.Alive.chosen.Goals as goal

pub returns-clause-choice : goal.returns-clause-choice
returns-clause-choice c = λ at h.
    let same : ◌≡◌ {A = List BodyRule} (map rule_view c.table.inside.body.items) c.args.table.now.body = ap (λ (r : Rules). r.body) c.table.view_is in
    let body : ◌≡◌ {A = List BodyRule} (map rule_view c.deref-2.result.now) c.args.table.now.body = ap (map rule_view) c.deref-2.ensures.value ∙ same in
    let walk : ◌≡◌ {A = Walk} (record { steps = c.self.inside.steps; alive = map survivor_view c.deref.result.now }) c.args.self.now =
    ap (λ xs. record { steps = c.self.inside.steps; alive = map survivor_view xs }) c.deref.ensures.value ∙ c.self.view_is in
    let here = subst (λ rs. IsWalkTo rs (record { steps = c.self.inside.steps; alive = map survivor_view c.deref.result.now }) at) (sym body)
    (subst (λ w. IsWalkTo c.args.table.now.body w at) (sym walk) h) in
    subst (λ rs. IsChoice rs at c.best_alive.result) body (c.best_alive.ensures at here)

pub returns-clause-computed : goal.returns-clause-computed
returns-clause-computed c = λ at h.
    let same : ◌≡◌ {A = List BodyRule} (map rule_view c.table.inside.body.items) c.args.table.now.body = ap (λ (r : Rules). r.body) c.table.view_is in
    IsChoice-unique c.args.table.now.body at c.best_alive.result (chosen c.args.table.now.body at) (returns-clause-choice c at h)
    (IsChoice-chosen c.args.table.now.body at (subst IsInOrder same c.table.invariant.order))

pub returns-clause-within : goal.returns-clause-within
returns-clause-within c = IsChoice-within c.args.table.now.body c.requires.started.0 c.best_alive.result (returns-clause-choice c c.requires.started.0 c.requires.started.1)
