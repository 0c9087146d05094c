use Rattle.std.proofs.Common.{◌≡◌, ◌∙◌, map, sym, ap, subst}
use Rattle.pact_rules.specs.{Choice.{IsChoice, chosen}, Rules.{IsInOrder}, RuleViews.{rule_view}}
use Rattle.pact_rules.proofs.ChoiceLemmas.{IsChoice-chosen, IsChoice-of_IsChosen, IsChoice-within}
use Rattle.pact_paths.specs.Locations.{step_view}
use Rattle.pact_rules.proofs.table.RuleTable.choose.Goals as goal

pub returns-clause-choice : goal.returns-clause-choice
returns-clause-choice c =
    let at = map step_view c.args.location.now in
    let body : map rule_view c.self.inside.body.items ≡ c.args.self.now.body = ap (λ r. r.body) c.self.view_is in
    subst (IsChoice c.args.self.now.body at)
    (sym (c.best_of.ensures ∙ ap (λ xs. chosen (map rule_view xs) at) c.deref.ensures.value ∙ ap (λ rs. chosen rs at) body))
    (IsChoice-chosen c.args.self.now.body at (subst IsInOrder body c.self.invariant.order))

pub returns-clause-within : goal.returns-clause-within
returns-clause-within c = IsChoice-within c.args.self.now.body (map step_view c.args.location.now) c.best_of.result (returns-clause-choice c)

pub returns-clause-only : goal.returns-clause-only
returns-clause-only c = IsChoice-of_IsChosen c.args.self.now.body (map step_view c.args.location.now) c.best_of.result (returns-clause-choice c)
