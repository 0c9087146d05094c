use Rattle.pact_rules.{specs.{Rules.{BodyRule, Rules}, RuleViews.{rule_view}}, proofs.WalkLemmas.{IsWalkTo-of_parts, IsAlive-at_start}}
use Rattle.std.proofs.{Common.{List, ◌≡◌, ◌≤◌, ◌-◌, ◌^◌, ◌∙◌, map, [], sym, ap, arith}, Math.Nat.{min-eq_left}}
use Rattle.pact_rules.proofs.table.RuleTable.start.Goals as goal

pub returns-clause-walk : goal.returns-clause-walk
returns-clause-walk c =
    let same : ◌≡◌ {A = List BodyRule} (map rule_view c.self.inside.body.items) c.args.self.now.body = ap (λ (r : Rules). r.body) c.self.view_is in
    let few : 0 ≤ 2 ^ 64 - 1 = omega arith in
    IsWalkTo-of_parts c.args.self.now.body (map rule_view c.deref.result.now) (map rule_view c.deref-2.result.now) 0 c.in_ok-entries.entries.items c.sort_by_asked.new.entries.items []
    (ap (map rule_view) c.deref.ensures.value ∙ same) (ap (map rule_view) c.deref-2.ensures.value ∙ same) (sym (min-eq_left few))
    c.sort_by_asked.ensures.same (IsAlive-at_start c.deref.result.now c.in_ok-entries.entries.items c.in_ok-entries.ensures) c.sort_by_asked.ensures.order
