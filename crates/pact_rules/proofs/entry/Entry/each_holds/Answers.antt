use Rattle.std.{specs.List.{list_any}, proofs.Common.{rules, ◌≡◌, true, map, subst, arith}}
use Rattle.pact_rules.specs.{Rules.{is_regex}, RuleViews.{matcher_view}, declared.matching.MatchFault.TheVariants.{Pattern}}
use Rattle.pact_rules.proofs.GatheredLemmas.{is_regex-list_any}
use Rattle.pact_rules.proofs.entry.Entry.each_holds.Goals as goal

pub returns-in_err-holds_with-clause-pattern : goal.returns-in_err-holds_with-clause-pattern
returns-in_err-holds_with-clause-pattern c =
    let among : c.in_err-holds_with.field-0.0 ≡ Pattern → list_any is_regex (map matcher_view c.args.self.now.matchers.items) ≡ true
    = λ e. subst (λ ms. list_any is_regex (map matcher_view ms) ≡ true) c.deref-matcher-items.ensures.value
    (is_regex-list_any c.deref-matcher-items.result.now c.loop-matcher.matcher-index c.matcher-item.result (grind arith) (grind arith)
    (c.in_err-holds_with.ensures.pattern e)) in
    search (rules, among)
