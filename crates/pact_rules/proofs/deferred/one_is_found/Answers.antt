use Rattle.std.{specs.List.{list_all, list_any}, proofs.{Common.{rules, arith, ◌≡◌, ◌∙◌, nat_eq, length}, lemmas.List.{at_drop_all}}}
use Rattle.pact_rules.{specs.Deferred.{is_matched}, proofs.DeferredLemmas.{list_all-const_false}}
use Rattle.pact_rules.proofs.deferred.one_is_found.Goals as goal

pub returns-clause-value : goal.returns-clause-value
returns-clause-value c =
    let none : list_all (λ t. list_any (is_matched t) c.args.patterns.now.items) c.args.texts.items ≡ nat_eq (length c.loop-pattern.left.items) 0
    = c.loop-pattern.invariant ∙ at_drop_all (λ ps. list_all (λ t. list_any (is_matched t) ps) c.loop-pattern.left.items) c.deref-pattern-items.result.now c.loop-pattern.pattern-index (omega (arith, c.loop-pattern-test.false)) ∙ list_all-const_false c.loop-pattern.left.items in
    search (rules, none)
