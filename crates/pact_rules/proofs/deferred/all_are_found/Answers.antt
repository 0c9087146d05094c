use Rattle.std.{specs.List.{list_all}, proofs.{Common.{rules, arith, ◌∙◌, sym}, lemmas.List.{at_drop_all}}}
use Rattle.pact_rules.{specs.Deferred.{is_matched}, proofs.DeferredLemmas.{list_all-next_pattern, list_all-const_true}}
use Rattle.pact_rules.proofs.deferred.all_are_found.Goals as goal

pub returns-then-not-branch-clause-value : goal.returns-then-not-branch-clause-value
returns-then-not-branch-clause-value c =
    search (rules, list_all-next_pattern c.deref-pattern-items.result.now c.args.texts.now.items c.loop-pattern.pattern-index c.pattern-item.result c.loop-pattern-test.true c.pattern-item.is)

pub loop-pattern-preserved : goal.loop-pattern-preserved
loop-pattern-preserved c =
    search (rules, list_all-next_pattern c.deref-pattern-items.result.now c.args.texts.now.items c.loop-pattern.pattern-index c.pattern-item.result c.loop-pattern-test.true c.pattern-item.is)

pub returns-clause-value : goal.returns-clause-value
returns-clause-value c =
    sym (c.loop-pattern.invariant ∙ at_drop_all (λ ps. list_all (λ t. list_all (is_matched t) ps) c.args.texts.now.items) c.deref-pattern-items.result.now c.loop-pattern.pattern-index (omega (arith, c.loop-pattern-test.false)) ∙ list_all-const_true c.args.texts.now.items)
