use Rattle.std.proofs.Common.{arith, sym, ◌∙◌}
use Rattle.table_audit.proofs.TriedLemmas.{all_rules, AreJudged-of_found, ObeyedBefore-all, ObeyedBefore-next, TriesBetween-both, TriesBetween-no_call, TriesBetween-other_answer, TriesBetween-then_failed}
use Rattle.table_audit.proofs.auditing.first_broken.Goals as goal

pub loop-rule-init : goal.loop-rule-init
loop-rule-init g c = TriesBetween-no_call _ _ _ (λ db rule none. absurd none)

pub loop-rule-preserved : goal.loop-rule-preserved
loop-rule-preserved g c = TriesBetween-both _ _ _ _ c.in-Ok.value _ _ _ _
    (λ db before judged. ObeyedBefore-next all_rules c.loop-rule.rule-index _ db c.in-Ok.value c.loop-rule-test.true (sym c.is_some.ensures ∙ c.if-is_some.false) before judged)
    c.loop-rule.invariant c.in-Ok.ensures

pub returns-in-Err : goal.returns-in-Err
returns-in-Err g c = TriesBetween-then_failed _ _ _ _ _ _ _ _ c.loop-rule.invariant c.in-Err.ensures

pub returns-then-is_some : goal.returns-then-is_some
returns-then-is_some g c = TriesBetween-both _ _ _ _ c.in-Ok.value _ _ _ _
    (λ db before judged. AreJudged-of_found _ db c.in-Ok.value (sym c.is_some.ensures ∙ c.if-is_some.true) judged) c.loop-rule.invariant c.in-Ok.ensures

pub returns : goal.returns
returns g c = TriesBetween-other_answer _ _ _ _ _ _ (λ db broker before. ObeyedBefore-all _ db (omega arith) before) c.loop-rule.invariant
