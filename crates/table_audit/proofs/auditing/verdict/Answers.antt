use Rattle.table_audit.proofs.{TriedLemmas.{TriesBetween-other_answer, TriesBetween-then}, Verdict.{Verdict-no_office, Verdict-of_rules}}
use Rattle.table_audit.proofs.auditing.verdict.Goals as goal

pub returns-then-not-value : goal.returns-then-not-value
returns-then-not-value g c = TriesBetween-other_answer _ _ c.in-Ok.value _ _ _ (λ db broker office. Verdict-no_office db broker c.in-Ok.value c.if-not-value.true office) c.in-Ok.ensures

pub returns : goal.returns
returns g c = TriesBetween-then _ _ _ c.in-Ok.value c.first_broken.result _ _ _ (λ db broker office found judged. Verdict-of_rules db broker c.in-Ok.value c.if-not-value.false found office judged)
    c.in-Ok.ensures c.first_broken.ensures
