use Rattle.table_audit.proofs.{LinkTexts.{newest}, NewestRule.{FindsUnder-newest}, Tried.{TriesBetween-of_query}}
use Rattle.table_audit.proofs.linked.judge_newest.Goals as goal

pub returns : goal.returns
returns g c = TriesBetween-of_query newest _ _ c.judge.result _ _ (λ broker rows shown found. FindsUnder-newest _ broker rows found shown) c.judge.ensures.leaves c.judge.ensures.cause
