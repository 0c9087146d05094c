use Rattle.table_audit.proofs.{LinkRules.{FindsUnder-named}, LinkTexts.{named}, Tried.{TriesBetween-of_query}}
use Rattle.table_audit.proofs.linked.judge_named.Goals as goal

pub returns : goal.returns
returns g c = TriesBetween-of_query named _ _ c.judge.result _ _ (λ broker rows shown found. FindsUnder-named _ broker rows found shown) c.judge.ensures.leaves c.judge.ensures.cause
