use Rattle.table_audit.proofs.{RowRules.{FindsUnder-results}, RowTexts.{results}, Tried.{TriesBetween-of_query}}
use Rattle.table_audit.proofs.rules.judge_results.Goals as goal

pub returns : goal.returns
returns g c = TriesBetween-of_query results _ _ c.judge.result _ _ (λ broker rows shown found. FindsUnder-results _ broker rows found shown) c.judge.ensures.leaves c.judge.ensures.cause
