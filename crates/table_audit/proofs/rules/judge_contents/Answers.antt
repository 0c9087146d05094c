use Rattle.table_audit.proofs.{RowRules.{FindsUnder-contents}, RowTexts.{contents}, Tried.{TriesBetween-of_query}}
use Rattle.table_audit.proofs.rules.judge_contents.Goals as goal

pub returns : goal.returns
returns g c = TriesBetween-of_query contents _ _ c.judge.result _ _ (λ broker rows shown found. FindsUnder-contents _ broker rows found shown) c.judge.ensures.leaves c.judge.ensures.cause
