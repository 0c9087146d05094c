use Rattle.table_audit.proofs.{RowRules.{FindsUnder-versions}, RowTexts.{versions}, Tried.{TriesBetween-of_query}}
use Rattle.table_audit.proofs.rules.judge_versions.Goals as goal

pub returns : goal.returns
returns g c = TriesBetween-of_query versions _ _ c.judge.result _ _ (λ broker rows shown found. FindsUnder-versions _ broker rows found shown) c.judge.ensures.leaves c.judge.ensures.cause
