use Rattle.table_audit.proofs.{RowRules.{FindsUnder-office}, RowTexts.{office}, Tried.{TriesBetween-of_query}}
use Rattle.table_audit.proofs.rules.judge_office.Goals as goal

pub returns : goal.returns
returns g c = TriesBetween-of_query office _ _ c.judge.result _ _ (λ broker rows shown found. FindsUnder-office _ broker rows found shown) c.judge.ensures.leaves c.judge.ensures.cause
