use Rattle.table_audit.proofs.{RowRules.{FindsUnder-teams}, RowTexts.{teams}, Tried.{TriesBetween-of_query}}
use Rattle.table_audit.proofs.rules.judge_teams.Goals as goal

pub returns : goal.returns
returns g c = TriesBetween-of_query teams _ _ c.judge.result _ _ (λ broker rows shown found. FindsUnder-teams _ broker rows found shown) c.judge.ensures.leaves c.judge.ensures.cause
