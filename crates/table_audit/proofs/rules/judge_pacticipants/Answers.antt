use Rattle.table_audit.proofs.{RowRules.{FindsUnder-pacticipants}, RowTexts.{pacticipants}, Tried.{TriesBetween-of_query}}
use Rattle.table_audit.proofs.rules.judge_pacticipants.Goals as goal

pub returns : goal.returns
returns g c = TriesBetween-of_query pacticipants _ _ c.judge.result _ _ (λ broker rows shown found. FindsUnder-pacticipants _ broker rows found shown) c.judge.ensures.leaves c.judge.ensures.cause
