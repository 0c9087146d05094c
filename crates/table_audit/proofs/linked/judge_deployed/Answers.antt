use Rattle.table_audit.proofs.{LinkRules.{FindsUnder-deployed}, LinkTexts.{deployed}, Tried.{TriesBetween-of_query}}
use Rattle.table_audit.proofs.linked.judge_deployed.Goals as goal

pub returns : goal.returns
returns g c = TriesBetween-of_query deployed _ _ c.judge.result _ _ (λ broker rows shown found. FindsUnder-deployed _ broker rows found shown) c.judge.ensures.leaves c.judge.ensures.cause
