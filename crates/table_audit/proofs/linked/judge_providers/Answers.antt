use Rattle.table_audit.proofs.{LinkRules.{FindsUnder-providers}, LinkTexts.{providers}, Tried.{TriesBetween-of_query}}
use Rattle.table_audit.proofs.linked.judge_providers.Goals as goal

pub returns : goal.returns
returns g c = TriesBetween-of_query providers _ _ c.judge.result _ _ (λ broker rows shown found. FindsUnder-providers _ broker rows found shown) c.judge.ensures.leaves c.judge.ensures.cause
