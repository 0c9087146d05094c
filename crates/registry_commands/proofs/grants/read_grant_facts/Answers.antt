use Rattle.broker_tables.proofs.QueryLemmas.{LooksUpBetween-then_failed}
use Rattle.registry_commands.proofs.grants.read_grant_facts.Goals as goal

pub returns-in-Err-gated : goal.returns-in-Err-gated
returns-in-Err-gated g c = LooksUpBetween-then_failed _ _ _ _ _ _ _ _ c.in-Ok.ensures c.in-Err-gated.ensures.answers
