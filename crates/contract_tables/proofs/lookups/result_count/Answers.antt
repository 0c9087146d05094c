use Rattle.std.proofs.Common.{◌∙◌}
use Rattle.broker_tables.proofs.{QueryLemmas.{LooksUpBetween-read_Ok, LooksUpBetween-read_Err}, TableQuery.{Shown-now_same, FailsToTake-explained_number}}
use Rattle.contract_tables.proofs.{ResultLookups.{count, Shown-result_count}, ReadableRows.{EachReads-result_count}}
use Rattle.contract_tables.proofs.lookups.result_count.Goals as goal

pub returns : goal.returns
returns g c = LooksUpBetween-read_Ok _ _ c.in-Ok.value _ _ _ (λ h s held. (c.unwrap_or.ensures ∙ Shown-result_count _ _ h.0 s c.in-Ok.value held h.1 h.2, Shown-now_same count _ _ held.broker h.0 h.1)) c.in-Ok.ensures.leaves

pub returns-in-Err : goal.returns-in-Err
returns-in-Err g c = LooksUpBetween-read_Err _ _ c.in-Err.fault _ _ _ (FailsToTake-explained_number count _ _ (EachReads-result_count _)) c.in-Err.ensures.leaves c.in-Err.ensures.cause
