use Rattle.std.proofs.Common.{◌∙◌}
use Rattle.table_access.proofs.CallLemmas.{CallsBetween-then_Ok}
use Rattle.broker_tables.proofs.TableQuery.{Shown-now_same, FailsToTake-explained_number}
use Rattle.content_store.proofs.{ContentRows.{highest, Shown-content_count}, ReadableRows.{EachReads-highest_content}}
use Rattle.content_store.proofs.contents.content_count.Goals as goal

pub returns-clause-call : goal.returns-clause-call
returns-clause-call g c =
    CallsBetween-then_Ok _ _ c.in-Ok.value _ _ _
    (λ h digest texts held. (c.unwrap_or.ensures ∙ Shown-content_count digest _ _ h.0 texts c.in-Ok.value held h.1 h.2, Shown-now_same highest _ _ held.broker h.0 h.1))
    c.in-Ok.ensures.leaves

pub returns-in-Err-clause-failure : goal.returns-in-Err-clause-failure
returns-in-Err-clause-failure g c clean s here = FailsToTake-explained_number highest _ _ (EachReads-highest_content _) s here c.in-Err.fault (c.in-Err.ensures.cause clean)
