use Rattle.std.proofs.Common.{◌∙◌}
use Rattle.broker_tables.proofs.{TableQuery.{Shown-now_same, FailsToTake-explained_number}, QueryLemmas.{LooksUpBetween-read_Ok, LooksUpBetween-read_Err}}
use Rattle.registry_tables.proofs.VersionRows.{highest, EachReads-highest_version, Shown-version_count}
use Rattle.registry_tables.proofs.versions.version_count.Goals as goal

pub returns : goal.returns
returns g c = LooksUpBetween-read_Ok _ _ c.in-Ok.value _ _ _ (λ h s held. (c.unwrap_or.ensures ∙ Shown-version_count _ _ h.0 s c.in-Ok.value held h.1 h.2, Shown-now_same highest _ _ held.broker h.0 h.1)) c.in-Ok.ensures.leaves

pub returns-in-Err : goal.returns-in-Err
returns-in-Err g c = LooksUpBetween-read_Err _ _ c.in-Err.fault _ _ _ (FailsToTake-explained_number highest _ _ (EachReads-highest_version _)) c.in-Err.ensures.leaves c.in-Err.ensures.cause
