use Rattle.broker_tables.proofs.MakingFails.{FailsToRun-HasFailed}
use Rattle.registry_tables.proofs.FormatRow.{format_fails, Executes-set_format, set_sql}
use Rattle.std.proofs.{Common.{[]}, lemmas.Result.{IfErr-weaker}}
use Rattle.table_access.proofs.CallLemmas.{CallsBetween-weaken}
use Rattle.registry_tables.proofs.migration.set_format.Goals as goal

pub returns-clause-sets : goal.returns-clause-sets
returns-clause-sets g c = CallsBetween-weaken _ _ c.change.result _ _ (λ _ h s held. Executes-set_format _ _ s held h.0 h.1) c.change.ensures.leaves

pub returns-clause-failure : goal.returns-clause-failure
returns-clause-failure g c clean inside unlimited it =
    IfErr-weaker c.change.result _ _ (λ fault refused. FailsToRun-HasFailed set_sql [] _ _ fault refused (format_fails _ _ it.0 it.1 it.2.0 unlimited)) (c.change.ensures.cause clean)
