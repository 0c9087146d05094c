use Rattle.std.proofs.lemmas.Result.{IfErr-weaker}
use Rattle.table_access.proofs.CallLemmas.{CallsBetween-weaken}
use Rattle.broker_tables.proofs.MakingFails.{FailsToRun-HasFailed}
use Rattle.registry_tables.proofs.MetaRow.{put_sql, Executes-PutsMeta, meta_fails}
use Rattle.registry_tables.proofs.making.put_meta.Goals as goal

pub returns-clause-puts : goal.returns-clause-puts
returns-clause-puts g c =
    CallsBetween-weaken _ _ c.change.result _ _ (λ _ h. Executes-PutsMeta c.args.format c.args.digest.now _ _ h.0 h.1) (rw (c.params-to_sql.ensures, c.params-to_sql-2.ensures) at c.change.ensures.leaves)

pub returns-clause-failure : goal.returns-clause-failure
returns-clause-failure g c clean inside unlimited it =
    IfErr-weaker c.change.result _ _ (λ fault refused. FailsToRun-HasFailed put_sql _ _ _ fault refused (meta_fails c.args.format c.args.digest.now _ _ it.0.0 it.0.1 it.0.2 it.1.0 unlimited))
    (rw (c.params-to_sql.ensures, c.params-to_sql-2.ensures) at c.change.ensures.cause clean)
