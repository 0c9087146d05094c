use Rattle.std.{specs.Prelude.{unwrap_or}, proofs.Common.{arith, ap, ◌∙◌}}
use Rattle.table_access.proofs.CallLemmas.{CallsBetween-weaken}
use Rattle.broker_tables.proofs.Alters.{IfErr-failure}
use Rattle.contract_tables.proofs.ResultRows.{Puts-result, result_put, result_ends}
use Rattle.contract_tables.proofs.results.put_result.Goals as goal

pub returns-clause-puts : goal.returns-clause-puts
returns-clause-puts g c =
    CallsBetween-weaken _ _ c.change.result _ _ (λ _ h broker. result_put c.args.number c.args.content c.args.provider.now c.args.version_number c.args.pass
    c.args.run.now _ _ (Puts-result _ _ _ _ _ _) broker h.0 h.1)
    (rw (c.params-to_sql-6.ensures, c.run_text.ensures.text ∙ ap (unwrap_or c.args.run.now) c.no_run-none.ensures, c.params-to_sql.ensures, c.params-to_sql-2.ensures) at
    (rw (c.params-to_sql-3.ensures, c.params-to_sql-4.ensures, c.params-to_sql-5.ensures) at c.change.ensures.leaves))

pub returns-clause-failure : goal.returns-clause-failure
returns-clause-failure g c =
    IfErr-failure c.change.result (result_ends c.args.number c.args.content c.args.provider.now c.args.version_number c.args.pass c.args.run.now _ _
    (Puts-result _ _ _ _ _ _) (omega (arith, c.ranges.number)) c.run_text.ensures.name)
    (rw (c.params-to_sql-6.ensures, c.run_text.ensures.text ∙ ap (unwrap_or c.args.run.now) c.no_run-none.ensures, c.params-to_sql.ensures, c.params-to_sql-2.ensures) at
    (rw (c.params-to_sql-3.ensures, c.params-to_sql-4.ensures, c.params-to_sql-5.ensures) at c.change.ensures.cause))
