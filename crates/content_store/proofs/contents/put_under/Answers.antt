use Rattle.table_access.proofs.CallLemmas.{CallsBetween-weaken}
use Rattle.broker_tables.proofs.Alters.{IfErr-failure}
use Rattle.content_store.proofs.ContentRows.{Executes-IsPut, EndsFrom-content}
use Rattle.content_store.proofs.contents.put_under.Goals as goal

pub returns-clause-call : goal.returns-clause-call
returns-clause-call g c =
    CallsBetween-weaken _ _ c.change.result _ _ (λ _ h by is texts held free next. Executes-IsPut by c.args.number c.args.digest.now c.args.body.now is _ _ h.0 texts held free next h.1)
    (rw (c.to_sql.ensures, c.to_sql-2.ensures) at c.change.ensures.leaves)

pub returns-clause-failure : goal.returns-clause-failure
returns-clause-failure g c = IfErr-failure c.change.result (EndsFrom-content c.args.number c.args.digest.now c.args.body.now _ _) (rw (c.to_sql.ensures, c.to_sql-2.ensures) at c.change.ensures.cause)
