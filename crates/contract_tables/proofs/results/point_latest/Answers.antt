use Rattle.std.proofs.lemmas.Result.{IfErr-weaker}
use Rattle.table_access.proofs.CallLemmas.{CallsBetween-weaken, EndsBy-weaken}
use Rattle.contract_tables.proofs.ResultRows.{Executes-Points, EndsOnly-point}
use Rattle.contract_tables.proofs.results.point_latest.Goals as goal

pub returns-clause-points : goal.returns-clause-points
returns-clause-points g c =
    CallsBetween-weaken _ _ c.change.result _ _ (λ _ h broker. Executes-Points c.args.content c.args.version_number c.args.number _ _ broker h.0 h.1)
    (rw (c.params-to_sql.ensures, c.params-to_sql-2.ensures, c.params-to_sql-3.ensures) at c.change.ensures.leaves)

pub returns-clause-failure : goal.returns-clause-failure
returns-clause-failure g c =
    let said = rw (c.params-to_sql.ensures, c.params-to_sql-2.ensures, c.params-to_sql-3.ensures) at c.change.ensures.cause in
    λ clean unlimited broker allowed. IfErr-weaker c.change.result _ _ (λ fault why. EndsBy-weaken _ _ fault (λ long. long tt) (EndsOnly-point c.args.content c.args.version_number c.args.number _ _ broker allowed unlimited fault why)) (said clean)
