use Rattle.std.proofs.{Common.{arith}, lemmas.Result.{IfErr-weaker}}
use Rattle.table_access.proofs.CallLemmas.{CallsBetween-weaken, EndsBy-weaken}
use Rattle.contract_tables.proofs.ResultRows.{Executes-mark, EndsOnly-mark}
use Rattle.contract_tables.proofs.results.mark_checked.Goals as goal

pub returns-clause-puts : goal.returns-clause-puts
returns-clause-puts g c =
    CallsBetween-weaken _ _ c.change.result _ _ (λ _ h broker. Executes-mark c.args.number _ _ broker h.0 h.1) (rw c.params-to_sql.ensures at c.change.ensures.leaves)

pub returns-clause-failure : goal.returns-clause-failure
returns-clause-failure g c =
    let said = rw c.params-to_sql.ensures at c.change.ensures.cause in
    λ clean unlimited broker allowed. IfErr-weaker c.change.result _ _ (λ fault why. EndsBy-weaken _ _ fault (λ long. long tt) (EndsOnly-mark c.args.number _ _ broker (omega (arith, c.ranges.number)) allowed unlimited fault why)) (said clean)
