use Rattle.broker_tables.proofs.TableQuery.{FailsOnly, LooksUpBetween-list, FailsToRead-explained}
use Rattle.broker_tables.proofs.QueryLemmas.{LooksUpBetween-read_Err, LooksUpBetween-other_answer}
use Rattle.table_access.specs.Reading.{ReportsNumber, IsNumberRow}
use Rattle.contract_tables.proofs.{ListedResults.{returned_marks, AgreeOnChecked-of_shown_rows, AgreeWith-permutation}, ReadableRows.{EachReads-returned_marks}}
use Rattle.contract_tables.proofs.results_by_version.checked_for.Goals as goal

refuses : FailsOnly ReportsNumber IsNumberRow
refuses row fault why is = why.1

pub returns : goal.returns
returns g c =
    let said = rw c.params-to_sql.ensures at c.in-Ok.ensures in
    LooksUpBetween-other_answer _ _ c.in-Ok.value _ _ _
    (λ s agree. (c.sort_unstable.ensures.sorted, AgreeWith-permutation _ _ _ _ s c.args.content _ _ c.sort_unstable.ensures.permutation agree))
    (LooksUpBetween-list (returned_marks c.args.content) _ _ refuses (λ s held rows h list are. AgreeOnChecked-of_shown_rows _ s held c.args.content rows list.items h are)
    (EachReads-returned_marks c.args.content _) said.leaves said.cause)

pub returns-in-Err : goal.returns-in-Err
returns-in-Err g c =
    let said = rw c.params-to_sql.ensures at c.in-Err.ensures in
    LooksUpBetween-read_Err _ _ c.in-Err.fault _ _ _ (FailsToRead-explained (returned_marks c.args.content) _ _ refuses (EachReads-returned_marks c.args.content _)) said.leaves said.cause
