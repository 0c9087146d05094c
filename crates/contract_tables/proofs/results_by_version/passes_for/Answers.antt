use Rattle.std.proofs.{Common.{rules}, lemmas.List.Sorted.{answers_always}}
use Rattle.broker_tables.proofs.TableQuery.{FailsOnly, LooksUpBetween-list, FailsToRead-explained}
use Rattle.broker_tables.proofs.QueryLemmas.{LooksUpBetween-read_Err, LooksUpBetween-other_answer}
use Rattle.contract_tables.specs.VersionResults.{FailsAsLatest, ReadsAsLatest}
use Rattle.contract_tables.proofs.{ListedResults.{returned_passes, AgreeOnPasses-of_shown_rows, AgreeWith-permutation}, ReadableRows.{EachReads-pairs}}
use Rattle.contract_tables.proofs.results_by_version.passes_for.Goals as goal

refuses : FailsOnly FailsAsLatest ReadsAsLatest
refuses row fault why is = why.1

-- the closure gives a result's number
pub returns : goal.returns
returns g c =
    let said = rw c.params-to_sql.ensures at c.in-Ok.ensures in
    LooksUpBetween-other_answer _ _ c.in-Ok.value _ _ _
    (λ s agree. (
      c.sort_unstable_by_key.ensures.sorted (λ x. x.result) (answers_always _ _ _ (λ f a r g called. search rules)),
      AgreeWith-permutation _ _ _ _ s c.args.content _ _ c.sort_unstable_by_key.ensures.permutation agree,
    ))
    (LooksUpBetween-list (returned_passes c.args.content) _ _ refuses (λ s held rows h list are. AgreeOnPasses-of_shown_rows _ s held c.args.content rows list.items h are)
    (EachReads-pairs (returned_passes c.args.content) _) said.leaves said.cause)

pub returns-in-Err : goal.returns-in-Err
returns-in-Err g c =
    let said = rw c.params-to_sql.ensures at c.in-Err.ensures in
    LooksUpBetween-read_Err _ _ c.in-Err.fault _ _ _ (FailsToRead-explained (returned_passes c.args.content) _ _ refuses (EachReads-pairs (returned_passes c.args.content) _)) said.leaves said.cause
