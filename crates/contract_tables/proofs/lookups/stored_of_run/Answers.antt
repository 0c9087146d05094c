use Rattle.std.proofs.lemmas.Result.{IfOk-weaker, IfErr-weaker}
use Rattle.table_access.proofs.Answered.{slice_get-has_first}
use Rattle.broker_tables.proofs.{TableQuery.{reads, Shown-now_same, IsRefusedAs-explained}, QueryLemmas.{LooksUpBetween-read_result, LooksUpBetween-read_Err}}
use Rattle.contract_tables.proofs.{ResultLookups.{run, IsShown-result_of_run}, ReadableRows.{EachReads-run}}
use Rattle.contract_tables.proofs.lookups.stored_of_run.Goals as goal

pub returns : goal.returns
returns g c =
    let asked = run c.args.provider.now c.args.run.now in
    LooksUpBetween-read_result _ _ c.in-Ok.value c.first_result.result _ _
    (IfOk-weaker c.first_result.result _ _ (λ found read shown s held. (
      IsShown-result_of_run (λ r. r.number) (λ r. r.content) (λ r. r.provider_version) (λ r. r.pass) c.args.provider.now c.args.run.now c.is_name.ensures _ c.in-Ok.value.items s found held
          (reads asked _ _ s held _ shown).0 read,
      Shown-now_same asked _ _ held.broker _ shown,
    )) (rw c.deref.ensures.value at c.first_result.ensures.ok))
    (λ none. IfErr-weaker c.first_result.result _ _ (λ fault why. why.0) c.first_result.ensures.cause)
    (λ s here shown. IfErr-weaker c.first_result.result _ _
    (λ fault why. why.3 (EachReads-run c.args.provider.now c.args.run.now _ s here.held here.readable _ (reads asked _ _ s here.held _ shown).0 why.1 (slice_get-has_first _ why.1 why.2)))
    (rw c.deref.ensures.value at c.first_result.ensures.cause))
    (rw (c.params-to_sql.ensures, c.params-to_sql-2.ensures, c.as_str.ensures) at c.in-Ok.ensures.leaves)

pub returns-in-Err : goal.returns-in-Err
returns-in-Err g c =
    let said = rw (c.params-to_sql.ensures, c.params-to_sql-2.ensures, c.as_str.ensures) at c.in-Err.ensures in
    LooksUpBetween-read_Err _ _ c.in-Err.fault _ _ _ (IsRefusedAs-explained (run c.args.provider.now c.args.run.now) _ _) said.leaves said.cause
