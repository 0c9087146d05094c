use Rattle.std.proofs.{Common.{inl, inr}, lemmas.Result.{IfOk-weaker, IfErr-weaker, MatchResult-from_both}}
use Rattle.sqlite.specs.Held.{state}
use Rattle.table_access.proofs.Answered.{slice_get-has_first}
use Rattle.broker_tables.proofs.{QueryLemmas.{LooksUpBetween-read_result, LooksUpBetween-read_Err}, TableQuery.{reads, Shown-now_same, IsRefusedAs-explained}}
use Rattle.broker_tables.proofs.{NoVersion.{option_map-no_rows}, AnyTables.{IsRefusedAs-ends, Shown-leaves_all}}
use Rattle.contract_tables.{specs.Verified.{pass_of, pass_cells}, proofs.{VersionResults.{join, IsShown-join}, ReadableRows.{EachReads-pairs, NoneFor-join}}}
use Rattle.contract_tables.proofs.{AnyTexts.{AsksOf-pair_sql}, AnyLatest.{IsPassIn-found, NamesResult-unsound_row, IfOk-pair}}
use Rattle.contract_tables.proofs.lookups.latest_pass.Goals as goal

pub returns-clause-answers : goal.returns-clause-answers
returns-clause-answers g c =
    let asked = join c.args.content c.args.provider_version in
    LooksUpBetween-read_result _ _ c.in-Ok.value c.first_pass.result _ _
    (IfOk-weaker c.first_pass.result _ _ (λ found read shown s held. (
      λ v is. IsShown-join (λ r. r.result) (λ r. r.pass) c.args.content c.args.provider_version _ c.in-Ok.value.items found s v held is (reads asked _ _ s held _ shown).0 read,
      Shown-now_same asked _ _ held.broker _ shown,
    )) (rw c.deref.ensures.value at c.first_pass.ensures.ok))
    (λ none. IfErr-weaker c.first_pass.result _ _ (λ fault why. why.0) c.first_pass.ensures.cause)
    (λ s here shown. IfErr-weaker c.first_pass.result _ _
    (λ fault why. why.3 (EachReads-pairs asked _ s here.held here.readable _ (reads asked _ _ s here.held _ shown).0 why.1 (slice_get-has_first _ why.1 why.2)))
    (rw c.deref.ensures.value at c.first_pass.ensures.cause))
    (rw (c.params-to_sql.ensures, c.params-to_sql-2.ensures) at c.in-Ok.ensures.leaves)

pub returns-in-Err-clause-answers : goal.returns-in-Err-clause-answers
returns-in-Err-clause-answers g c =
    let said = rw (c.params-to_sql.ensures, c.params-to_sql-2.ensures) at c.in-Err.ensures in
    LooksUpBetween-read_Err _ _ c.in-Err.fault _ _ _ (IsRefusedAs-explained (join c.args.content c.args.provider_version) _ _) said.leaves said.cause

pub returns-clause-unknown : goal.returns-clause-unknown
returns-clause-unknown g c clean s held none =
    let shown = (rw (c.params-to_sql.ensures, c.params-to_sql-2.ensures) at c.in-Ok.ensures.leaves).ok clean in
    let nothing = NoneFor-join c.args.content c.args.provider_version _ s held none _ (reads (join c.args.content c.args.provider_version) _ _ s held _ shown).0 in
    IfOk-weaker c.first_pass.result _ _ (λ found read. option_map-no_rows (λ r. pass_of r.result r.pass) pass_cells c.in-Ok.value.items found nothing read)
    (rw c.deref.ensures.value at c.first_pass.ensures.ok)

pub returns-clause-mark : goal.returns-clause-mark
returns-clause-mark g c clean asked =
    let old = state g.S.Store c.args.conn.now in
    let new = state g.S.Store c.select.new.conn in
    let shown = (rw (c.params-to_sql.ensures, c.params-to_sql-2.ensures) at c.in-Ok.ensures.leaves).ok clean in
    let reads = rw c.deref.ensures.value at c.first_pass.ensures in
    MatchResult-from_both c.first_pass.result _ _
    (IfOk-weaker c.first_pass.result _ _ (λ found both. IsPassIn-found c.args.content c.args.provider_version old new asked.1 c.in-Ok.value.items shown found both.0 both.1)
    (IfOk-pair c.first_pass.result _ _ reads.ok reads.reads))
    (IfErr-weaker c.first_pass.result _ _ (λ fault why. inr (why.0, NamesResult-unsound_row c.args.content c.args.provider_version old new asked.1 c.in-Ok.value.items shown why.1 why.2 why.3)) reads.cause)

pub returns-in-Err-clause-mark : goal.returns-in-Err-clause-mark
returns-in-Err-clause-mark g c clean asked =
    let old = state g.S.Store c.args.conn.now in
    let new = state g.S.Store c.select.new.conn in
    inl (IsRefusedAs-ends old new (AsksOf-pair_sql old.now.schema asked.1 c.args.content c.args.provider_version) asked.0 c.in-Err.fault
    ((rw (c.params-to_sql.ensures, c.params-to_sql-2.ensures) at c.in-Err.ensures.cause) clean))

pub returns-clause-stays : goal.returns-clause-stays
returns-clause-stays g c clean asked =
    let old = state g.S.Store c.args.conn.now in
    let new = state g.S.Store c.select.new.conn in
    let shown = (rw (c.params-to_sql.ensures, c.params-to_sql-2.ensures) at c.in-Ok.ensures.leaves).ok clean in
    IfOk-weaker c.first_pass.result _ _ (λ found read. Shown-leaves_all old new (AsksOf-pair_sql old.now.schema asked.1 c.args.content c.args.provider_version) c.in-Ok.value.items shown) c.first_pass.ensures.ok
