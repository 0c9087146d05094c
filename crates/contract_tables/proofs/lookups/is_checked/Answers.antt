use Rattle.std.proofs.{Common.{sym, ◌∙◌, slice_get}, lemmas.Result.{IfOk-weaker, IfErr-weaker, MatchResult-from_both}}
use Rattle.sqlite.specs.Held.{state}
use Rattle.sqlite_keyed.proofs.SliceLemmas.{is_some-map}
use Rattle.table_access.specs.Columns.{whole_at}
use Rattle.broker_tables.proofs.{TableQuery.{LooksUpBetween-is_there}, AnyTables.{IsRefusedAs-ends}}
use Rattle.contract_tables.proofs.{ResultLookups.{checked, IsShown-checked}, AnyTexts.{AsksOf-checked_sql}, AnyLatest.{IsMarkedChecked-shown}}
use Rattle.contract_tables.proofs.lookups.is_checked.Goals as goal

pub returns-clause-answers : goal.returns-clause-answers
returns-clause-answers g c =
    let said = rw c.params-to_sql.ensures at c.has_row.ensures in
    LooksUpBetween-is_there (checked c.args.number) _ _ (λ s held rows h has is r known. is ∙ sym (is_some-map (whole_at 0) (slice_get rows 0)) ∙ IsShown-checked c.args.number _ rows s r held known h) said.leaves said.cause

pub returns-clause-mark : goal.returns-clause-mark
returns-clause-mark g c clean asked =
    let old = state g.S.Store c.args.conn.now in
    let new = state g.S.Store c.has_row.new.conn in
    let said = rw c.params-to_sql.ensures at c.has_row.ensures in
    MatchResult-from_both c.has_row.result _ _
    (IfOk-weaker c.has_row.result _ _ (λ has returned. IsMarkedChecked-shown c.args.number old new asked.1 returned.0 returned.1 has returned.2) (said.leaves.ok clean))
    (IfErr-weaker c.has_row.result _ _ (λ fault why. IsRefusedAs-ends old new (AsksOf-checked_sql old.now.schema asked.1 c.args.number) asked.0 fault why) (said.cause clean))
