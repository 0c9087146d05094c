use Rattle.std.{specs.Prelude.{IsTrue, ◌↔◌}, proofs.Common.{Some, refl, inl, arith, subst}}
use Rattle.sqlite.specs.{Held.{state}, State.{HasCleanDisk}, Effect.{Database}}
use Rattle.broker_core.specs.{State.{latest_result}, declared.need.Latest.{Latest}}
use Rattle.broker_tables.proofs.{QueryLemmas.{LooksUpBetween-from_both}, AnyTables.{HasFailed-after_query, CanBeAsked-unchanged}}
use Rattle.contract_tables.specs.{Verified.{passed_of, passed_as}, LatestRows.{IsMarkedChecked}}
use Rattle.contract_tables.proofs.LastRow.{latest_result-result_with, option_map-with_mark}
use Rattle.contract_tables.proofs.lookups.latest_of.Goals as goal

pub returns-in-Ok-is_checked-clause-answers : goal.returns-in-Ok-is_checked-clause-answers
returns-in-Ok-is_checked-clause-answers g c =
    let found = c.in-Some.found in
    LooksUpBetween-from_both _ _ _ (Some found) c.in-Ok-is_checked.value (Some _) _ _ _
    (λ s one two v is. option_map-with_mark {B = Latest} s (latest_result s c.args.content v) passed_of (λ a checked. record { pass = a.1; checked = checked }) (λ a. a.0)
    (passed_as found.result found.pass) c.in-Ok-is_checked.value (λ e known. (latest_result-result_with s c.args.content v e known, refl)) (one v is) two)
    (rw c.in-Some.is at c.in-Ok.ensures.answers) c.in-Ok-is_checked.ensures.answers

pub returns-in-Ok-is_checked-clause-mark : goal.returns-in-Ok-is_checked-clause-mark
returns-in-Ok-is_checked-clause-mark g c clean asked =
    let old = state g.S.Store c.args.conn.now in
    let mid = state g.S.Store c.latest_pass.new.conn in
    let mid_clean : HasCleanDisk mid = omega (arith, c.in-Ok-is_checked.ensures.answers.call.survives.clean, clean) in
    let before = rw c.in-Some.is at c.in-Ok.ensures in
    let same = before.stays mid_clean asked in
    let returned = c.in-Ok-is_checked.ensures.mark clean (CanBeAsked-unchanged old mid same before.answers.call.survives.limit asked) in
    let found = c.in-Some.found in
    (found.result, before.mark mid_clean asked, subst (λ (db : Database). IsTrue c.in-Ok-is_checked.value ↔ IsMarkedChecked found.result db) same.0.now_is returned)

pub returns-in-None-clause-mark : goal.returns-in-None-clause-mark
returns-in-None-clause-mark g c clean asked = rw c.in-None.is at (c.in-Ok.ensures.mark clean asked)

pub returns-in-Err-is_checked-clause-mark : goal.returns-in-Err-is_checked-clause-mark
returns-in-Err-is_checked-clause-mark g c clean asked =
    let old = state g.S.Store c.args.conn.now in
    let mid = state g.S.Store c.latest_pass.new.conn in
    let new = state g.S.Store c.is_checked.new.conn in
    let mid_clean : HasCleanDisk mid = omega (arith, c.in-Err-is_checked.ensures.answers.call.survives.clean, clean) in
    let before = rw c.in-Some.is at c.in-Ok.ensures in
    let same = before.stays mid_clean asked in
    inl (HasFailed-after_query old mid new c.in-Err-is_checked.fault same before.answers.call.survives.counts
    (c.in-Err-is_checked.ensures.mark clean (CanBeAsked-unchanged old mid same before.answers.call.survives.limit asked)))
