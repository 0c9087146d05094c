use Rattle.std.proofs.Common.{Ok, ◌∷◌, [], codes, refl, arith, ◌≤◌, ◌^◌, ℕ, List, length, subst, sym}
use Rattle.sqlite.specs.Held.{state}
use Rattle.table_access.proofs.CallLemmas.{CallsBetween-weaken, CallsBetween-then_call}
use Rattle.broker_tables.proofs.FailLemmas.{FailsByStoreTakingBetween-of_unless, FailsByStoreTakingBetween-then, FailsByStoreUnlessBetween-weaken}
use Rattle.broker_tables.proofs.RoomLemmas.{TakesRoom-trans}
use Rattle.contract_commands.specs.{Numbering.{NamesAs}, Results.{reported_version}}
use Rattle.contract_commands.proofs.ResultLemmas.{RecordsResult-of_named, recorded-of_named, AllowsResult-of_report}
use Rattle.contract_commands.proofs.results.record_report.Goals as goal

pub returns-clause-answers : goal.returns-clause-answers
returns-clause-answers g c =
    let old = state g.S.Store c.args.conn.now in
    let mid = state g.S.Store c.ensure_named.new.conn in
    let new = state g.S.Store c.record_result.new.conn in
    let next = c.args.next in
    let number = c.in-Ok.value in
    CallsBetween-then_call old mid new number c.record_result.result _ _ _ (λ name u puts s held can.
    let it = name s held can.0 in
    let made = puts it.0 it.2.0 _ (RecordsResult-of_named s it.0 c.args.provider.now c.args.report.now c.args.found c.as_str.result.now next number c.as_str.ensures it.1 can.1) in
    (_, recorded-of_named s it.0 c.args.provider.now c.args.report.now c.args.found c.as_str.result.now next number c.as_str.ensures it.1, (made.0, TakesRoom-trans 2 2 old.now mid.now new.now it.2.1 made.1)))
    c.in-Ok.ensures.answers c.record_result.ensures.changes

pub returns-clause-failure : goal.returns-clause-failure
returns-clause-failure g c =
    let number = c.in-Ok.value in
    FailsByStoreTakingBetween-then _ _ _ _ number c.record_result.result 2 1 _ _ (NamesAs (reported_version c.args.provider.now c.args.report.now)) _
    (λ s can t names. AllowsResult-of_report s t c.args.provider.now c.args.report.now c.args.found c.as_str.result.now c.args.next number c.as_str.ensures names c.args.version can)
    (CallsBetween-weaken _ _ (Ok number) _ _ (λ n name s held can. name s held can.0.0) c.in-Ok.ensures.answers) c.record_result.ensures.changes (FailsByStoreTakingBetween-of_unless _ _ _ c.record_result.result (codes "latest" ∷ []) (refl, tt) 1 (omega arith) _ (FailsByStoreUnlessBetween-weaken _ _ _ _ c.record_result.result (codes "latest" ∷ []) _ (λ long are. long (subst (λ (t : List ℕ). length t ≤ 10 ^ 7) (sym c.as_str.ensures) are.0, (are.1.1.0, tt))) c.record_result.ensures.failure))
