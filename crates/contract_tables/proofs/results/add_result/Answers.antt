use Rattle.std.proofs.Common.{◌≡◌, ◌+◌, ◌++◌, ◌∷◌, [], ◌∙◌, ap, refl, subst, length, Ok}
use Rattle.sqlite.specs.Held.{state}
use Rattle.broker_core.specs.State.{State as Broker}
use Rattle.broker_tables.{specs.{Holds.{Holds, HoldsAfter}, Room.{TakesRoom}}, proofs.QueryLemmas.{Holds-same_database}}
use Rattle.table_access.proofs.CallLemmas.{CallsBetween-then_call, CallsBetween-then_Ok}
use Rattle.contract_tables.specs.Verified.{AllowsResult, RecordsResult, result_for}
use Rattle.contract_tables.proofs.results.add_result.Goals as goal

pub returns-clause-changes : goal.returns-clause-changes
returns-clause-changes g c =
    let old = state g.S.Store c.args.conn.now in
    let mid = state g.S.Store c.result_count.new.conn in
    let new = state g.S.Store c.record_result.new.conn in
    let number = c.in-Some.number in
    let content = c.args.content in
    let provider = c.args.provider.now in
    let version = c.args.version_number in
    let run = c.args.run.now in
    CallsBetween-then_call old mid new c.in-Ok.value (Ok number) _ _ _ (λ one n two s held allowed.
    let read = one s held in
    let next : number ≡ length s.results + 1 = c.in-Some.ensures.some ∙ ap (λ k. k + 1) read.0 in
    let now : AllowsResult number content provider version run s = (allowed.0.0, allowed.0.1, allowed.0.2, next, allowed.0.4, allowed.0.5, allowed.0.6) in
    let it = two s (Holds-same_database old mid s read.1 held) now in
    (it.0, it.1, (it.2.0, subst (λ d. TakesRoom 2 d new.now) read.1 it.2.1)))
    c.in-Ok.ensures.call
    (CallsBetween-then_Ok mid new c.in-Ok-record_result.value number _
    (λ n. (s : Broker) → Holds mid.now s → AllowsResult number content provider version run s → (t : Broker) × RecordsResult n content provider version c.args.pass c.args.checked run s t × HoldsAfter 2 mid new t)
    (λ records s held now.
    let t : Broker = record s { results = s.results ++ result_for content now.0 c.args.pass c.args.checked run ∷ [] } in
    let recorded : RecordsResult number content provider version c.args.pass c.args.checked run s t = (now.0, now.1, now.2, now.3, refl) in
    (t, recorded, records s held t recorded)) c.in-Ok-record_result.ensures.changes)
