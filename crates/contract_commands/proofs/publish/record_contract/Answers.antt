use Rattle.std.proofs.Common.{Ok, ◌∷◌, [], codes, refl, arith, ◌≤◌, ◌^◌, ℕ, List, length, subst, sym}
use Rattle.sqlite.specs.Held.{state}
use Rattle.table_access.proofs.CallLemmas.{CallsBetween-weaken, CallsBetween-then_call, EndsBy-weaken}
use Rattle.broker_core.specs.Request.{consumer_version}
use Rattle.broker_tables.proofs.FailLemmas.{FailsByStoreTakingBetween-of_unless, FailsByStoreTakingBetween-then, FailsByStoreUnlessBetween-weaken}
use Rattle.broker_tables.proofs.RoomLemmas.{TakesRoom-trans}
use Rattle.contract_commands.{specs.{Numbering.{NamesAs}, Pacts.{with_contract}}, proofs.PactLemmas.{AddsContract-with_contract}}
use Rattle.contract_commands.proofs.publish.record_contract.Goals as goal

pub returns-clause-answers : goal.returns-clause-answers
returns-clause-answers g c =
    let old = state g.S.Store c.args.conn.now in
    let mid = state g.S.Store c.ensure_named.new.conn in
    let new = state g.S.Store c.add_contract.new.conn in
    let path = c.args.path.now in
    let v = consumer_version path in
    let content = c.args.content in
    let number = c.in-Ok.value in
    CallsBetween-then_call old mid new number c.add_contract.result _ _ _ (λ name u add s held can.
    let it = name s held can.0.0 in
    let provider = c.as_str.result.now in
    let to = with_contract it.0 v provider content in
    let made = add it.0 it.2.0 to (AddsContract-with_contract s it.0 path provider c.args.version number content c.as_str.ensures can it.1) in
    (to, λ i. with_contract (it.1.0 i) v (c.as_str.ensures i) content, (made.0, TakesRoom-trans 2 2 old.now mid.now new.now it.2.1 made.1)))
    c.in-Ok.ensures.answers c.add_contract.ensures.changes

pub returns-clause-failure : goal.returns-clause-failure
returns-clause-failure g c =
    let number = c.in-Ok.value in
    let content = c.args.content in
    FailsByStoreTakingBetween-then _ _ _ _ number c.add_contract.result 2 1 _ _ (NamesAs (consumer_version c.args.path.now)) _ (λ s can t names. (_, AddsContract-with_contract s t c.args.path.now c.as_str.result.now c.args.version number content c.as_str.ensures can names))
    (CallsBetween-weaken _ _ (Ok number) _ _ (λ n name s held can. name s held can.0.0) c.in-Ok.ensures.answers) c.add_contract.ensures.changes (FailsByStoreTakingBetween-of_unless _ _ _ c.add_contract.result (codes "contracts" ∷ []) (refl, tt) 1 (omega arith) _ (FailsByStoreUnlessBetween-weaken _ _ _ _ c.add_contract.result (codes "contracts" ∷ []) _ (λ long are. long (subst (λ (t : List ℕ). length t ≤ 10 ^ 7) (sym c.as_str.ensures) are.1.1.0, tt)) c.add_contract.ensures.failure))

pub returns-in-Err-clause-failure : goal.returns-in-Err-clause-failure
returns-in-Err-clause-failure g c clean s here can room = EndsBy-weaken _ _ _ (λ long are. long (are.0, (are.1.0, tt))) (c.in-Err.ensures.failure clean s here can.0.0 tt)
