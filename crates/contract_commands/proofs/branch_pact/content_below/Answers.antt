use Rattle.std.{specs.Prelude.{ℕ, Option}, proofs.Common.{false, ◌≡◌, Ok, Some, None, ap, ◌∙◌, subst}}
use Rattle.sqlite.specs.Held.{state}
use Rattle.broker_tables.{specs.Failures.{LooksUpBetween}, proofs.QueryLemmas.{LooksUpBetween-from_both_held, LooksUpBetween-from_both}}
use Rattle.contract_commands.specs.{BranchPact.{IsNextBelow}, declared.branch_pact.BranchVersion.{BranchVersion}}
use Rattle.contract_commands.proofs.BranchLast.{NoneFrom-next_without_content, none_shown, found_shown}
use Rattle.contract_commands.proofs.branch_pact.content_below.Goals as goal

abbrev found_next : ℕ → Option ℕ → Option BranchVersion
found_next number content = Some (record { number = number; content = content })

pub loop-value-preserved : goal.loop-value-preserved
loop-value-preserved g c =
    let mid = state g.S.Store c.loop-value.conn in
    let new = state g.S.Store c.next_below.new.conn in
    let next = c.in-Some.next in
    let version : BranchVersion = record { number = next.number; content = None } in
    let has : next.content ≡ None = c.in-None-content.is in
    let is : c.in-Ok.value ≡ Some version = c.in-Some.is ∙ ap (λ (o : Option ℕ). found_next next.number o) has in
    LooksUpBetween-from_both (state g.S.Store c.args.conn.now) mid new c.loop-value.bound (Some version) next.number _ _ _
    (λ s none below start. NoneFrom-next_without_content s c.args.provider.now c.args.consumer.now c.args.branch.now c.loop-value.bound next.number (none start) below) c.loop-value.invariant
    (subst (λ (found : Option BranchVersion). LooksUpBetween false mid new (Ok found) (λ found s. IsNextBelow s c.args.provider.now c.args.consumer.now c.args.branch.now c.loop-value.bound found)) is c.in-Ok.ensures.read)

pub returns-in-Some-content : goal.returns-in-Some-content
returns-in-Some-content g c =
    let mid = state g.S.Store c.loop-value.conn in
    let new = state g.S.Store c.next_below.new.conn in
    let next = c.in-Some.next in
    let content = c.in-Some-content.content in
    let version : BranchVersion = record { number = next.number; content = Some content } in
    let has : next.content ≡ Some content = c.in-Some-content.is in
    let is : c.in-Ok.value ≡ Some version = c.in-Some.is ∙ ap (λ (o : Option ℕ). found_next next.number o) has in
    LooksUpBetween-from_both_held (state g.S.Store c.args.conn.now) mid new c.loop-value.bound (Some version) (Some content) _ _ _
    (λ s held none below start. found_shown s c.args.provider.now c.args.consumer.now c.args.branch.now new.now held c.loop-value.bound next.number content (none start) below) c.loop-value.invariant
    (subst (λ (found : Option BranchVersion). LooksUpBetween false mid new (Ok found) (λ found s. IsNextBelow s c.args.provider.now c.args.consumer.now c.args.branch.now c.loop-value.bound found)) is c.in-Ok.ensures.read)

pub returns-in-None : goal.returns-in-None
returns-in-None g c =
    let mid = state g.S.Store c.loop-value.conn in
    let new = state g.S.Store c.next_below.new.conn in
    LooksUpBetween-from_both_held (state g.S.Store c.args.conn.now) mid new c.loop-value.bound None None _ _ _
    (λ s held none next start. none_shown s c.args.provider.now c.args.consumer.now c.args.branch.now new.now held c.loop-value.bound (none start) next) c.loop-value.invariant
    (subst (λ (found : Option BranchVersion). LooksUpBetween false mid new (Ok found) (λ found s. IsNextBelow s c.args.provider.now c.args.consumer.now c.args.branch.now c.loop-value.bound found)) c.in-None.is c.in-Ok.ensures.read)
