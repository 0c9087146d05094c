use Rattle.std.proofs.Common.{[], Err, ◌≡◌, ◌+◌, ap, sym, ◌∙◌, subst, ◌≤◌, ◌^◌, ℕ, List, length}
use Rattle.sqlite.specs.Held.{state}
use Rattle.table_access.proofs.CallLemmas.{CallsBetween-then_Ok}
use Rattle.broker_core.specs.{declared.command.Version.{Version}, State.{State}, Text.{version as version_named}}
use Rattle.broker_tables.{specs.Holds.{HoldsAfter}, proofs.FailLemmas.{FailsByStoreUnlessBetween-weaken}}
use Rattle.registry_tables.specs.Registry.{AllowsVersionAs, AddsVersion}
use Rattle.registry_commands.proofs.versions.add_after.Goals as goal

pub returns-clause-changes : goal.returns-clause-changes
returns-clause-changes g c =
    let old = state g.S.Store c.args.conn.now in
    let new = state g.S.Store c.insert_version.new.conn in
    let number = c.in-Some.number in
    let same : version_named c.as_str.result.now c.as_str-2.result.now ≡ c.args.version.now = λ i. version_named (c.as_str.ensures i) (c.as_str-2.ensures i) in
    CallsBetween-then_Ok _ _ _ number _ _ (λ adds s held h.
    subst (λ (v : Version). AllowsVersionAs number v s → (t : State) × AddsVersion v number s t × HoldsAfter 2 old new t) same (adds s held)
    (h.0, c.in-Some.ensures.some ∙ ap (λ k. k + 1) h.1)) c.in-Ok.ensures.changes

pub returns-in-Err-clause-failure : goal.returns-in-Err-clause-failure
returns-in-Err-clause-failure g c clean s here may =
    let same : version_named c.as_str.result.now c.as_str-2.result.now ≡ c.args.version.now = λ i. version_named (c.as_str.ensures i) (c.as_str-2.ensures i) in
    FailsByStoreUnlessBetween-weaken {A = Unit {0}} _ _ _ _ (Err c.in-Err.fault) [] _ (λ long are. long (subst (λ (t : List ℕ). length t ≤ 10 ^ 7) (sym c.as_str.ensures) are.0, (subst (λ (t : List ℕ). length t ≤ 10 ^ 7) (sym c.as_str-2.ensures) are.1.0, tt))) c.in-Err.ensures.failure clean s here (subst (λ (v : Version). AllowsVersionAs c.in-Some.number v s) (sym same) (may.0, c.in-Some.ensures.some ∙ ap (λ k. k + 1) may.1))
