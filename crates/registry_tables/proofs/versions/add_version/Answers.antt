use Rattle.std.proofs.Common.{◌+◌, ap, subst, ◌∙◌, Ok}
use Rattle.sqlite.specs.Held.{state}
use Rattle.broker_core.specs.{Text.{version as version_named}, State.{State}}
use Rattle.broker_tables.{specs.{Holds.{Holds, HoldsAfter}, Room.{TakesRoom}}, proofs.QueryLemmas.{Holds-same_database}}
use Rattle.table_access.proofs.CallLemmas.{CallsBetween-then_call, CallsBetween-then_Ok}
use Rattle.registry_tables.specs.Registry.{AllowsVersionAs, AddsVersion}
use Rattle.registry_tables.proofs.versions.add_version.Goals as goal

pub returns-clause-changes : goal.returns-clause-changes
returns-clause-changes g c =
    let old = state g.S.Store c.args.conn.now in
    let mid = state g.S.Store c.version_count.new.conn in
    let new = state g.S.Store c.insert_version.new.conn in
    let v = version_named c.args.pacticipant.now c.args.version.now in
    CallsBetween-then_call old mid new c.in-Ok.value (Ok c.in-Some.number) _ _ _ (λ one number two s held allowed.
    let read = one s held in
    let it = two s (Holds-same_database old mid s read.1 held) (allowed, c.in-Some.ensures.some ∙ ap (λ k. k + 1) read.0) in
    (it.0, it.1, subst (λ d. Holds new.now it.0 × TakesRoom 2 d new.now) read.1 it.2))
    c.in-Ok.ensures.call
    (CallsBetween-then_Ok mid new c.in-Ok-insert_version.value c.in-Some.number _
    (λ number. (s : State) → Holds mid.now s → AllowsVersionAs c.in-Some.number v s → (t : State) × AddsVersion v number s t × HoldsAfter 2 mid new t) (λ adds. adds) c.in-Ok-insert_version.ensures.changes)
