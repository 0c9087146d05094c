use Rattle.std.proofs.Common.{◌≡◌, inl, inr, subst, sym, Some, Ok, Err}
use Rattle.sqlite.specs.{Effect.{Database}, Held.{state}}
use Rattle.table_access.proofs.CallLemmas.{CallsBetween-then_call, CallsBetween-then_Ok}
use Rattle.broker_tables.{specs.Schema.{broker_schema}, proofs.MakingFails.{FailsByStoreOverBetween-then}}
use Rattle.broker_database.{specs.Migration.{Migrates, CanBeMigrated, FindsFormat1Alone}, proofs.MigrationLemmas.{HoldsFormat1-has_format}}
use Rattle.broker_database.proofs.migration.upgrade.Goals as goal

pub returns-in-Ok-make_today-clause-upgrades : goal.returns-in-Ok-make_today-clause-upgrades
returns-in-Ok-make_today-clause-upgrades g c =
    let old = state g.S.Store c.args.conn.now in
    let new = state g.S.Store c.make_today.new.conn in
    let is : c.in-Ok.value ≡ Some 1 = cc in
    CallsBetween-then_Ok old new c.in-Ok-make_today.value (Some 1) (λ _. FindsFormat1Alone old.now (Some 1) × Migrates old.now new.now × (new.now.schema ≡ broker_schema)) _ (λ it. (it.0, λ _. (it.1, it.2)))
    (CallsBetween-then_call old _ new c.in-Ok.value (Ok c.in-Ok-make_today.value) _ _ (λ _. FindsFormat1Alone old.now (Some 1) × Migrates old.now new.now × (new.now.schema ≡ broker_schema))
    (λ found _ up. (subst (FindsFormat1Alone old.now) is found.0, subst (λ (db : Database). Migrates db new.now) found.1 up.0, up.1)) c.in-Ok.ensures.finds c.in-Ok-make_today.ensures.upgrades)

pub returns-in-Err-clause-failure : goal.returns-in-Err-clause-failure
returns-in-Err-clause-failure g c clean inside unlimited it =
    elim (c.in-Err.ensures.cause clean unlimited) [ inl failed ↦ failed | inr silent ↦ absurd (HoldsFormat1-has_format _ it.0 it.1 silent.1) ]

pub returns-in-Err-make_today-clause-failure : goal.returns-in-Err-make_today-clause-failure
returns-in-Err-make_today-clause-failure g c =
    FailsByStoreOverBetween-then CanBeMigrated CanBeMigrated _ _ _ c.in-Ok.value (Err c.in-Err-make_today.fault) _ _ c.in-Ok.ensures.finds c.in-Err-make_today.ensures.upgrades c.in-Err-make_today.ensures.failure
    (λ found it. subst CanBeMigrated (sym found.1) it)
