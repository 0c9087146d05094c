use Rattle.std.proofs.{Common.{Ok, Err, sym, subst}, lemmas.Result.{IfErr-weaker, IfOk-weaker}}
use Rattle.sqlite.specs.{Effect.{Database}, Held.{state}}
use Rattle.table_access.{specs.Calls.{CallsStoreBetween}, proofs.CallLemmas.{CallsBetween-then_call, CallsBetween-then_result}}
use Rattle.broker_tables.{specs.{Format1.{HoldsFormat1}, Holds.{Holds}}, proofs.MakingFails.{FailsByStoreOverBetween-then}}
use Rattle.broker_database.specs.Migration.{Migrates, CanBeMigrated, TakesNoFormat1Room}
use Rattle.broker_database.proofs.migration.make_today.Goals as goal

pub returns-clause-upgrades : goal.returns-clause-upgrades
returns-clause-upgrades g c =
    let old = state g.S.Store c.args.conn.now in
    let mid = state g.S.Store c.make_exact.new.conn in
    let new = state g.S.Store c.add_all.new.conn in
    CallsBetween-then_result old new c.in-Ok-add_all.value c.confirm.result (λ _. Migrates old.now new.now) _
    (IfOk-weaker c.confirm.result _ _ (λ u is up. (up, is)) c.confirm.ensures.ok) (λ none. IfErr-weaker c.confirm.result _ _ (λ fault why. why.0) c.confirm.ensures.err)
    (CallsBetween-then_call old mid new c.in-Ok.value (Ok c.in-Ok-add_all.value) _ _ (λ _. Migrates old.now new.now)
    (λ exact _ up s held.
    let same = exact held.schema in
    subst (λ (db : Database). Holds new.now s × TakesNoFormat1Room db new.now) same (up s (subst (λ (db : Database). HoldsFormat1 db s) (sym same) held)))
    c.in-Ok.ensures.makes c.in-Ok-add_all.ensures.upgrades)

pub returns-clause-failure : goal.returns-clause-failure
returns-clause-failure g c clean inside unlimited can =
    let old = state g.S.Store c.args.conn.now in
    let mid = state g.S.Store c.make_exact.new.conn in
    let new = state g.S.Store c.add_all.new.conn in
    let brought : CallsStoreBetween old new (Ok c.in-Ok-add_all.value) (λ _. Migrates old.now new.now) =
    CallsBetween-then_call old mid new c.in-Ok.value (Ok c.in-Ok-add_all.value) _ _ (λ _. Migrates old.now new.now)
    (λ exact _ up s held.
    let same = exact held.schema in
    subst (λ (db : Database). Holds new.now s × TakesNoFormat1Room db new.now) same (up s (subst (λ (db : Database). HoldsFormat1 db s) (sym same) held)))
    c.in-Ok.ensures.makes c.in-Ok-add_all.ensures.upgrades in
    IfErr-weaker c.confirm.result _ _ (λ fault why. absurd (why.1 (brought.ok clean can.0 can.1).0.broker.schema)) c.confirm.ensures.err

pub returns-in-Err-add_all-clause-failure : goal.returns-in-Err-add_all-clause-failure
returns-in-Err-add_all-clause-failure g c =
    FailsByStoreOverBetween-then CanBeMigrated CanBeMigrated _ _ _ c.in-Ok.value (Err c.in-Err-add_all.fault) _ _ c.in-Ok.ensures.makes c.in-Err-add_all.ensures.upgrades c.in-Err-add_all.ensures.failure
    (λ exact can. subst CanBeMigrated (sym (exact can.1.schema)) can)
