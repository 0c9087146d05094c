use Rattle.sqlite.specs.Held.{state}
use Rattle.broker_database.specs.{Migration.{CanBeMigrated, CanBeStoredAgain, StoresFormat1}, Opening.{OnlyIfRefused}, Transaction.{returned}}
use Rattle.broker_database.proofs.MakeLemmas.{MigratesOrNot-of_transaction, going_up, OnlyIfRefused-of_transaction, MigratesOrNot-unbegun, OnlyIfStoreFailed-of_refused}
use Rattle.broker_core.specs.State.{State as Broker}
use Rattle.broker_database.proofs.migration.run.Goals as goal

pub returns-clause-refused : goal.returns-clause-refused
returns-clause-refused g c s fit =
    let shown = state g.S.Store in
    OnlyIfRefused-of_transaction shown CanBeMigrated (λ db. StoresFormat1 db s) s c.args.conn.now c.begin.new.conn c.upgrade-found.new.conn c.conclude.new.conn _ _ c.conclude.result
    (going_up (shown c.args.conn.now) (shown c.begin.new.conn) (shown c.upgrade-found.new.conn) (shown c.conclude.new.conn) c.upgrade-found.result (returned c.conclude.result) c.is_format_1-keeps.result
    c.in-Ok.ensures.begun c.begin.ensures.survives c.upgrade-found.ensures.upgrades c.is_format_1-keeps.ensures c.conclude.ensures.concludes)
    c.upgrade-found.ensures.failure c.conclude.ensures.refused (λ db is. (s, is.tables, fit)) (λ found up is was. ((up.1 is).0 s was.tables).0)

pub returns-clause-migrates : goal.returns-clause-migrates
returns-clause-migrates g c =
    let shown = state g.S.Store in
    MigratesOrNot-of_transaction shown c.args.conn.now c.begin.new.conn c.upgrade-found.new.conn c.conclude.new.conn c.upgrade-found.result (returned c.conclude.result) c.is_format_1-keeps.result
    c.in-Ok.ensures.begun c.begin.ensures.survives c.upgrade-found.ensures.upgrades c.is_format_1-keeps.ensures c.conclude.ensures.concludes c.upgrade-found.ensures.cause
    (λ s fit. OnlyIfStoreFailed-of_refused shown (λ db. StoresFormat1 db s) s c.args.conn.now c.conclude.new.conn c.conclude.result (refusals s fit))
  where
    refusals : (s : Broker) → CanBeStoredAgain s → OnlyIfRefused (state g.S.Store) (λ db. StoresFormat1 db s) s c.args.conn.now c.conclude.new.conn c.conclude.result
    refusals = returns-clause-refused g c

pub returns-in-Err-clause-migrates : goal.returns-in-Err-clause-migrates
returns-in-Err-clause-migrates g c = MigratesOrNot-unbegun (state g.S.Store) c.args.conn.now c.begin.new.conn c.in-Err.fault c.in-Err.ensures.refused c.in-Err.ensures.cause c.begin.ensures.survives
