use Rattle.std.{specs.Prelude.{Result, Err}, proofs.Common.{◌∙◌, ap, sym, subst}}
use Rattle.sqlite.specs.Held.{state}
use Rattle.broker_database.specs.{Calls.{Migrated}, Opening.{open_fault}, Transaction.{fault_of}, declared.opening.OpenFault.{OpenFault}}
use Rattle.broker_database.proofs.MigrationLemmas.{Migrated-found, Migrated-failed}
use Rattle.broker_database.proofs.migration.migrate.Goals as goal

pub returns-in-Ok : goal.returns-in-Ok
returns-in-Ok g c =
    let old = c.args.conn.now in
    let new = c.run.new.conn in
    subst (λ (r : Result (Unit {0}) OpenFault). Migrated (state g.S.Store) old new r) (sym c.judge_format.ensures) (Migrated-found (state g.S.Store) old new c.in-Ok.found c.in-Ok.ensures.migrates)

pub returns-in-Err : goal.returns-in-Err
returns-in-Err g c =
    let old = c.args.conn.now in
    let new = c.run.new.conn in
    let is = c.open_fault.ensures ∙ ap open_fault c.fault.ensures in
    subst (λ (fault : OpenFault). Migrated (state g.S.Store) old new (Err fault)) (sym is) (Migrated-failed (state g.S.Store) old new (fault_of c.in-Err.failure) c.in-Err.ensures.migrates)
