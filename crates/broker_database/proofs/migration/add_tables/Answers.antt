use Rattle.registry_tables.proofs.Format1Rows.{KeepsFormat1Rows-after_KeepsRows}
use Rattle.sqlite.specs.Held.{state}
use Rattle.table_access.proofs.CallLemmas.{CallsBetween-then_call}
use Rattle.broker_database.proofs.migration.add_tables.Goals as goal

pub returns-clause-adds : goal.returns-clause-adds
returns-clause-adds g c =
    let old = state g.S.Store c.args.conn.now in
    let mid = state g.S.Store c.to_format_2.new.conn in
    let new = state g.S.Store c.to_format_2-2.new.conn in
    CallsBetween-then_call _ _ _ tt c.to_format_2-2.result _ _ _ (λ one _ two s held. let first = one s held in let second = two s first.0 in (second.0, KeepsFormat1Rows-after_KeepsRows old.now mid.now new.now first.1 second.1)) c.in-Ok.ensures.makes c.to_format_2-2.ensures.makes
