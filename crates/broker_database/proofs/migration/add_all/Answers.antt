use Rattle.broker_database.{specs.Migration.{CanBeMigrated}, proofs.Format1Room.{TakesNoFormat1Room-of_rows}}
use Rattle.broker_tables.specs.{Holds.{format}, Making.{HasShortKeys}, Schema.{all_tables, schema_of}}
use Rattle.broker_tables.proofs.{Format1.{HoldsUnmarked-Holds, HoldsUnmarked-HasShortKeys}, MakingFails.{FailsByStoreOverBetween-then}}
use Rattle.sqlite.specs.Held.{state}
use Rattle.std.proofs.Common.{◌≡◌}
use Rattle.table_access.proofs.CallLemmas.{CallsBetween-then_call}
use Rattle.broker_database.proofs.migration.add_all.Goals as goal

pub returns-clause-upgrades : goal.returns-clause-upgrades
returns-clause-upgrades g c =
    let old = state g.S.Store c.args.conn.now in
    let mid = state g.S.Store c.add_tables.new.conn in
    let new = state g.S.Store c.make_indexes.new.conn in
    CallsBetween-then_call _ _ _ tt c.make_indexes.result _ _ _
    (λ has _ makes s held. let before = has s held in let made = makes before.0.schema in (HoldsUnmarked-Holds _ _ s before.0 made, TakesNoFormat1Room-of_rows old.now mid.now new.now s before.0 before.1 made))
    c.in-Ok.ensures.adds c.make_indexes.ensures.makes

pub returns-clause-failure : goal.returns-clause-failure
returns-clause-failure g c =
    FailsByStoreOverBetween-then CanBeMigrated (λ db. (db.schema ≡ schema_of all_tables) × HasShortKeys db) _ _ _ tt c.make_indexes.result _ _ c.in-Ok.ensures.adds c.make_indexes.ensures.makes c.make_indexes.ensures.failure
    (λ has it. let before = (has it.0 it.1).0 in (before.schema, HoldsUnmarked-HasShortKeys format _ it.0 it.2.0 before))
