-- The numbers of rows that a migration leaves.
use Rattle.std.proofs.Common.{◌≡◌, ◌∙◌, ℕ, List, arith, subst, sym}
use Rattle.sqlite.specs.{Change.{KeepsRows}, Effect.{Database}, Order.{Row}, Schema.{Schema}}
use Rattle.table_access.{specs.Statements.{MakesIndexes}, proofs.Indexing.{MakesIndexes-KeepsRows}}
use Rattle.broker_core.specs.State.{State as Broker}
use Rattle.broker_tables.specs.{Format1.{HoldsUnmarked, added_tables}, Holds.{format}, Room.{LeaveNumbers}, Schema.{all_indexes, all_tables, schema_of}}
use Rattle.registry_tables.specs.Format.{KeepsFormat1Rows}
use Rattle.broker_database.specs.Migration.{TakesNoFormat1Room}

-- if a table has the rows that it had, it has the numbers
LeaveNumbers-same_rows : (n : ℕ) {a b c : List Row} → c ≡ b → b ≡ a → LeaveNumbers n a → LeaveNumbers n c
LeaveNumbers-same_rows n two one = subst (LeaveNumbers n) (sym (two ∙ one))

-- the tables of format 1 keep their rows, and the new one has none
pub TakesNoFormat1Room-of_rows : (old mid new : Database) (s : Broker) → HoldsUnmarked format added_tables mid s → KeepsFormat1Rows old mid → MakesIndexes all_indexes mid new → TakesNoFormat1Room old new
TakesNoFormat1Room-of_rows old mid new s held same makes n room =
    let k : KeepsRows (schema_of all_tables).tables mid.trees new.trees = subst (λ (c : Schema). KeepsRows c.tables mid.trees new.trees) held.schema (MakesIndexes-KeepsRows all_indexes mid new makes) in
    let teams = LeaveNumbers-same_rows n k.1.0 (same.1.0 (omega arith)) room.0 in
    let pacticipants = LeaveNumbers-same_rows n k.1.1.0 (same.1.1.0 (omega arith)) room.1.0 in
    let branches = LeaveNumbers-same_rows n k.1.1.1.1.0 (same.1.1.1.1.0 (omega arith)) room.1.1.0 in
    let environments = LeaveNumbers-same_rows n k.1.1.1.1.1.0 (same.1.1.1.1.1.0 (omega arith)) room.1.1.1.0 in
    let strict = LeaveNumbers-same_rows n k.1.1.1.1.1.1.1.1.1.1.1.1.1.1.0 held.empty.1.0 (room.0.0, tt) in
    let grants = LeaveNumbers-same_rows n k.1.1.1.1.1.1.0 (same.1.1.1.1.1.1.0 (omega arith)) room.1.1.1.1.0 in
    let contracts = LeaveNumbers-same_rows n k.1.1.1.1.1.1.1.1.0 (same.1.1.1.1.1.1.1.1.0 (omega arith)) room.1.1.1.1.1.0 in
    let latest = LeaveNumbers-same_rows n k.1.1.1.1.1.1.1.1.1.1.0 (same.1.1.1.1.1.1.1.1.1.1.0 (omega arith)) room.1.1.1.1.1.1.0 in
    let deployed = LeaveNumbers-same_rows n k.1.1.1.1.1.1.1.1.1.1.1.0 (same.1.1.1.1.1.1.1.1.1.1.1.0 (omega arith)) room.1.1.1.1.1.1.1.0 in
    let released = LeaveNumbers-same_rows n k.1.1.1.1.1.1.1.1.1.1.1.1.0 (same.1.1.1.1.1.1.1.1.1.1.1.1.0 (omega arith)) room.1.1.1.1.1.1.1.1.0 in
    (teams, (pacticipants, (branches, (environments, (strict, (grants, (contracts, (latest, (deployed, (released, tt))))))))))
