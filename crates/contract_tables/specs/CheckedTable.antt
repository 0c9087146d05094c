-- How a database of format 1 gets the table of checked results (this project's own choice).
use Rattle.std.specs.Prelude.{[], ◌∷◌}
use Rattle.sqlite.specs.Change.{KeepsRows}
use Rattle.sqlite.specs.Effect.{Database}
use Rattle.broker_core.specs.State.{State as Broker}
use Rattle.broker_tables.specs.Format1.{HoldsFormat1, HoldsUnmarked, format_1, format_1_tables}
use Rattle.broker_tables.specs.Schema.{checked_results, schema_of}

-- the state that it holds is held with that table, which has no row, and each other table has the rows that it had
abbrev pub GetsCheckedTable : Database → Database → Type 0
GetsCheckedTable old new =
    (s : Broker) → HoldsFormat1 old s
    → HoldsUnmarked format_1 (checked_results ∷ []) new s
    × KeepsRows (schema_of format_1_tables).tables old.trees new.trees
