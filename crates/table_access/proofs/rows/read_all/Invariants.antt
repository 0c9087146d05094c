use Rattle.std.proofs.Common.{take}
use Rattle.table_access.specs.Reading.{AreRead}
use Rattle.table_access.proofs.rows.read_all.Given as goal

abbrev pub invariant-loop-row : goal.invariant-loop-row
invariant-loop-row g l = AreRead g.R.ReadRow.reads_as (take l.row-index l.rows) l.items.items
