use Rattle.std.proofs.Common.{take}
use Rattle.table_access.specs.Reading.{AreRead}
use Rattle.contract_tables.specs.LatestRows.{IsMarkedOf}
use Rattle.contract_tables.proofs.version_results.with_marks.Given as goal

-- what the results say so far
abbrev pub invariant-loop-one : goal.invariant-loop-one
invariant-loop-one l = AreRead (IsMarkedOf l.checked) (take l.one-index l.passes) l.found.items
