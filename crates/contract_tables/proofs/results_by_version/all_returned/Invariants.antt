use Rattle.std.{specs.{Prelude.{IsSorted}, Ordering.{nat_cmp}}, proofs.Common.{take}}
use Rattle.table_access.specs.Reading.{AreRead}
use Rattle.contract_tables.specs.ResultsByVersion.{IsVerifiedAs}
use Rattle.contract_tables.proofs.results_by_version.all_returned.Given as goal

-- the versions so far
abbrev pub invariant-loop-one : goal.invariant-loop-one
invariant-loop-one l = IsSorted nat_cmp l.checked → AreRead (IsVerifiedAs l.passes l.checked) (take l.one-index l.named) l.all.items
