use Rattle.std.proofs.Common.{◌≡◌, take, map}
use Rattle.deploy_tables.specs.Matrix.{row_with}
use Rattle.deploy_tables.proofs.rows.each_with.Given as goal

-- the rows so far
abbrev pub invariant-loop-one : goal.invariant-loop-one
invariant-loop-one l = l.rows.items ≡ map (row_with l.version l.contract) (take l.one-index l.verified)
