use Rattle.std.proofs.Common.{◌≡◌, take, map}
use Rattle.deploy_tables.specs.Matrix.{row_used}
use Rattle.deploy_tables.proofs.rows.rows_used.Given as goal

-- the rows so far
abbrev pub invariant-loop-consumer : goal.invariant-loop-consumer
invariant-loop-consumer l = l.rows.items ≡ map (row_used l.version l.latest) (take l.consumer-index l.consumers)
