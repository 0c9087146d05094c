use Rattle.std.{specs.Prelude.{Contains, ◌↔◌}, proofs.Common.{take, Ok}}
use Rattle.broker_tables.specs.Failures.{LooksUp}
use Rattle.broker_core.specs.declared.answer.MatrixRow.{MatrixRow}
use Rattle.deploy_tables.specs.Matrix.{IsOfContent, IsOfSome}
use Rattle.deploy_tables.proofs.matrix_rows.of_contents.Given as goal

-- the rows so far
abbrev pub invariant-loop-latest : goal.invariant-loop-latest
invariant-loop-latest g l = LooksUp g.S.Store l.fn.conn l.conn (Ok l.found) (λ found s. (x : MatrixRow) → Contains found.items x ↔ IsOfSome (λ c. IsOfContent s l.version c x) (take l.latest-index l.results))
