use Rattle.std.{specs.Prelude.{Contains, ◌↔◌}, proofs.Common.{take, Ok}}
use Rattle.broker_tables.specs.Failures.{LooksUp}
use Rattle.broker_core.specs.declared.answer.MatrixRow.{MatrixRow}
use Rattle.deploy_tables.specs.Matrix.{IsOfContract, IsOfSome}
use Rattle.deploy_tables.proofs.matrix_rows.of_contracts.Given as goal

-- the rows so far
abbrev pub invariant-loop-contract : goal.invariant-loop-contract
invariant-loop-contract g l = LooksUp g.S.Store l.fn.conn l.conn (Ok l.found) (λ found s. (x : MatrixRow) → Contains found.items x ↔ IsOfSome (λ c. IsOfContract s l.version c x) (take l.contract-index l.contracts))
