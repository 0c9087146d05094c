use Rattle.std.{specs.List.{find as first}, proofs.Common.{◌≡◌, drop}}
use Rattle.table_access.specs.Columns.{text}
use Rattle.broker_core.specs.Text.{same_text}
use Rattle.content_store.proofs.contents.number_among.Given as goal

abbrev pub invariant-loop-row : goal.invariant-loop-row
invariant-loop-row l = first (λ row. same_text l.fn.body (text 1 row)) l.rows ≡ first (λ row. same_text l.fn.body (text 1 row)) (drop l.row-index l.rows)
