use Rattle.std.proofs.Common.{length, take}
use Rattle.table_audit.specs.Audit.{EachOf}
use Rattle.table_audit.proofs.judging.first_breaking.Given as goal

-- each row so far keeps the rule
abbrev pub invariant-loop-row : goal.invariant-loop-row
invariant-loop-row g l = EachOf (take l.row-index l.rows) (g.R.RowRule.Keeps (length l.rows))
