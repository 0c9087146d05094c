use Rattle.std.proofs.Common.{Ok}
use Rattle.table_audit.{specs.Shown.{Tries}, proofs.TriedLemmas.{ObeyedBefore, all_rules}}
use Rattle.table_audit.proofs.auditing.first_broken.Given as goal

-- each rule so far is obeyed
abbrev pub invariant-loop-rule : goal.invariant-loop-rule
invariant-loop-rule g l = Tries g.S.Store l.fn.conn l.conn (Ok l.rule-index) (ObeyedBefore all_rules)
