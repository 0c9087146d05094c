use Rattle.reply_check.proofs.VerdictLemmas.{IsSoFar}
use Rattle.reply_check.proofs.checking.failing_indices.Given as goal

abbrev pub invariant-loop-index : goal.invariant-loop-index
invariant-loop-index l = IsSoFar l.interactions l.replies l.index l.failing.items
