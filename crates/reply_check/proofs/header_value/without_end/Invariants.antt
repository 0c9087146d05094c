use Rattle.std.proofs.Common.{◌≡◌, ◌≤◌, take, length}
use Rattle.reply_check.specs.HeaderValues.{without_end}
use Rattle.reply_check.proofs.header_value.without_end.Given as goal

abbrev pub invariant-loop-end : goal.invariant-loop-end
invariant-loop-end l = (l.end ≤ length l.value) × (without_end (take l.end l.value) ≡ without_end l.value)

abbrev pub decreases-loop-end : goal.decreases-loop-end
decreases-loop-end l = l.end
