use Rattle.std.proofs.Common.{take}
use Rattle.reply_check.proofs.RivalLemmas.{AreSeen}
use Rattle.reply_check.proofs.read.have_rivals.Given as goal

-- the keys of the replies so far, no two of which are rivals
abbrev pub invariant-loop-reply : goal.invariant-loop-reply
invariant-loop-reply l = AreSeen l.seen (take l.reply-index l.replies)
