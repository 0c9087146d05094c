use Rattle.std.proofs.Common.{◌↔◌, drop}
use Rattle.reply_check.specs.Verdicts.{Passes}
use Rattle.reply_check.proofs.checking.passes.Given as goal

abbrev pub invariant-loop-reply : goal.invariant-loop-reply
invariant-loop-reply l = Passes l.replies l.interaction ↔ Passes (drop l.reply-index l.replies) l.interaction
