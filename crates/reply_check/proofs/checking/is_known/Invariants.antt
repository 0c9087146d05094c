use Rattle.std.proofs.Common.{◌↔◌, drop}
use Rattle.reply_check.specs.Verdicts.{IsKnown}
use Rattle.reply_check.proofs.checking.is_known.Given as goal

abbrev pub invariant-loop-interaction : goal.invariant-loop-interaction
invariant-loop-interaction l = IsKnown l.interactions l.reply ↔ IsKnown (drop l.interaction-index l.interactions) l.reply
