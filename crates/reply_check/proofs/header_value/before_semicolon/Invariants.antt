use Rattle.std.proofs.Common.{◌≡◌, ◌++◌, take, drop}
use Rattle.reply_check.specs.HeaderValues.{before_semicolon}
use Rattle.reply_check.proofs.header_value.before_semicolon.Given as goal

abbrev pub invariant-loop-index : goal.invariant-loop-index
invariant-loop-index l = take l.index l.value ++ before_semicolon (drop l.index l.value) ≡ before_semicolon l.value
