use Rattle.std.proofs.Common.{◌↔◌, drop}
use Rattle.reply_check.specs.Sent.{WereSent}
use Rattle.reply_check.proofs.header.headers_meet.Given as goal

abbrev pub invariant-loop-header : goal.invariant-loop-header
invariant-loop-header l = WereSent l.rules l.sent l.expected ↔ WereSent l.rules l.sent (drop l.header-index l.expected)
