use Rattle.std.proofs.Common.{arith}
use Rattle.reply_check.proofs.VerdictLemmas.{BelongsTo-of_get_or}
use Rattle.reply_check.proofs.checking.has_reply.Goals as goal

pub returns-then-belongs : goal.returns-then-belongs
returns-then-belongs c = λ is.
    BelongsTo-of_get_or c.args.interaction.now c.args.replies.now c.loop-reply.reply-index c.reply-item.result (omega arith) c.reply-item.is (c.belongs.ensures.0 c.if-belongs.true)
