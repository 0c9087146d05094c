use Rattle.std.proofs.Common.{rules, ◌≡◌, arith}
use Rattle.pact_rules.specs.{Lists.{OneOf}, declared.matching.MatchFault.TheVariants.{Pattern}}
use Rattle.reply_check.{specs.{Meeting.{HasPattern}, Recorded.{Reply}, Verdicts.{BelongsTo}}, proofs.VerdictLemmas.{BelongsTo-of_get_or}}
use Rattle.reply_check.proofs.checking.passes.Goals as goal

pub returns-in_err-answers-clause-pattern : goal.returns-in_err-answers-clause-pattern
returns-in_err-answers-clause-pattern c =
    let x = c.args.interaction.now in
    let found : c.in_err-answers.field-0.0 ≡ Pattern → OneOf (λ (r : Reply). BelongsTo x r) c.args.replies.now × HasPattern x
    = λ e. (BelongsTo-of_get_or x c.args.replies.now c.loop-reply.reply-index c.reply-item.result (omega arith) c.reply-item.is (c.in_err-answers.ensures.pattern e).0, (c.in_err-answers.ensures.pattern e).1) in
    search (rules, found)
