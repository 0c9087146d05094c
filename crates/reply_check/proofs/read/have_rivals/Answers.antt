use Rattle.std.proofs.Common.{arith}
use Rattle.reply_check.proofs.{Deciding.{IsTrue-true_iff}, RivalLemmas.{IsKeyOf, HasRivals-of_seen, AreSeen-insert}}
use Rattle.reply_check.proofs.read.have_rivals.Goals as goal

pub returns-then-not-branch : goal.returns-then-not-branch
returns-then-not-branch c =
    let l = c.loop-reply in
    let key : IsKeyOf c.reply-item.result (c.description.result, c.states_text.result) = record { description = c.description.ensures; states_text = c.states_text.ensures.text; sound = c.states_text.ensures.sound } in
    IsTrue-true_iff
    (HasRivals-of_seen c.args.replies.now l.reply-index c.reply-item.result (c.description.result, c.states_text.result) l.seen c.in_ok-insert.field-0 (omega arith) c.reply-item.is key c.in_ok-insert.ensures.added l.invariant
    c.if-not-branch.true)

pub loop-reply-preserved : goal.loop-reply-preserved
loop-reply-preserved c =
    let l = c.loop-reply in
    let key : IsKeyOf c.reply-item.result (c.description.result, c.states_text.result) = record { description = c.description.ensures; states_text = c.states_text.ensures.text; sound = c.states_text.ensures.sound } in
    AreSeen-insert c.args.replies.now l.reply-index c.reply-item.result (c.description.result, c.states_text.result) l.seen c.in_ok-insert.field-0 (omega arith) c.reply-item.is key c.in_ok-insert.ensures.added l.invariant
    c.insert.new.self c.if-not-branch.false c.in_ok-insert.ensures.updates
