use Rattle.reply_check.proofs.SentLemmas.{by_name, by_name-found, by_name-missing}
use Rattle.std.proofs.{Common.{rules}, lemmas.Fn.{always_returns_same}}
use Rattle.reply_check.proofs.header.sent_as.Goals as goal

pub returns-in-Ok : goal.returns-in-Ok
returns-in-Ok c =
    by_name-found c.args.sent.now c.args.name.now c.in-Ok.place c.index-sent-place.result c.in-Ok.ensures.bound c.index-sent-place.is
    (c.in-Ok.ensures.position (by_name c.args.name.now) (always_returns_same _ _ _ (λ a r g called. search rules)))

pub returns-in-Err : goal.returns-in-Err
returns-in-Err c =
    by_name-missing c.args.sent.now c.args.name.now c.in-Err.field-0 c.requires (c.in-Err.ensures.position (by_name c.args.name.now) (always_returns_same _ _ _ (λ a r g called. search rules)))
