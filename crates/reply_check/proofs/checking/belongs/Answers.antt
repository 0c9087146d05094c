use Rattle.reply_check.proofs.RivalLemmas.{bytes_eq-decides_key}
use Rattle.reply_check.proofs.checking.belongs.Goals as goal

pub returns : goal.returns
returns c =
    bytes_eq-decides_key c.args.reply.now.description c.description.result.now c.states_text.result.now c.args.interaction.now.description c.args.reply.now.states c.args.interaction.now.states c.is_for.result
    c.is_for.ensures.same c.description.ensures c.states_text.ensures.text c.is_for.ensures.sound c.states_text.ensures.sound
