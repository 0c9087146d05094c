use Rattle.std.proofs.Common.{Err, subst}
use Rattle.pact_file.specs.Normal.{Normal}
use Rattle.command_facts.proofs.PatternRefusals.{IfOk-both}
use Rattle.command_facts.proofs.checking.compare.Goals as goal

pub returns-in-Err : goal.returns-in-Err
returns-in-Err c =
    IfOk-both c.unread.result _ _ _ (λ returned other reports. reports c.args.text.now c.args.replies.now (subst (λ text. Normal text (Err c.in-Err.fault)) c.as_bytes.ensures.value (c.in-Err.ensures.reading other)))
    c.unread.ensures.other c.unread.ensures.returned
