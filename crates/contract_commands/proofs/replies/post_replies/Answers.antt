use Rattle.std.proofs.Common.{Some, subst}
use Rattle.broker_core.specs.declared.command.Command.TheVariants.{PostReplies}
use Rattle.command_facts.specs.{Readings.{ReadsReplies}, Performs.{CallersStep}}
use Rattle.contract_commands.proofs.{CheckLemmas.{CallersStep-replies_fault}, Unread.{PerformsBetween-unread}}
use Rattle.contract_commands.proofs.replies.post_replies.Goals as goal

pub returns-in-Err-clause-answers : goal.returns-in-Err-clause-answers
returns-in-Err-clause-answers g c =
    let body = c.args.body.now in
    PerformsBetween-unread _ c.in-Err.fault c.report_unread.result (CallersStep c.args.caller.now (PostReplies c.args.path.now c.args.report.now body)) c.report_unread.ensures
    (λ found is s. CallersStep-replies_fault s c.args.caller.now c.args.path.now c.args.report.now body found (subst (λ bytes. ReadsReplies bytes (Some found)) c.as_slice.ensures (c.in-Err.ensures.fault found is)))
