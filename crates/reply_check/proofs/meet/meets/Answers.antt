use Rattle.std.proofs.Common.{option_map}
use Rattle.serde_json.specs.View.{view}
use Rattle.reply_check.proofs.{Deciding.{IsTrue-false_iff, IsTrue-false_refutes}, MeetLemmas.{Meets-lacks_headers, Meets-by_body}}
use Rattle.reply_check.proofs.meet.meets.Goals as goal

pub returns-then-not-branch-clause-value : goal.returns-then-not-branch-clause-value
returns-then-not-branch-clause-value c =
    IsTrue-false_iff (Meets-lacks_headers c.args.interaction.now c.args.reply.now c.rules-rules.result.now c.headers.result.now c.headers-2.result.now c.rules-rules.ensures c.headers.ensures c.headers-2.ensures
    (IsTrue-false_refutes c.in_ok-headers_meet.field-0 c.if-not-branch.true c.in_ok-headers_meet.ensures.value))

pub returns-clause-value : goal.returns-clause-value
returns-clause-value c =
    Meets-by_body c.args.interaction.now c.args.reply.now c.rules-rules.result.now c.headers.result.now c.headers-2.result.now c.rules-rules.ensures c.headers.ensures c.headers-2.ensures
    c.status.result c.status-2.result c.body_meets.result (option_map (λ t. view t.now) c.body.result) (option_map (λ t. view t.now) c.body-2.result)
    c.status.ensures c.status-2.ensures c.if-status.false (c.in_ok-headers_meet.ensures.value.0 c.if-not-branch.false) c.body.ensures c.body-2.ensures c.body_meets.ensures.value
