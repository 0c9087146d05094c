use Rattle.std.proofs.{Common.{Ok, Err, inr, refl}, lemmas.Result.{IfOk-weaker, IfErr-weaker}}
use Rattle.http_messages.specs.{Heads.{judge_head}, Views.{IsHeadRead, judgement_of}}
use Rattle.http_requests.specs.Requests.{AsksOperation, IsRequest}
use Rattle.http_requests.proofs.requests.read_request.Goals as goal

pub returns-in-Ok-clause-ok : goal.returns-in-Ok-clause-ok
unfolding IsRequest
returns-in-Ok-clause-ok c =
    let head : IsHeadRead c.args.text.now (Ok c.in-Ok.head) = rw c.in-Ok.is at c.requires in
    IfOk-weaker c.request_of.result _ _
    (λ request is. (judge_head head.1, inr (inr (head.0, head.1, head.2, refl)), rw head.3 (head.1, head.2, is)))
    (c.request_of.ensures.ok head.1 (head.6, head.4, head.5))

pub returns-in-Err-clause-ok : goal.returns-in-Err-clause-ok
unfolding IsRequest
returns-in-Err-clause-ok c =
    let refused : IsHeadRead c.args.text.now (Err c.in-Err.refused) = rw c.in-Err.is at c.requires in
    (judgement_of c.in-Err.refused, refused, refl)

pub returns-in-Ok-clause-memory : goal.returns-in-Ok-clause-memory
unfolding AsksOperation
returns-in-Ok-clause-memory c =
    let head : IsHeadRead c.args.text.now (Ok c.in-Ok.head) = rw c.in-Ok.is at c.requires in
    IfErr-weaker c.request_of.result _ _
    (λ error asked. (head.1, head.2, c.in-Ok.head.body_len, head.3, asked.0, asked.1))
    (c.request_of.ensures.memory head.1 (head.6, head.4, head.5))
