use Rattle.deploy_tables.proofs.{NeedLemmas.{AddsNeeds-append, IsUsed-open}, AllowedQueries.{QueriesBetween-answers_more}}
use Rattle.deploy_tables.proofs.selected_needs.used_by.Goals as goal

pub returns-in-Ok-push_used-clause-answers : goal.returns-in-Ok-push_used-clause-answers
returns-in-Ok-push_used-clause-answers g c =
    let q = c.args.question.now in
    QueriesBetween-answers_more _ _ c.in-Ok.value _ _ _ (λ s known listed. AddsNeeds-append _ _ _ _ c.in-Ok-push_used.ensures
    (IsUsed-open s q _ _ c.is_left_out.ensures c.args.contract c.if-is_left_out.false (c.latest_among-latest.ensures.answers s q.version.now listed) _ known)) c.in-Ok.ensures.answers
