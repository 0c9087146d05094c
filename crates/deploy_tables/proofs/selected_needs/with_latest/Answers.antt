use Rattle.deploy_tables.proofs.{NeedLemmas.{AddsNeeds-append, IsWithPartner-open}, AllowedQueries.{QueriesBetween-answers_more}}
use Rattle.deploy_tables.proofs.selected_needs.with_latest.Goals as goal

pub returns-in-Ok-push_need-clause-answers : goal.returns-in-Ok-push_need-clause-answers
returns-in-Ok-push_need-clause-answers g c =
    QueriesBetween-answers_more _ _ c.in-Ok.value _ _ _ (λ s known says. AddsNeeds-append _ _ _ _ (rw c.name_of.ensures at c.in-Ok-push_need.ensures)
    (IsWithPartner-open s c.args.question.now _ _ c.is_left_out.ensures c.args.contract.now c.args.partner c.if-is_left_out.false says _ known)) c.in-Ok.ensures.answers
