use Rattle.std.proofs.Common.{◌==◌, sym, ap, ◌∙◌}
use Rattle.broker_tables.proofs.FailLemmas.{FailsByStoreFromBetween-after_query}
use Rattle.broker_core.specs.Text.{version}
use Rattle.deploy_tables.specs.Partners.{AreNumbersOfVersions, AreReleasedThere}
use Rattle.deploy_tables.proofs.AllowedQueries.{QueriesBetween-answers_more, QueriesBetween-answers_then}
use Rattle.deploy_tables.proofs.NeedLemmas.{AddsNeeds-append, AddsNeeds-same, IsNeedOfContract-with_some, IsNeedOfContract-with_none}
use Rattle.deploy_tables.proofs.selected_needs.needs_of_contract.Goals as goal

pub returns-in-Ok-push_need-clause-answers : goal.returns-in-Ok-push_need-clause-answers
returns-in-Ok-push_need-clause-answers g c =
    QueriesBetween-answers_more _ _ c.in-Ok.value _ _ _ (λ s are released. AddsNeeds-append _ _ _ _ c.in-Ok-push_need.ensures
    (IsNeedOfContract-with_none s c.args.question.now c.args.contract.now released.1 c.in-Ok.value.items (are released)
    (ap (λ n. n == 0) (sym c.in-Ok.value.ok.0) ∙ sym c.is_empty.ensures ∙ c.if-is_empty.true))) c.in-Ok.ensures.call

pub returns-clause-answers : goal.returns-clause-answers
returns-clause-answers g c =
    QueriesBetween-answers_then _ _ _ c.in-Ok.value c.with_partners.result _ _ _ (λ s are found here released. AddsNeeds-same _ _ _ _ here
    (IsNeedOfContract-with_some s c.args.question.now c.args.contract.now released.1 c.in-Ok.value.items (are released)
    (ap (λ n. n == 0) (sym c.in-Ok.value.ok.0) ∙ sym c.is_empty.ensures ∙ c.if-is_empty.false)))
    c.in-Ok.ensures.call (rw c.deref.ensures.value at c.with_partners.ensures.answers)

pub returns-clause-failure : goal.returns-clause-failure
returns-clause-failure g c =
    let e = c.args.question.now.environment.now in
    let there = c.in-Ok.value.items in
    FailsByStoreFromBetween-after_query _ _ _ c.in-Ok.value c.with_partners.result _ _ (λ s. AreReleasedThere s e c.args.released.now) (λ s. AreNumbersOfVersions s there)
    (λ s held released are n has. let it = (are released n).0 has in (version c.args.contract.now.provider it.0, it.2))
    c.in-Ok.ensures.call (rw c.deref.ensures.value at c.with_partners.ensures.answers) (rw c.deref.ensures.value at c.with_partners.ensures.failure)
