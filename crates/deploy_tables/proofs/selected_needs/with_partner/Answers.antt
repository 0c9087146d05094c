use Rattle.broker_tables.proofs.FailLemmas.{FailsByStoreFromBetween-after_query}
use Rattle.deploy_tables.{specs.Releases.{IsVersion}, proofs.AllowedQueries.{QueriesBetween-answers_then}}
use Rattle.deploy_tables.proofs.selected_needs.with_partner.Goals as goal

pub returns-clause-answers : goal.returns-clause-answers
returns-clause-answers g c =
    QueriesBetween-answers_then _ _ _ c.in-Ok.value c.with_latest.result _ _ _ (λ s says found here. here says) c.in-Ok.ensures.answers.call c.with_latest.ensures.answers

pub returns-clause-failure : goal.returns-clause-failure
returns-clause-failure g c =
    let there = IsVersion c.args.partner in
    FailsByStoreFromBetween-after_query _ _ _ c.in-Ok.value c.with_latest.result _ _ there there (λ s held may says. may)
    c.in-Ok.ensures.answers.call c.with_latest.ensures.answers c.with_latest.ensures.failure
