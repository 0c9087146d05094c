use Rattle.std.proofs.{Common.{arith, Err}, lemmas.List.{get_or_default, take_all}}
use Rattle.table_access.proofs.{Members.{has_contains}, ReadLemmas.{get_or-has}}
use Rattle.broker_tables.proofs.FailLemmas.{FailsByStoreFromBetween-after_query}
use Rattle.deploy_tables.{specs.Partners.{AreNumbersOfVersions}, proofs.AllowedQueries.{QueriesBetween-answers_both, QueriesBetween-failed_after}}
use Rattle.deploy_tables.proofs.NeedLemmas.{AddsNeeds-take_next}
use Rattle.deploy_tables.proofs.selected_needs.with_partners.Goals as goal

pub loop-partner-preserved : goal.loop-partner-preserved
loop-partner-preserved g c =
    QueriesBetween-answers_both _ _ _ _ _ _ _ _ _ (λ s was here. AddsNeeds-take_next _ _ _ _ _ _ _ c.loop-partner-test.true (get_or_default _ _ _ _ c.loop-partner-test.true) was here)
    c.loop-partner.invariant c.in-Ok.ensures.answers

pub returns-clause-answers : goal.returns-clause-answers
returns-clause-answers g c = simp (take_all c.loop-partner.partner-index c.args.there.now (omega arith)) at c.loop-partner.invariant

pub returns-in-Err-clause-answers : goal.returns-in-Err-clause-answers
returns-in-Err-clause-answers g c = QueriesBetween-failed_after _ _ _ _ _ _ _ _ c.loop-partner.invariant c.in-Err.ensures.answers

pub returns-in-Err-clause-failure : goal.returns-in-Err-clause-failure
returns-in-Err-clause-failure g c =
    let there = c.args.there.now in
    λ clean s here may. FailsByStoreFromBetween-after_query _ _ _ _ (Err c.in-Err.fault) _ _ (λ s. AreNumbersOfVersions s there) _
    (λ s held each was. each _ (has_contains there _ (get_or-has there c.loop-partner.partner-index _ c.loop-partner-test.true)))
    c.loop-partner.invariant c.in-Err.ensures.answers c.in-Err.ensures.failure clean s here may
