use Rattle.std.proofs.{Common.{arith, Err}, lemmas.List.{get_or_default, take_all}}
use Rattle.table_access.proofs.{Members.{has_contains}, ReadLemmas.{get_or-has}}
use Rattle.broker_tables.proofs.FailLemmas.{FailsByStoreFromBetween-after_query}
use Rattle.deploy_tables.{specs.Needs.{AreOfVersions}, proofs.AllowedQueries.{QueriesBetween-answers_both, QueriesBetween-failed_after}}
use Rattle.deploy_tables.proofs.NeedLemmas.{AddsNeeds-take_next}
use Rattle.deploy_tables.proofs.selected_needs.used_by_each.Goals as goal

pub loop-contract-preserved : goal.loop-contract-preserved
loop-contract-preserved g c =
    QueriesBetween-answers_both _ _ _ _ _ _ _ _ _ (λ s was here listed. AddsNeeds-take_next _ _ _ _ _ _ _ c.loop-contract-test.true
    (get_or_default _ _ _ _ c.loop-contract-test.true) (was listed) (here listed))
    c.loop-contract.invariant c.in-Ok.ensures.answers

pub returns-clause-answers : goal.returns-clause-answers
returns-clause-answers g c = simp (take_all c.loop-contract.contract-index c.args.contracts.now (omega arith)) at c.loop-contract.invariant

pub returns-in-Err-clause-answers : goal.returns-in-Err-clause-answers
returns-in-Err-clause-answers g c = QueriesBetween-failed_after _ _ _ _ _ _ _ _ c.loop-contract.invariant c.in-Err.ensures.answers

pub returns-in-Err-clause-failure : goal.returns-in-Err-clause-failure
returns-in-Err-clause-failure g c =
    let contracts = c.args.contracts.now in
    λ clean s here may. FailsByStoreFromBetween-after_query _ _ _ _ (Err c.in-Err.fault) _ _ (λ s. AreOfVersions s contracts) _
    (λ s held each was. each _ (has_contains contracts _ (get_or-has contracts c.loop-contract.contract-index _ c.loop-contract-test.true)))
    c.loop-contract.invariant c.in-Err.ensures.answers c.in-Err.ensures.failure clean s here may
