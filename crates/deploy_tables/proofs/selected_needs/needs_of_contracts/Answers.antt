use Rattle.std.proofs.{Common.{arith, Err}, lemmas.List.{take_all}}
use Rattle.broker_tables.proofs.FailLemmas.{FailsByStoreFromBetween-after_query}
use Rattle.deploy_tables.{specs.Partners.{AreReleasedThere}, proofs.AllowedQueries.{QueriesBetween-answers_both, QueriesBetween-failed_after}}
use Rattle.deploy_tables.proofs.NeedLemmas.{AddsNeeds-take_next}
use Rattle.deploy_tables.proofs.selected_needs.needs_of_contracts.Goals as goal

pub loop-contract-preserved : goal.loop-contract-preserved
loop-contract-preserved g c =
    QueriesBetween-answers_both _ _ _ _ _ _ _ _ _ (λ s was here released. AddsNeeds-take_next _ _ _ _ _ _ _ c.loop-contract-test.true c.contract-item.is (was released) (here released))
    c.loop-contract.invariant c.in-Ok.ensures.answers

pub returns-clause-answers : goal.returns-clause-answers
returns-clause-answers g c = simp (take_all c.loop-contract.contract-index c.args.contracts.now (omega arith)) at c.loop-contract.invariant

pub returns-in-Err-clause-answers : goal.returns-in-Err-clause-answers
returns-in-Err-clause-answers g c = QueriesBetween-failed_after _ _ _ _ _ _ _ _ c.loop-contract.invariant c.in-Err.ensures.answers

pub returns-in-Err-clause-failure : goal.returns-in-Err-clause-failure
returns-in-Err-clause-failure g c =
    λ clean s here may. FailsByStoreFromBetween-after_query _ _ _ _ (Err c.in-Err.fault) _ _ (λ s. AreReleasedThere s c.args.question.now.environment.now c.args.released.now) _
    (λ s held released was. released)
    c.loop-contract.invariant c.in-Err.ensures.answers c.in-Err.ensures.failure clean s here may
