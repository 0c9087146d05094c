use Rattle.std.proofs.Common.{refl}
use Rattle.contract_tables.specs.Listings.{contract_cmp}
use Rattle.deploy_tables.{specs.{Needs.{IsOwnContract, IsNeedOfContract}, Partners.{AreReleasedThere}}, proofs.AllowedQueries.{LooksUpBetween-allowed}}
use Rattle.deploy_tables.proofs.{MatrixLemmas.{IsOfSome-listed}, MatrixLoop.{LooksUpBetween-then_failed, LooksUpBetween-both}, NeedLemmas.{AddsNeeds-same}}
use Rattle.deploy_tables.proofs.selected_needs.own_needs.Goals as goal

pub returns-clause-answers : goal.returns-clause-answers
returns-clause-answers g c =
    let q = c.args.question.now in
    LooksUpBetween-allowed _ _ _ c.in-Ok-contracts_of.value c.needs_of_contracts.result _ _ _
    (λ s. AreReleasedThere s q.environment.now c.in-Ok.value.items) (λ s read. read.0) (λ s read found here. (
      read.0.1,
      λ number. AddsNeeds-same _ _ _ _ (here read.0)
          (λ x. IsOfSome-listed (λ d. IsNeedOfContract s q d x) (IsOwnContract s q.version.now) contract_cmp _ _ (read.1 q.version.now number) refl _ (λ some. some, λ some. some)),
    )) (LooksUpBetween-both _ _ _ _ _ _ _ c.in-Ok.ensures.answers c.in-Ok-contracts_of.ensures.answers)
    (rw (c.deref.ensures.value, c.deref-2.ensures.value) at c.needs_of_contracts.ensures.answers)
    (rw c.deref.ensures.value at c.needs_of_contracts.ensures.failure)

pub returns-in-Err-contracts_of-clause-answers : goal.returns-in-Err-contracts_of-clause-answers
returns-in-Err-contracts_of-clause-answers g c = LooksUpBetween-then_failed _ _ _ _ _ _ _ _ c.in-Ok.ensures.answers c.in-Err-contracts_of.ensures.answers
