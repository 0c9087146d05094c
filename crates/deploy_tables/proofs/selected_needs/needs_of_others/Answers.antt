use Rattle.deploy_tables.{specs.Needs.{AreOfVersions}, proofs.{AllowedQueries.{LooksUpBetween-allowed}, NeedLemmas.{AddsNeeds-same, IsNeedOfOthers-found}}}
use Rattle.deploy_tables.proofs.MatrixLoop.{LooksUpBetween-then_failed, LooksUpBetween-both}
use Rattle.deploy_tables.proofs.selected_needs.needs_of_others.Goals as goal

pub returns : goal.returns
returns g c =
    LooksUpBetween-allowed _ _ _ c.in-Ok-latest_results.value c.used_by_each.result _ _ _
    (λ s. AreOfVersions s c.in-Ok.value.items) (λ s read contract has. let it = (read.0 contract).0 has in (it.0, it.2))
    (λ s read found here number. AddsNeeds-same _ _ _ _ (here (read.1 c.args.question.now.version.now number)) (IsNeedOfOthers-found s c.args.question.now _ read.0))
    (LooksUpBetween-both _ _ _ _ _ _ _ (rw c.as_str-provider.ensures at c.in-Ok.ensures.answers) c.in-Ok-latest_results.ensures.answers)
    (rw (c.deref.ensures.value, c.deref-2.ensures.value) at c.used_by_each.ensures.answers)
    (rw c.deref-2.ensures.value at c.used_by_each.ensures.failure)

pub returns-in-Err-latest_results : goal.returns-in-Err-latest_results
returns-in-Err-latest_results g c = LooksUpBetween-then_failed _ _ _ _ _ _ _ _ c.in-Ok.ensures.answers c.in-Err-latest_results.ensures.answers
