use Rattle.std.{specs.{Prelude.{IsSorted}, Ordering.{nat_cmp}}, proofs.{Common.{inl, inr}, lemmas.Result.{IfErr-weaker}}}
use Rattle.table_access.specs.Reading.{AreRead}
use Rattle.broker_tables.proofs.QueryLemmas.{LooksUpBetween-then_failed, LooksUpBetween-both}
use Rattle.contract_tables.{specs.ResultsByVersion.{IsVerifiedAs}, proofs.QueryLemmas.{QueriesBetween-computed}}
use Rattle.contract_tables.proofs.ListedResults.{versions_returned, none_unlisted}
use Rattle.contract_tables.proofs.results_by_version.verified_versions.Goals as goal

-- the passes say something of each result that is named, so only an allocation fails
pub returns : goal.returns
returns g c =
    let p = c.args.provider.now in
    let content = c.args.content in
    let named = c.in-Ok.value.items in
    let passes = c.in-Ok-passes_for.value.items in
    let checked = c.in-Ok-checked_for.value.items in
    let read = LooksUpBetween-both _ _ _ _ _ _ _ (LooksUpBetween-both _ _ _ _ _ _ _ c.in-Ok.ensures c.in-Ok-passes_for.ensures) c.in-Ok-checked_for.ensures in
    let made = rw (c.deref.ensures.value, c.deref-2.ensures.value, c.deref-3.ensures.value) at c.all_returned.ensures in
    record {
      call = QueriesBetween-computed _ _ c.in-Ok-checked_for.value c.all_returned.result _ (λ all. IsSorted nat_cmp checked → AreRead (IsVerifiedAs passes checked) named all.items) _
          (λ s are all returned. versions_returned s content passes checked are.0.1.1 are.1.1 p named all.items are.0.0 (returned are.1.0)) made.all read.call;
      failure = λ clean s here.
          let are = (read.call.ok clean s here.held).0 in
          IfErr-weaker c.all_returned.result _ _ (λ fault why. elim why [
            | inl room ↦ inr room
            | inr silent ↦ absurd (none_unlisted s content passes checked are.0.1.1 are.1.1 p named are.0.0 silent.1)
          ]) (made.cause are.0.1.0);
    }

pub returns-in-Err-passes_for : goal.returns-in-Err-passes_for
returns-in-Err-passes_for g c = LooksUpBetween-then_failed _ _ _ _ _ _ _ _ c.in-Ok.ensures c.in-Err-passes_for.ensures

pub returns-in-Err-checked_for : goal.returns-in-Err-checked_for
returns-in-Err-checked_for g c =
    LooksUpBetween-then_failed _ _ _ _ _ _ _ _ (LooksUpBetween-both _ _ _ _ _ _ _ c.in-Ok.ensures c.in-Ok-passes_for.ensures) c.in-Err-checked_for.ensures
