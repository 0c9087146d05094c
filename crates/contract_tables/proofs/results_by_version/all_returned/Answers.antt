use Rattle.std.{specs.Prelude.{Contains}, proofs.Common.{◌+◌, inl, inr, get_or, take, sym, subst}}
use Rattle.table_access.{specs.Reading.{AreRead}, proofs.{Members.{has_contains}, ReadLemmas.{get_or-has, AreRead-one_turn}}}
use Rattle.contract_tables.specs.ResultsByVersion.{IsVerifiedAs}
use Rattle.contract_tables.proofs.results_by_version.all_returned.Goals as goal

pub loop-one-preserved : goal.loop-one-preserved
loop-one-preserved c up =
    let returned = IsVerifiedAs c.args.passes.now c.args.checked.now in
    let here = c.in-Ok.ensures.found in
    subst (AreRead returned (take (c.loop-one.one-index + 1) c.args.named.now)) (sym c.in-Ok-push.ensures.items)
    (AreRead-one_turn returned c.args.named.now c.loop-one.all.items c.loop-one.one-index c.one-item.result c.in-Ok.value c.loop-one-test.true c.one-item.is (c.loop-one.invariant up) (here.0, here.1, here.2 up))

pub returns-in-Err-clause-cause : goal.returns-in-Err-clause-cause
returns-in-Err-clause-cause c up =
    let xs = c.args.named.now in
    let at = c.loop-one.one-index in
    let x = c.one-item.result in
    let here : Contains xs x = subst (Contains xs) (sym c.one-item.is) (has_contains xs (get_or xs at x) (get_or-has xs at x c.loop-one-test.true)) in
    elim (c.in-Err.ensures.cause up) [ inl memory ↦ inl memory | inr named ↦ inr (named.0, (x, here, named.1)) ]
