use Rattle.std.proofs.Common.{◌+◌, take, sym, subst, rules}
use Rattle.table_access.{specs.Reading.{AreRead}, proofs.ReadLemmas.{AreRead-one_turn}}
use Rattle.contract_tables.specs.LatestRows.{IsMarkedOf}
use Rattle.contract_tables.proofs.version_results.with_marks.Goals as goal

pub loop-one-preserved : goal.loop-one-preserved
loop-one-preserved c =
    let passes = c.args.passes.now in
    subst (AreRead (IsMarkedOf c.args.checked.now) (take (c.loop-one.one-index + 1) passes)) (sym c.in_ok-push.ensures.items)
    (AreRead-one_turn (IsMarkedOf c.args.checked.now) passes c.loop-one.found.items c.loop-one.one-index _ c.with_its_mark.result c.loop-one-test.true (search rules) c.loop-one.invariant c.with_its_mark.ensures)
