use Rattle.std.proofs.Common.{inl, inr, refl, subst, sym, ◌+◌, take}
use Rattle.sqlite_rules.specs.Lists.{Has}
use Rattle.table_access.{specs.Reading.{AreRead}, proofs.ReadLemmas.{get_or-has, AreRead-one_turn}}
use Rattle.table_access.proofs.rows.read_all.Goals as goal

pub returns-in-Err-clause-cause : goal.returns-in-Err-clause-cause
returns-in-Err-clause-cause g c = (c.row-item.result, subst (Has c.args.rows.now) (sym c.row-item.is) (get_or-has c.args.rows.now c.loop-row.row-index c.row-item.result c.loop-row-test.true), inl c.in-Err.ensures.cause)

pub returns-in-Err-push-clause-cause : goal.returns-in-Err-push-clause-cause
returns-in-Err-push-clause-cause g c = (c.row-item.result, subst (Has c.args.rows.now) (sym c.row-item.is) (get_or-has c.args.rows.now c.loop-row.row-index c.row-item.result c.loop-row-test.true), inr (refl, (c.in-Ok.value, c.in-Ok.ensures.ok)))

pub loop-row-preserved : goal.loop-row-preserved
loop-row-preserved g c =
    subst (AreRead g.R.ReadRow.reads_as (take (c.loop-row.row-index + 1) c.args.rows.now)) (sym c.in-Ok-push.ensures.items)
    (AreRead-one_turn g.R.ReadRow.reads_as c.args.rows.now c.loop-row.items.items c.loop-row.row-index c.row-item.result c.in-Ok.value c.loop-row-test.true c.row-item.is c.loop-row.invariant c.in-Ok.ensures.ok)
