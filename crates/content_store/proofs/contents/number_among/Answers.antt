use Rattle.std.proofs.Common.{subst, sym}
use Rattle.sqlite_rules.specs.Lists.{Has}
use Rattle.table_access.proofs.ReadLemmas.{get_or-has}
use Rattle.content_store.proofs.contents.number_among.Goals as goal

pub returns-in-Err-clause-cause : goal.returns-in-Err-clause-cause
returns-in-Err-clause-cause c = (c.in-Err.ensures.cause.0, (c.row-item.result, subst (Has c.args.rows.now) (sym c.row-item.is) (get_or-has c.args.rows.now c.loop-row.row-index c.row-item.result c.loop-row-test.true), λ both. c.in-Err.ensures.cause.1 both.1))

pub returns-in-Err-number_in-clause-cause : goal.returns-in-Err-number_in-clause-cause
returns-in-Err-number_in-clause-cause c = (c.in-Err-number_in.ensures.cause.0, (c.row-item.result, subst (Has c.args.rows.now) (sym c.row-item.is) (get_or-has c.args.rows.now c.loop-row.row-index c.row-item.result c.loop-row-test.true), λ both. c.in-Err-number_in.ensures.cause.1 both.0))
