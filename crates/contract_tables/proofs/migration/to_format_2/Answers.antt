use Rattle.std.proofs.Common.{subst}
use Rattle.sqlite.specs.{Change.{KeepsRows}, Held.{state}, Schema.{Schema}}
use Rattle.broker_tables.{specs.Format1.{format_1}, proofs.Format1.{HoldsUnmarked-checked_results}}
use Rattle.table_access.proofs.CallLemmas.{CallsBetween-weaken}
use Rattle.contract_tables.proofs.migration.to_format_2.Goals as goal

pub returns-clause-makes : goal.returns-clause-makes
returns-clause-makes g c =
    let old = state g.S.Store c.args.conn.now in
    let new = state g.S.Store c.make_checked_results.new.conn in
    CallsBetween-weaken _ _ c.make_checked_results.result _ _
    (λ _ makes s held. let made = makes held.schema in (HoldsUnmarked-checked_results format_1 _ _ s held made, subst (λ (it : Schema). KeepsRows it.tables old.now.trees new.now.trees) held.schema made.others))
    c.make_checked_results.ensures.makes
