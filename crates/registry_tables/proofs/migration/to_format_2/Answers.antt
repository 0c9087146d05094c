use Rattle.broker_tables.{specs.{Format1.{added_tables, format_1}, Schema.{checked_results}}, proofs.Format1.{HoldsUnmarked-strict_environments}}
use Rattle.broker_tables.proofs.MakingFails.{FailsByStoreOverBetween-then}
use Rattle.registry_tables.{specs.Format.{CanBecomeFormat2}, proofs.Format1Rows.{KeepsFormat1Rows-after_Creates}}
use Rattle.sqlite.specs.Held.{state}
use Rattle.std.proofs.Common.{[], ◌∷◌}
use Rattle.table_access.proofs.CallLemmas.{CallsBetween-then_call}
use Rattle.registry_tables.proofs.migration.to_format_2.Goals as goal

pub returns-clause-makes : goal.returns-clause-makes
returns-clause-makes g c =
    let new = state g.S.Store c.set_format.new.conn in
    CallsBetween-then_call _ _ _ c.in-Ok.value c.set_format.result _ _ _
    (λ made _ sets s held. let it = sets s (HoldsUnmarked-strict_environments format_1 _ _ s held (made held.schema)) in (it.0, KeepsFormat1Rows-after_Creates _ _ new.now held.schema (made held.schema) it.1))
    c.in-Ok.ensures.makes c.set_format.ensures.sets

pub returns-clause-failure : goal.returns-clause-failure
returns-clause-failure g c =
    FailsByStoreOverBetween-then (CanBecomeFormat2 (checked_results ∷ [])) (CanBecomeFormat2 added_tables) _ _ _ c.in-Ok.value c.set_format.result _ _ c.in-Ok.ensures.makes c.set_format.ensures.sets c.set_format.ensures.failure
    (λ made it. (it.0, HoldsUnmarked-strict_environments format_1 _ _ it.0 it.1 (made it.1.schema), it.2))
