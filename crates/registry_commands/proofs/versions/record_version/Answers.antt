use Rattle.std.proofs.Common.{[], ◌∷◌, codes, refl, ◌∙◌, sym, ap, arith}
use Rattle.sqlite.specs.Held.{state}
use Rattle.table_access.proofs.CallLemmas.{CallsBetween-then_call, EndsBy-weaken}
use Rattle.broker_core.specs.{State.{State}, Change.{with_branch}}
use Rattle.broker_tables.proofs.FailLemmas.{FailsByStoreTakingBetween-of_unless, FailsByStoreTakingBetween-then, FailsByStoreUnlessBetween-weaken}
use Rattle.broker_tables.proofs.RoomLemmas.{TakesRoom-trans}
use Rattle.registry_commands.proofs.versions.record_version.Goals as goal

pub returns-clause-changes : goal.returns-clause-changes
returns-clause-changes g c =
    let old = state g.S.Store c.args.conn.now in
    let mid = state g.S.Store c.ensure_version.new.conn in
    let new = state g.S.Store c.put_on_branch.new.conn in
    let v = c.args.version.now in
    let branch = c.args.branch.now in
    CallsBetween-then_call old mid new c.in-Ok.value c.put_on_branch.result _ _ _ (λ named_as u put s held t next.
    let it = named_as s held next.0 in
    let done = put it.0 it.2.0 t (v, it.1.1, it.1.2, next.1 ∙ ap (λ (w : State). with_branch w v branch) (sym it.1.0)) in
    (done.0, TakesRoom-trans 2 2 old.now mid.now new.now it.2.1 done.1))
    c.in-Ok.ensures.changes c.put_on_branch.ensures.changes

pub returns-clause-failure : goal.returns-clause-failure
returns-clause-failure g c =
    FailsByStoreTakingBetween-then _ _ _ _ _ _ 2 1 _ _ _ _ (λ s can t next. (with_branch t c.args.version.now c.args.branch.now, (c.args.version.now, next.1, next.2, refl)))
    c.in-Ok.ensures.changes c.put_on_branch.ensures.changes (FailsByStoreTakingBetween-of_unless _ _ _ _ (codes "branches" ∷ []) (refl, tt) 1 (omega arith) _ (FailsByStoreUnlessBetween-weaken _ _ _ _ _ (codes "branches" ∷ []) _ (λ long are. long are.1.1) c.put_on_branch.ensures.failure))

pub returns-in-Err-clause-failure : goal.returns-in-Err-clause-failure
returns-in-Err-clause-failure g c clean s here may room = EndsBy-weaken _ _ _ (λ long are. long (are.0, (are.1.0, (omega arith, tt)))) (c.in-Err.ensures.failure clean s here may tt)
