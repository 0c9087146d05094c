use Rattle.std.proofs.{Common.{◌≡◌, refl, sym, ap, subst, ◌∙◌, Some, true, false, Ok, arith}, lemmas.Result.{IfErr-weaker}}
use Rattle.sqlite.specs.{State.{HasCleanDisk}, Held.{state}}
use Rattle.broker_core.specs.{declared.command.Marks.{Marks}, Text.{put_at, same_text}, State.{State}}
use Rattle.table_access.proofs.CallLemmas.{CallsBetween-weaken, CallsBetween-then_call, EndsBy-later_call}
use Rattle.broker_tables.{specs.{Holds.{HoldsAfter}, Room.{LeaveNumbers}, ChangeRefusals.{HoldsOpen}}, proofs.RoomLemmas.{TakesRoom-more, TakesRoom-trans}}
use Rattle.registry_tables.{specs.Registry.{marks}, proofs.EnvironmentRows.{put_at-environment_twice, put_at-same_key}}
use Rattle.registry_tables.proofs.environments.add_environment.Goals as goal

pub returns-then-strict-clause-changes : goal.returns-then-strict-clause-changes
returns-then-strict-clause-changes g c =
    let old = state g.S.Store c.args.conn.now in
    let mid = state g.S.Store c.put_environment.new.conn in
    let new = state g.S.Store c.put_strict.new.conn in
    let e = c.args.environment.now in
    let first = marks c.args.gated false in
    let last = marks c.args.gated true in
    CallsBetween-then_call _ _ _ c.in-Ok.value c.put_strict.result _ _ _ (λ one _ two s held t next.
    let between : State = record s { environments = put_at same_text s.environments e (Some first) } in
    let same : last ≡ marks c.args.gated c.args.strict = ap (marks c.args.gated) (sym c.if-strict.true) in
    let before = one s held between (next.0, refl) in
    let after = two between before.0 _ (first, put_at-same_key s.environments e first, refl) in
    subst (HoldsAfter 2 old new) (put_at-environment_twice s e first last ∙ ap (λ (m : Marks). record s { environments = put_at same_text s.environments e (Some m) }) same ∙ sym next.1)
    (after.0, TakesRoom-trans 1 1 old.now mid.now new.now before.1 after.1))
    c.in-Ok.ensures.changes c.put_strict.ensures.changes

pub returns-then-strict-clause-failure : goal.returns-then-strict-clause-failure
returns-then-strict-clause-failure g c =
    let mid = state g.S.Store c.put_environment.new.conn in
    let e = c.args.environment.now in
    let first = marks c.args.gated false in
    λ clean s here next numbers.
    let call = c.in-Ok.ensures.changes in
    let mid_clean : HasCleanDisk mid = omega (arith, c.put_strict.ensures.changes.survives.clean, clean) in
    let between : State = record s { environments = put_at same_text s.environments e (Some first) } in
    let now : HoldsOpen mid between = record {
      inside = (call.goes_on mid_clean here.inside).0;
      unlimited = call.survives.limit ∙ here.unlimited;
      held = (call.ok mid_clean s here.held between (next.1.0, refl)).0;
    } in
    let room = subst (LeaveNumbers 1) (sym (c.in-Ok.ensures.strict mid_clean s here.held next.1.0)) numbers.1.0 in
    IfErr-weaker c.put_strict.result _ _ (λ e why. EndsBy-later_call _ _ _ e (call.goes_on mid_clean here.inside) call.survives.counts why)
    (c.put_strict.ensures.failure clean between now (first, put_at-same_key s.environments e first, refl) (room, tt))

pub returns-else-strict-clause-changes : goal.returns-else-strict-clause-changes
returns-else-strict-clause-changes g c =
    let old = state g.S.Store c.args.conn.now in
    let new = state g.S.Store c.put_environment.new.conn in
    let e = c.args.environment.now in
    let first = marks c.args.gated false in
    CallsBetween-weaken _ _ (Ok c.in-Ok.value) _ _ (λ _ one s held t next.
    let same : first ≡ marks c.args.gated c.args.strict = ap (marks c.args.gated) (sym c.if-strict.false) in
    let after = one s held _ (next.0, refl) in
    subst (HoldsAfter 2 old new) (ap (λ (m : Marks). record s { environments = put_at same_text s.environments e (Some m) }) same ∙ sym next.1)
    (after.0, TakesRoom-more 1 2 (omega arith) old.now new.now after.1))
    c.in-Ok.ensures.changes
