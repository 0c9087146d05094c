use Rattle.std.{specs.Prelude.{unwrap_or}, proofs.Common.{[], ◌∷◌, codes, ◌≡◌, Option, Some, sym, ap, subst, ◌∙◌, refl, ◌≤◌, ◌^◌, length}}
use Rattle.sqlite.specs.{Held.{state}, State.{State as View}}
use Rattle.table_access.proofs.CallLemmas.{CallsBetween-weaken, CallsBetween-no_call}
use Rattle.broker_core.specs.{Text.{Text}, Change.{with_branch}, State.{State}}
use Rattle.broker_tables.{specs.Holds.{Holds, HoldsAfter}, proofs.{RoomLemmas.{TakesRoom-same}, FailLemmas.{FailsByStoreUnlessBetween-weaken}}}
use Rattle.registry_commands.proofs.versions.put_on_branch.Goals as goal

held_as : (now : View) (s t : State) → t ≡ s → Holds now.now s → HoldsAfter 2 now now t
held_as now s t is held = (subst (Holds now.now) (sym is) held, TakesRoom-same 2 now.now now.now refl)

pub returns-in-Some-clause-changes : goal.returns-in-Some-clause-changes
returns-in-Some-clause-changes g c =
    let is_branch : c.args.branch.now ≡ Some c.as_str.result.now = c.in-Some.is ∙ ap Some (sym c.as_str.ensures) in
    CallsBetween-weaken _ _ _ _ _
    (λ u h s held t next. h s held t (next.0, next.1, next.2 c.as_str.result.now is_branch, next.3 ∙ ap (λ (o : Option Text). with_branch s next.0 o) is_branch)) c.add_branch.ensures.changes

pub returns-in-Some-clause-failure : goal.returns-in-Some-clause-failure
returns-in-Some-clause-failure g c clean s here next =
    let is_branch : c.args.branch.now ≡ Some c.as_str.result.now = c.in-Some.is ∙ ap Some (sym c.as_str.ensures) in
    FailsByStoreUnlessBetween-weaken _ _ _ _ c.add_branch.result (codes "branches" ∷ []) _ (λ long are. long (subst (λ (o : Option Text). length (unwrap_or o []) ≤ 10 ^ 7) is_branch are.0, tt)) c.add_branch.ensures.failure clean s here (_, (next.1.0, next.1.1, next.1.2 c.as_str.result.now is_branch, refl))

pub returns-in-None-clause-changes : goal.returns-in-None-clause-changes
returns-in-None-clause-changes g c =
    CallsBetween-no_call _ _ _ (λ s held t next. held_as (state g.S.Store c.args.conn.now) s t (next.3 ∙ ap (λ (o : Option Text). with_branch s next.0 o) c.in-None.is) held)
