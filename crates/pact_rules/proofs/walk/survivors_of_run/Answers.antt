use Rattle.std.{specs.List.{Contains}, proofs.Common.{◌≡◌, ◌↔◌, ◌⊎◌, inl, ◌∙◌, ◌++◌, [], ◌∷◌, Some, map, get_or, option_map, sym, ap, arith}}
use Rattle.std.proofs.{lemmas.List.{length-map}, lemmas.Option.{slice_get_within}}
use Rattle.pact_rules.specs.{RuleViews.{rule_view}, Walks.{survivor}, Survivors.{survivor_view}}
use Rattle.pact_rules.proofs.WalkLemmas.{IsWalkTo-entry, exact_tokens-within_path, StaysOf-next, StaysOf-end, survivor-is_alive, Contains-push_survivor, Contains-no_survivor}
use Rattle.pact_rules.proofs.walk.survivors_of_run.Goals.{in-Some+in_ok-push, in_default}
use Rattle.pact_paths.specs.{Locations.{step_view}, Weights.{is_alive, exact_tokens}}
use Rattle.pact_rules.proofs.walk.survivors_of_run.Goals as goal

pub path_at-path-requires : goal.path_at-path-requires
path_at-path-requires c =
    let rules = map rule_view c.args.rules.now in
    let s = c.requires.started in
    let h = IsWalkTo-entry rules c.args.steps c.args.entries.now s.0 c.loop-index.index (record { index = 0; exact = 0 }) s.1 (omega (arith, c.loop-index-test.true, c.requires.within)) in
    omega (arith, slice_get_within rules _ h.1.0 h.1.1, length-map c.args.rules.now rule_view)

pub survivor_after-requires : goal.survivor_after-requires
survivor_after-requires c =
    let rules = map rule_view c.args.rules.now in
    let s = c.requires.started in
    let h = IsWalkTo-entry rules c.args.steps c.args.entries.now s.0 c.loop-index.index (record { index = 0; exact = 0 }) s.1 (omega (arith, c.loop-index-test.true, c.requires.within)) in
    exact_tokens-within_path _ c.path_at-path.result.now s.0 (h.1.3 ∙ ap (λ p. exact_tokens p s.0) (sym (c.path_at-path.ensures h.1.0 h.1.1)))

pub loop-index-preserved : goal.loop-index-preserved
loop-index-preserved c = (
  omega (arith, c.loop-index.invariant.0),
  inl (omega (arith, c.loop-index-test.true)),
  λ at w e.
      let rules = map rule_view c.args.rules.now in
      let next = at ++ step_view c.args.step.now ∷ [] in
      let i = c.loop-index.index in
      let left = c.loop-index.left.items in
      let more = c.match-survivor_after.left.items in
      let o = c.survivor_after.result in
      let x = survivor_view (get_or c.args.entries.now i (record { index = 0; exact = 0 })) in
      let h = IsWalkTo-entry rules c.args.steps c.args.entries.now at i (record { index = 0; exact = 0 }) w (omega (arith, c.loop-index-test.true, c.requires.within)) in
      let same : c.path_at-path.result.now ≡ h.1.0.path = c.path_at-path.ensures h.1.0 h.1.1 in
      let result = c.survivor_after.ensures at (w.steps, ap (λ p. is_alive p at) same ∙ h.1.2, h.1.3 ∙ ap (λ p. exact_tokens p at) (sym same)) in
      let pushed : Contains (map survivor_view more) e ↔ (Contains (map survivor_view left) e ⊎ (option_map survivor_view o ≡ Some e)) = elim c.match-survivor_after.branch [
        | in-Some+in_ok-push b ↦ Contains-push_survivor left more b.in-Some.next o b.in-Some.is (ap (λ v. v.items) b.left-is ∙ b.in_ok-push.ensures.items) e
        | in_default b ↦ Contains-no_survivor left more o b.in_default.not-Some (ap (λ v. v.items) b.left-is) e
      ] in
      StaysOf-next rules (map survivor_view c.args.entries.now) c.args.run.from i next e x _ _ _ c.loop-index.invariant.0 h.0 (c.loop-index.invariant.2 at w e) pushed
      (survivor-is_alive rules next x h.1.0 h.1.1 (option_map survivor_view o) (result ∙ ap (λ p. survivor x.0 p next) same) e),
)

pub returns : goal.returns
returns c = λ at w e.
    StaysOf-end (map rule_view c.args.rules.now) (map survivor_view c.args.entries.now) c.args.run.from c.loop-index.index c.args.run.to (at ++ step_view c.args.step.now ∷ []) e _
    c.loop-index.invariant.1 (omega (arith, c.loop-index-test.false)) (c.loop-index.invariant.2 at w e)
