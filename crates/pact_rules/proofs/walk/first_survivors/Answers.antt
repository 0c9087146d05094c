use Rattle.std.{specs.List.{Contains}, proofs.Common.{◌≡◌, ◌<◌, ◌↔◌, length, map, subst, arith}}
use Rattle.pact_rules.{specs.Survivors.{survivor_view}, proofs.WalkLemmas.{Contains-push_start}}
use Rattle.pact_rules.proofs.walk.first_survivors.Goals as goal

pub loop-index-preserved : goal.loop-index-preserved
loop-index-preserved c = (
  omega (arith, c.loop-index-test.true),
  λ e. Contains-push_start c.loop-index.entries.items _ c.loop-index.index e c.in_ok-push.ensures.items (c.loop-index.invariant.1 e),
)

pub returns : goal.returns
returns c = λ e.
    let last : c.loop-index.index ≡ length c.args.rules.now = omega (arith, c.loop-index-test.false, c.loop-index.invariant.0) in
    subst (λ n. Contains (map survivor_view c.loop-index.entries.items) e ↔ ((e.0 < n) × (e.1 ≡ 0))) last (c.loop-index.invariant.1 e)
