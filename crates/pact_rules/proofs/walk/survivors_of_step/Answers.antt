use Rattle.std.proofs.Common.{◌∙◌, map, sym}
use Rattle.pact_paths.specs.Locations.{step_view}
use Rattle.pact_rules.{specs.{RuleViews.{rule_view}, Survivors.{survivor_view}}, proofs.WalkLemmas.{IsAlive-both_runs, Contains-of_append}}
use Rattle.pact_rules.proofs.walk.survivors_of_step.Goals as goal

pub returns : goal.returns
returns c = λ at h e.
    let f = c.run_of-free.result in
    let g = c.run_of-asking.result in
    IsAlive-both_runs (map rule_view c.args.rules.now) (record { steps = c.args.steps; alive = map survivor_view c.args.entries.now }) at (step_view c.args.step.now) e f.from f.to g.from g.to _ _ _ h
    (λ k x there none. c.run_of-free.ensures.run at h k x there none)
    (λ k x there this. c.run_of-asking.ensures.run at h k x there (this ∙ sym c.as_asked.ensures))
    (c.in_ok-left.ensures at h e) (c.in_ok-more.ensures at h e)
    (Contains-of_append c.in_ok-left.left.items c.in_ok-more.more.items c.append.new.self.items c.in_ok-append.ensures.items e)
