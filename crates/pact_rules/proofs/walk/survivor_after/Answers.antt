use Rattle.std.proofs.Common.{◌≡◌, ◌<◌, ◌≤◌, ◌∙◌, length, Some, sym, ap, arith, add-zero}
use Rattle.pact_paths.specs.Locations.{step_view}
use Rattle.pact_rules.proofs.WalkLemmas.{within, survivor-past_end, survivor-step}
use Rattle.pact_rules.proofs.walk.survivor_after.Goals as goal

pub returns-then-len-steps : goal.returns-then-len-steps
returns-then-len-steps c = λ at h.
    survivor-past_end c.args.entry.index c.args.entry.exact c.args.path.now at (step_view c.args.step.now)
    (within (length c.args.path.now) c.args.steps at h.0 (omega (arith, c.len.ensures.value, c.if-len-steps.true))) h.1 h.2

pub returns-in-0 : goal.returns-in-0
returns-in-0 c = λ at h.
    let more : c.args.steps < length c.args.path.now = omega (arith, c.len.ensures.value, c.if-len-steps.false) in
    let few : length c.args.path.now ≤ 60 = omega (arith, c.len.ensures.value, c.len.ensures.few) in
    survivor-step c.args.entry.index c.args.entry.exact 0 c.args.steps c.args.path.now at (step_view c.args.step.now) more few (c.weigh_token.ensures.value
    ∙ ap (λ w. Some w) c.in-0.is) h.0 h.1 h.2

pub returns-in-2 : goal.returns-in-2
returns-in-2 c = λ at h.
    let more : c.args.steps < length c.args.path.now = omega (arith, c.len.ensures.value, c.if-len-steps.false) in
    let few : length c.args.path.now ≤ 60 = omega (arith, c.len.ensures.value, c.len.ensures.few) in
    survivor-step c.args.entry.index c.args.entry.exact 2 c.args.steps c.args.path.now at (step_view c.args.step.now) more few (c.weigh_token.ensures.value
    ∙ ap (λ w. Some w) c.in-2.is) h.0 h.1 h.2

pub returns-in_default : goal.returns-in_default
returns-in_default c = λ at h.
    let more : c.args.steps < length c.args.path.now = omega (arith, c.len.ensures.value, c.if-len-steps.false) in
    let few : length c.args.path.now ≤ 60 = omega (arith, c.len.ensures.value, c.len.ensures.few) in
    let one : c.weigh_token.result ≡ 1 = grind (arith, c.in_default, c.weigh_token.ensures.bounded) in
    ap (λ n. Some (c.args.entry.index, n)) (sym (add-zero c.args.entry.exact))
    ∙ survivor-step c.args.entry.index c.args.entry.exact 1 c.args.steps c.args.path.now at (step_view c.args.step.now) more few (c.weigh_token.ensures.value
    ∙ ap (λ w. Some w) one) h.0 h.1 h.2
