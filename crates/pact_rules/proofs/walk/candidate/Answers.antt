use Rattle.std.proofs.Common.{◌≡◌, ◌∙◌, ◌+◌, ◌^◌, length, sym, ap, arith}
use Rattle.pact_paths.{specs.Weights.{exact_tokens}, proofs.WalkLemmas.{weight-alive}}
use Rattle.pact_rules.proofs.WalkLemmas.{within}
use Rattle.pact_rules.proofs.walk.candidate.Goals as goal

pub returns-then-tokens-steps-clause-weight : goal.returns-then-tokens-steps-clause-weight
returns-then-tokens-steps-clause-weight c = λ at h.
    let path = c.args.path.now in
    let short = within (length path) c.args.steps at h.0 (omega (arith, c.len-tokens.ensures.value, c.if-tokens-steps.true)) in
    let power : c.args.entry.exact + 1 ≡ 1 + exact_tokens path at = omega (arith, h.2) in
    c.pow.ensures ∙ ap (λ n. 2 ^ n) power ∙ sym (weight-alive path at short h.1)
