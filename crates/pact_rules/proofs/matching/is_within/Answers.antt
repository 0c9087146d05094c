use Rattle.std.proofs.Common.{◌≡◌, ◌∙◌, ◌&&◌, true, false, sym, ap}
use Rattle.pact_rules.{specs.Matching.{at_least, at_most}, proofs.MatchingLemmas.{within-arrays}}
use Rattle.pact_rules.proofs.matching.is_within.Goals as goal

pub returns-then-is_at_least : goal.returns-then-is_at_least
returns-then-is_at_least c =
    let x = c.in-Array-Array in
    let least : at_least c.args.min c.len-count.result ≡ true = sym c.is_at_least.ensures ∙ c.if-is_at_least.true in
    c.is_at_most.ensures ∙ ap (λ b. b && at_most c.args.max c.len-count.result) (sym least)
    ∙ sym (within-arrays c.args.min c.args.max _ _ x.field-0-0 x.items c.len-count.result x.is-0 x.is-1 c.len-count.ensures)

pub returns-else-is_at_least : goal.returns-else-is_at_least
returns-else-is_at_least c =
    let x = c.in-Array-Array in
    let least : at_least c.args.min c.len-count.result ≡ false = sym c.is_at_least.ensures ∙ c.if-is_at_least.false in
    c.if-is_at_least.false ∙ ap (λ b. b && at_most c.args.max c.len-count.result) (sym least)
    ∙ sym (within-arrays c.args.min c.args.max _ _ x.field-0-0 x.items c.len-count.result x.is-0 x.is-1 c.len-count.ensures)
