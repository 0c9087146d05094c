use Rattle.std.proofs.Common.{◌∙◌, ap}
use Rattle.pact_rules.{specs.Gathered.{judged, bounds_hold}, proofs.GatheredLemmas.{judged-push}}
use Rattle.pact_rules.proofs.gathered.add_bounds.Goals as goal

pub returns-in_ok-push : goal.returns-in_ok-push
returns-in_ok-push c = λ any x y own.
    ap (judged any (bounds_hold x y own)) c.in_ok-push.ensures.items ∙ judged-push any (bounds_hold x y own) c.args.bounds.now.items _
