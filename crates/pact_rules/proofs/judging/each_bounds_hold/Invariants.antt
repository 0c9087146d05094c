use Rattle.std.proofs.Common.{◌≡◌, drop}
use Rattle.serde_json.specs.View.{view}
use Rattle.pact_rules.specs.Gathered.{judged, bounds_hold}
use Rattle.pact_rules.proofs.judging.each_bounds_hold.Given as goal

-- the bounds hold if and only if the ones that are left hold
abbrev pub invariant-loop-it : goal.invariant-loop-it
invariant-loop-it l =
    judged l.any (bounds_hold (view l.expected) (view l.actual) l.own_place) l.bounds.items
    ≡ judged l.any (bounds_hold (view l.expected) (view l.actual) l.own_place) (drop l.it-index l.it-items)
