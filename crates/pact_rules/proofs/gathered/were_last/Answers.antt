use Rattle.std.proofs.Common.{◌≡◌, ◌∙◌, ◌-◌, length, Some, slice_get, subst, option_copied, sym, ap}
use Rattle.pact_rules.{specs.{Gathered.{joined, judged, bounds_hold}, Matching.{holds}, Rules.{same_type}}, proofs.GatheredLemmas.{judged-repeated}}
use Rattle.pact_rules.proofs.gathered.were_last.Goals as goal

pub returns-in-Some : goal.returns-in-Some
returns-in-Some c = λ is any x y own.
    let xs = c.deref.result.now in
    let last = c.in-Some.last.now in
    let at : slice_get xs (length xs - 1) ≡ Some last = sym c.last.ensures.value ∙ ap option_copied c.in-Some.is in
    let again : joined any (judged any (bounds_hold x y own) c.args.bounds.now.items) (holds (same_type last.min last.max) x y own) ≡ judged any (bounds_hold x y own) c.args.bounds.now.items
    = subst (λ bs. joined any (judged any (bounds_hold x y own) bs) (bounds_hold x y own last) ≡ judged any (bounds_hold x y own) bs) c.deref.ensures.value
    (judged-repeated any (bounds_hold x y own) xs (length xs - 1) last at) in
    let same = c.are_bounds.ensures is in
    (λ i. joined any (judged any (bounds_hold x y own) c.args.bounds.now.items) (holds (same_type (sym same.0 i) (sym same.1 i)) x y own)) ∙ again
