use Rattle.std.proofs.Common.{◌≡◌, ◌∙◌, ◌-◌, length, Some, slice_get, string_bytes, subst, option_copied, sym, ap}
use Rattle.pact_rules.{specs.Gathered.{joined, judged}, proofs.GatheredLemmas.{judged-repeated}}
use Rattle.pact_rules.proofs.gathered.ends_with.Goals as goal

pub returns-in-Some : goal.returns-in-Some
returns-in-Some c = λ is any test.
    let xs = c.deref.result.now in
    let last = c.in-Some.last.now in
    let at : slice_get xs (length xs - 1) ≡ Some last = sym c.last.ensures.value ∙ ap option_copied c.in-Some.is in
    let again : joined any (judged any (λ s. test (string_bytes s)) c.args.kept.now.items) (test (string_bytes last)) ≡ judged any (λ s. test (string_bytes s)) c.args.kept.now.items
    = subst (λ ks. joined any (judged any (λ s. test (string_bytes s)) ks) (test (string_bytes last)) ≡ judged any (λ s. test (string_bytes s)) ks) c.deref.ensures.value
    (judged-repeated any (λ s. test (string_bytes s)) xs (length xs - 1) last at) in
    ap (λ t. joined any (judged any (λ s. test (string_bytes s)) c.args.kept.now.items) (test t)) (sym (c.is_same_text.ensures is)) ∙ again
