-- Patterns that are asked of many texts, each of all of them before the next one.
use Rattle.std.specs.List.{list_all}
use Rattle.std.proofs.Common.{rules, ◌≡◌, ◌∙◌, ◌<◌, ◌+◌, ℕ, length, nat_eq, get_or, drop, Bool, true, false, not, ◌&&◌, List, [], ◌∷◌, ◌++◌, Some, String, Global, string_bytes, refl, sym, ap}
use Rattle.std.proofs.lemmas.List.{drop_more}
use Rattle.serde_json.specs.Data.{Data}
use Rattle.pact_rules.specs.Matching.{text_form, passes, contains, is_found, pattern_of}
use Rattle.pact_rules.specs.Gathered.{joined, judged, part_holds, pattern_holds, plain_hold, texts_hold, text_hold, gathered_hold}
use Rattle.pact_rules.specs.{Deferred.{is_matched, are_matched, gathered_deferred_hold}, declared.gathered.Gathered.{Gathered}}
use Rattle.pact_rules.proofs.GatheredLemmas.{joined-neutral_left, judged-any_or_all, judged-push, judged-same_tests}

and-exchange : (a b c d : Bool) → ((a && b) && (c && d)) ≡ ((a && c) && (b && d))
and-exchange true true c d = refl
and-exchange true false true d = refl
and-exchange true false false d = refl
and-exchange false b c d = refl

list_all-both : {A : Type 0} (f g : A → Bool) (xs : List A) → list_all (λ x. f x && g x) xs ≡ (list_all f xs && list_all g xs)
list_all-both f g [] = refl
list_all-both f g (x ∷ xs) = ap (λ b. (f x && g x) && b) (list_all-both f g xs) ∙ and-exchange (f x) (g x) (list_all f xs) (list_all g xs)

-- the next pattern, and then those that are left
pub list_all-next_pattern : (ps ts : List (String Global)) (k : ℕ) (p : String Global) → k < length ps → p ≡ get_or ps k p
    → list_all (λ t. list_all (is_matched t) (drop k ps)) ts ≡ (list_all (λ t. is_matched t p) ts && list_all (λ t. list_all (is_matched t) (drop (k + 1) ps)) ts)
list_all-next_pattern ps ts k p within is =
    ap (λ qs. list_all (λ t. list_all (is_matched t) qs) ts) (drop_more ps k p within ∙ ap (λ q. q ∷ drop (k + 1) ps) (sym is))
    ∙ list_all-both (λ t. is_matched t p) (λ t. list_all (is_matched t) (drop (k + 1) ps)) ts

pub list_all-const_true : {A : Type 0} (xs : List A) → list_all (λ x. true) xs ≡ true
list_all-const_true [] = refl
list_all-const_true (x ∷ xs) = list_all-const_true xs

pub list_all-const_false : {A : Type 0} (xs : List A) → list_all (λ x. false) xs ≡ nat_eq (length xs) 0
list_all-const_false [] = refl
list_all-const_false (x ∷ xs) = search rules

-- one more text
pub gathered_deferred_hold-push : (any : Bool) (g : Gathered) (ts : List (String Global)) (t : String Global)
    → gathered_deferred_hold any g (ts ++ t ∷ []) ≡ (gathered_deferred_hold any g ts && are_matched any g.patterns.items t)
gathered_deferred_hold-push any g ts t = judged-push false (are_matched any g.patterns.items) ts t

-- if only the patterns can still decide, they do
pub gathered_hold-of_patterns : (any : Bool) (g : Gathered) (x y : Data) (own : Bool) (t : String Global) → text_form y ≡ Some (string_bytes t)
    → plain_hold any g x y own ≡ not any → judged any (λ s. contains (string_bytes s) (string_bytes t)) g.parts.items ≡ not any
    → gathered_hold any g x y own ≡ are_matched any g.patterns.items t
gathered_hold-of_patterns any g x y own t is plain parts =
    let in_parts = judged-same_tests any (part_holds x y own) (λ s. contains (string_bytes s) (string_bytes t)) g.parts.items (λ s. ap (passes (contains (string_bytes s))) is) in
    let in_patterns = judged-same_tests any (pattern_holds x y own) (is_matched t) g.patterns.items (λ s. ap (passes (is_found (pattern_of (string_bytes s)))) is) in
    let texts : texts_hold any g x y own ≡ text_hold any g (string_bytes t) = λ i. joined any (in_parts i) (in_patterns i) in
    ap (λ a. joined any a (texts_hold any g x y own)) plain ∙ joined-neutral_left any (texts_hold any g x y own) ∙ texts
    ∙ ap (λ a. joined any a (judged any (is_matched t) g.patterns.items)) parts ∙ joined-neutral_left any (judged any (is_matched t) g.patterns.items)
    ∙ judged-any_or_all any (is_matched t) g.patterns.items
