-- What was gathered says what the matchers say.
use Rattle.std.specs.{List.{list_all, list_any}, List.Sorted.{IsPermutation}}
use Rattle.std.proofs.Common.{◌≡◌, ◌∙◌, ℕ, zero, suc, ◌<◌, length, get_or, map, slice_get, Option, Some, None, String, Global, string_bytes, if◌then◌else◌, Bool, true, false, not, ◌++◌, [], ◌∷◌, ◌&&◌, ◌||◌, List, refl, sym, ap}
use Rattle.std.proofs.{lemmas.List.Sorted.{list_any-IsPermutation}, lemmas.Bool.{or_right}, lemmas.Option.{same_Some}}
use Rattle.pact_rules.specs.{Rules.{is_regex}, MatcherView.{matcher_view}, Matching.{passes, contains}, Gathered.{joined, judged, if_asked}}
use Rattle.pact_rules.proofs.ChoiceLemmas.{slice_get-map_within}
use Rattle.pact_rules.specs.declared.table.Matcher as code

-- ---- two answers together

pub joined-assoc : (any a b c : Bool) → joined any (joined any a b) c ≡ joined any a (joined any b c)
joined-assoc true true b c = refl
joined-assoc true false b c = refl
joined-assoc false true b c = refl
joined-assoc false false b c = refl

pub joined-comm : (any a b : Bool) → joined any a b ≡ joined any b a
joined-comm true true true = refl
joined-comm true true false = refl
joined-comm true false true = refl
joined-comm true false false = refl
joined-comm false true true = refl
joined-comm false true false = refl
joined-comm false false true = refl
joined-comm false false false = refl

pub joined-idempotent : (any a : Bool) → joined any a a ≡ a
joined-idempotent true true = refl
joined-idempotent true false = refl
joined-idempotent false true = refl
joined-idempotent false false = refl

-- `not any` joined with a value, before or after it, is that value
pub joined-neutral_left : (any a : Bool) → joined any (not any) a ≡ a
joined-neutral_left true a = refl
joined-neutral_left false a = refl

pub joined-neutral_right : (any a : Bool) → joined any a (not any) ≡ a
joined-neutral_right any a = joined-comm any a (not any) ∙ joined-neutral_left any a

-- ---- one answer more, at a place of several

pub joined-more_left : (any a more b h : Bool) → more ≡ joined any a h → joined any more b ≡ joined any (joined any a b) h
joined-more_left any a more b h e =
    ap (λ c. joined any c b) e ∙ joined-assoc any a h b ∙ ap (joined any a) (joined-comm any h b) ∙ sym (joined-assoc any a b h)

pub joined-more_right : (any a b more h : Bool) → more ≡ joined any b h → joined any a more ≡ joined any (joined any a b) h
joined-more_right any a b more h e = ap (joined any a) e ∙ sym (joined-assoc any a b h)

pub joined-if_asked : (any asked h : Bool) → if_asked any true h ≡ joined any (if_asked any asked h) h
joined-if_asked any true h = sym (joined-idempotent any h)
joined-if_asked any false h = sym (joined-neutral_left any h)

-- ---- lists

pub judged-cons : {A : Type 0} (any : Bool) (test : A → Bool) (x : A) (xs : List A) → judged any test (x ∷ xs) ≡ joined any (test x) (judged any test xs)
judged-cons true test x xs = refl
judged-cons false test x xs = refl

pub judged-empty : {A : Type 0} (any : Bool) (test : A → Bool) → judged any test [] ≡ not any
judged-empty true test = refl
judged-empty false test = refl

pub judged-push : {A : Type 0} (any : Bool) (test : A → Bool) (xs : List A) (x : A) → judged any test (xs ++ x ∷ []) ≡ joined any (judged any test xs) (test x)
judged-push any test [] x = judged-cons any test x [] ∙ ap (joined any (test x)) (judged-empty any test) ∙ joined-neutral_right any (test x)
    ∙ sym (joined-neutral_left any (test x)) ∙ ap (λ a. joined any a (test x)) (sym (judged-empty any test))
judged-push any test (y ∷ ys) x = judged-cons any test y (ys ++ x ∷ []) ∙ ap (joined any (test y)) (judged-push any test ys x)
    ∙ sym (joined-assoc any (test y) (judged any test ys) (test x)) ∙ ap (λ a. joined any a (test x)) (sym (judged-cons any test y ys))

-- no element of a list passes a test that is always false
pub list_any-const_false : {A : Type 0} (xs : List A) → list_any (λ x. false) xs ≡ false
list_any-const_false [] = refl
list_any-const_false (x ∷ xs) = list_any-const_false xs

-- after one more element: the kept answer, joined with that of the elements left, is still that of all
pub judged-next : {A : Type 0} (any : Bool) (test : A → Bool) (kept more whole : Bool) (x : A) (xs : List A) → more ≡ joined any kept (test x)
    → joined any kept (judged any test (x ∷ xs)) ≡ whole → joined any more (judged any test xs) ≡ whole
judged-next any test kept more whole x xs e h =
    ap (λ a. joined any a (judged any test xs)) e ∙ joined-assoc any kept (test x) (judged any test xs)
    ∙ ap (joined any kept) (sym (judged-cons any test x xs)) ∙ h

-- at the end nothing is left
pub judged-end : {A : Type 0} (any : Bool) (test : A → Bool) (kept whole : Bool) → joined any kept (judged any test []) ≡ whole → kept ≡ whole
judged-end any test kept whole h = sym (joined-neutral_right any kept) ∙ ap (joined any kept) (sym (judged-empty any test)) ∙ h

and-as_or : (a r s : Bool) → r ≡ not s → (a && r) ≡ not (not a || s)
and-as_or true r s h = h
and-as_or false r s h = refl

list_all-as_any : {A : Type 0} (test : A → Bool) (xs : List A) → list_all test xs ≡ not (list_any (λ x. not (test x)) xs)
list_all-as_any test [] = refl
list_all-as_any test (x ∷ xs) = and-as_or (test x) (list_all test xs) (list_any (λ y. not (test y)) xs) (list_all-as_any test xs)

-- their order says nothing
pub judged-permutation : {A : Type 0} (any : Bool) (test : A → Bool) (xs ys : List A) → IsPermutation xs ys → judged any test xs ≡ judged any test ys
judged-permutation true test xs ys p = list_any-IsPermutation test xs ys p
judged-permutation false test xs ys p =
    list_all-as_any test xs ∙ ap not (list_any-IsPermutation (λ x. not (test x)) xs ys p) ∙ sym (list_all-as_any test ys)

-- ---- one of several

pub list_any-slice_get : {A : Type 0} (p : A → Bool) (xs : List A) (i : ℕ) (x : A) → slice_get xs i ≡ Some x → p x ≡ true → list_any p xs ≡ true
list_any-slice_get p [] i x is h = absurd cc
list_any-slice_get p (y ∷ ys) zero x is h = rw (ap p (same_Some y x is) ∙ h) refl
list_any-slice_get p (y ∷ ys) (suc i) x is h = or_right (p y) (list_any p ys) (list_any-slice_get p ys i x is h)

pub is_regex-list_any : (ms : List code.Matcher) (i : ℕ) (m : code.Matcher) → i < length ms → m ≡ get_or ms i m → is_regex (matcher_view m) ≡ true → list_any is_regex (map matcher_view ms) ≡ true
is_regex-list_any ms i m within is h = list_any-slice_get is_regex (map matcher_view ms) i (matcher_view m) (slice_get-map_within matcher_view ms i m within is) h

-- one of them again says nothing more
pub judged-repeated : {A : Type 0} (any : Bool) (test : A → Bool) (xs : List A) (i : ℕ) (x : A) → slice_get xs i ≡ Some x → joined any (judged any test xs) (test x) ≡ judged any test xs
judged-repeated any test [] i x is = absurd cc
judged-repeated any test (y ∷ ys) zero x is =
    ap (λ a. joined any a (test x)) (judged-cons any test y ys) ∙ ap (λ z. joined any (joined any (test y) (judged any test ys)) (test z)) (sym (same_Some y x is))
    ∙ joined-comm any (joined any (test y) (judged any test ys)) (test y) ∙ sym (joined-assoc any (test y) (test y) (judged any test ys))
    ∙ ap (λ a. joined any a (judged any test ys)) (joined-idempotent any (test y)) ∙ sym (judged-cons any test y ys)
judged-repeated any test (y ∷ ys) (suc i) x is =
    ap (λ a. joined any a (test x)) (judged-cons any test y ys) ∙ joined-assoc any (test y) (judged any test ys) (test x)
    ∙ ap (joined any (test y)) (judged-repeated any test ys i x is) ∙ sym (judged-cons any test y ys)

-- ---- what is gathered, with one more

module _ (any : Bool) where
  pub joined-more_equality : (e i n b t h : Bool)
      → joined any (joined any (if_asked any true h) (joined any i (joined any n b))) t ≡ joined any (joined any (joined any (if_asked any e h) (joined any i (joined any n b))) t) h
  joined-more_equality e i n b t h =
      joined-more_left any (joined any (if_asked any e h) (joined any i (joined any n b))) _ t h (joined-more_left any (if_asked any e h) _ (joined any i (joined any n b)) h (joined-if_asked any e h))

  pub joined-more_integer : (e i n b t h : Bool)
      → joined any (joined any e (joined any (if_asked any true h) (joined any n b))) t ≡ joined any (joined any (joined any e (joined any (if_asked any i h) (joined any n b))) t) h
  joined-more_integer e i n b t h =
      joined-more_left any (joined any e (joined any (if_asked any i h) (joined any n b))) _ t h (joined-more_right any e (joined any (if_asked any i h) (joined any n b)) _ h
      (joined-more_left any (if_asked any i h) _ (joined any n b) h (joined-if_asked any i h)))

  pub joined-more_null : (e i n b t h : Bool)
      → joined any (joined any e (joined any i (joined any (if_asked any true h) b))) t ≡ joined any (joined any (joined any e (joined any i (joined any (if_asked any n h) b))) t) h
  joined-more_null e i n b t h =
      joined-more_left any (joined any e (joined any i (joined any (if_asked any n h) b))) _ t h (joined-more_right any e (joined any i (joined any (if_asked any n h) b)) _ h
      (joined-more_right any i (joined any (if_asked any n h) b) _ h (joined-more_left any (if_asked any n h) _ b h (joined-if_asked any n h))))

  pub joined-more_bounds : (e i n b more t h : Bool) → more ≡ joined any b h
      → joined any (joined any e (joined any i (joined any n more))) t ≡ joined any (joined any (joined any e (joined any i (joined any n b))) t) h
  joined-more_bounds e i n b more t h is =
      joined-more_left any (joined any e (joined any i (joined any n b))) _ t h (joined-more_right any e (joined any i (joined any n b)) _ h
      (joined-more_right any i (joined any n b) _ h (joined-more_right any n b more h is)))

  pub joined-more_parts : (p a more q h : Bool) → more ≡ joined any a h → joined any p (joined any more q) ≡ joined any (joined any p (joined any a q)) h
  joined-more_parts p a more q h is = joined-more_right any p (joined any a q) _ h (joined-more_left any a more q h is)

  pub joined-more_patterns : (p a q more h : Bool) → more ≡ joined any q h → joined any p (joined any a more) ≡ joined any (joined any p (joined any a q)) h
  joined-more_patterns p a q more h is = joined-more_right any p (joined any a q) _ h (joined-more_right any a q more h is)

-- ---- for a value without a text

pub judged-false_of_some : {A : Type 0} (any : Bool) (xs : List A) (x : A) → slice_get xs 0 ≡ Some x → judged any (λ x. false) xs ≡ false
judged-false_of_some any [] x is = absurd cc
judged-false_of_some true (y ∷ ys) x is = list_any-const_false ys
judged-false_of_some false (y ∷ ys) x is = refl

pub judged-false_of_none : {A : Type 0} (any : Bool) (xs : List A) → slice_get xs 0 ≡ None → judged any (λ x. false) xs ≡ not any
judged-false_of_none any [] is = judged-empty any (λ x. false)
judged-false_of_none any (y ∷ ys) is = absurd cc

-- ---- an entry

pub judged-any_or_all : {A : Type 0} (any : Bool) (test : A → Bool) (xs : List A) → judged any test xs ≡ (if any then list_any test xs else list_all test xs)
judged-any_or_all true test xs = refl
judged-any_or_all false test xs = refl

-- ---- parts of texts

passes-no_text : {A : Type 0} (f : A → List ℕ → Bool) (xs : List A) → list_any (λ x. passes (f x) None) xs ≡ false
passes-no_text f [] = refl
passes-no_text f (x ∷ xs) = passes-no_text f xs

-- those that say the same of each text say the same where there may be none
pub passes-same_parts : (xs ys : List (String Global)) → ((t : List ℕ) → list_any (λ s. contains (string_bytes s) t) xs ≡ list_any (λ s. contains (string_bytes s) t) ys)
    → (o : Option (List ℕ)) → list_any (λ s. passes (contains (string_bytes s)) o) xs ≡ list_any (λ s. passes (contains (string_bytes s)) o) ys
passes-same_parts xs ys h None = passes-no_text (λ s. contains (string_bytes s)) xs ∙ sym (passes-no_text (λ s. contains (string_bytes s)) ys)
passes-same_parts xs ys h (Some t) = h t

-- ---- one answer for all of them

pub judged-const_of_some : {A : Type 0} (any k : Bool) (xs : List A) (x : A) → slice_get xs 0 ≡ Some x → judged any (λ x. k) xs ≡ k
judged-const_of_some any k [] x is = absurd cc
judged-const_of_some any k (y ∷ []) x is = judged-cons any (λ x. k) y [] ∙ ap (joined any k) (judged-empty any (λ x. k)) ∙ joined-neutral_right any k
judged-const_of_some any k (y ∷ z ∷ zs) x is = judged-cons any (λ x. k) y (z ∷ zs) ∙ ap (joined any k) (judged-const_of_some any k (z ∷ zs) z refl) ∙ joined-idempotent any k

pub judged-const_of_none : {A : Type 0} (any k : Bool) (xs : List A) → slice_get xs 0 ≡ None → judged any (λ x. k) xs ≡ not any
judged-const_of_none any k [] is = judged-empty any (λ x. k)
judged-const_of_none any k (y ∷ ys) is = absurd cc

pub judged-same_tests : {A : Type 0} (any : Bool) (f g : A → Bool) (xs : List A) → ((x : A) → f x ≡ g x) → judged any f xs ≡ judged any g xs
judged-same_tests any f g [] h = judged-empty any f ∙ sym (judged-empty any g)
judged-same_tests any f g (x ∷ xs) h = judged-cons any f x xs ∙ (λ i. joined any (h x i) (judged-same_tests any f g xs h i)) ∙ sym (judged-cons any g x xs)

pub and-true_right : (k a : Bool) → a ≡ true → (k && a) ≡ k
and-true_right true a h = h
and-true_right false a h = refl
