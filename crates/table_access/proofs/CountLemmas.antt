-- What a count of rows says.
use Rattle.std.{specs.List.{list_any}, proofs.Common.{◌≡◌, inl, inr, List, [], ◌∷◌, length, filter, Bool, true, false, cond, ◌||◌, nat_lt, refl, arith}}
use Rattle.std.proofs.lemmas.Bool.Decides.{nat_tests}
use Rattle.sqlite_rules.specs.Lists.{Has}

-- the number of elements that pass a test is more than 0 if and only if some element passes it
pub length-filter-list_any : {X : Type 0} (p : X → Bool) (xs : List X) → nat_lt 0 (length (filter p xs)) ≡ list_any p xs
length-filter-list_any p [] = refl
length-filter-list_any p (x ∷ xs) = elim (p x) as (λ b. nat_lt 0 (length (cond b (x ∷ filter p xs) (filter p xs))) ≡ (b || list_any p xs)) [
  | true ↦ grind (arith, nat_tests)
  | false ↦ length-filter-list_any p xs
]

-- tests that agree on a list are passed by one of it together
pub list_any-same_tests : {X : Type 0} (p q : X → Bool) (xs : List X) → ((x : X) → Has xs x → p x ≡ q x) → list_any p xs ≡ list_any q xs
list_any-same_tests p q [] same = refl
list_any-same_tests p q (x ∷ xs) same = λ i. same x (inl refl) i || list_any-same_tests p q xs (λ y has. same y (inr has)) i

pub list_any-false : {X : Type 0} (xs : List X) → list_any (λ x. false) xs ≡ false
list_any-false [] = refl
list_any-false (x ∷ xs) = list_any-false xs
