-- What is left of a list that was sorted: a set in order where each key is below the get_or-next one, and a clash elsewhere.
use Rattle.std.specs.{Cmp.{IsTotalOrder}, Prelude.{⊤}, List.{AllAdjacentBelow, Contains, sum_by}, List.Sorted.{IsPermutation, IsSorted}}
use Rattle.std.specs.Ordering.{is_lt, ordering_reverse}
use Rattle.std.proofs.Common.{◌≡◌, inl, inr, ℕ, suc, zero, ◌+◌, ◌≤◌, ◌<◌, List, [], ◌∷◌, true, false, true≢false, Ordering, Less, Equal, Greater, get_or, length, refl, sym, ap, ◌∙◌, subst, arith}
use Rattle.std.proofs.{lemmas.List.Sums.{sum_by-cons}, lemmas.Cmp.{tied_itself}}
use Rattle.std.proofs.lemmas.List.Sorted.{IsPermutation-sym, Contains-permutation, sum_by-IsPermutation}
use Rattle.pact_rules.specs.Lists.{OneOf, IsIn}
use Rattle.pact_file.{specs.Sets.{IsRising, IsSetInOrder, HasClash}, proofs.SetLemmas.{IsRising-no_clash, Below-lower}}

-- ---- the members

pub Contains-of_IsIn : {A : Type 0} (x : A) (xs : List A) → IsIn x xs → Contains xs x
Contains-of_IsIn x [] h = absurd h
Contains-of_IsIn x (y ∷ ys) (inl same) = (0, omega arith, sym same)
Contains-of_IsIn x (y ∷ ys) (inr h) = let c = Contains-of_IsIn x ys h in (suc c.0, omega (arith, c.1), c.2)

pub IsIn-of_get_or : {A : Type 0} (x : A) (xs : List A) (k : ℕ) → k < length xs → get_or xs k x ≡ x → IsIn x xs
IsIn-of_get_or x [] k h e = absurd (omega (arith, h))
IsIn-of_get_or x (y ∷ ys) zero h e = inl (sym e)
IsIn-of_get_or x (y ∷ ys) (suc k) h e = inr (IsIn-of_get_or x ys k (omega (arith, h)) e)

IsIn-permutation : {A : Type 0} (xs ys : List A) → IsPermutation xs ys → (x : A) → IsIn x xs → IsIn x ys
IsIn-permutation xs ys p x h = let c = Contains-permutation xs ys x p (Contains-of_IsIn x xs h) in IsIn-of_get_or x ys c.0 c.1 c.2

module _ {A : Type 0} (cmp : A → A → Ordering) (total : IsTotalOrder cmp) where
  abbrev IsTwin : A → A → Type 0
  IsTwin x y = (cmp x y ≡ Equal) × ⊤

  abbrev HasTwins : List A → Type 0
  HasTwins xs = HasClash cmp (λ x y. ⊤) xs

  -- ---- how many have the key of x

  abbrev one : Ordering → ℕ
  one Equal = 1
  one o = 0

  abbrev many : A → List A → ℕ
  many x xs = sum_by (λ y. one (cmp x y)) xs

  many-of_twin : (x : A) (xs : List A) → OneOf (IsTwin x) xs → 1 ≤ many x xs
  many-of_twin x [] h = absurd h
  many-of_twin x (y ∷ ys) (inl t) = omega (arith, sum_by-cons (λ z. one (cmp x z)) y ys, ap one t.0)
  many-of_twin x (y ∷ ys) (inr h) = omega (arith, sum_by-cons (λ z. one (cmp x z)) y ys, many-of_twin x ys h)

  many-of_HasTwins : (xs : List A) → HasTwins xs → (x : A) × (2 ≤ many x xs)
  many-of_HasTwins [] h = absurd h
  many-of_HasTwins (x ∷ xs) (inl h) = (x, omega (arith, sum_by-cons (λ z. one (cmp x z)) x xs, ap one (tied_itself total x), many-of_twin x xs h))
  many-of_HasTwins (x ∷ xs) (inr h) = let t = many-of_HasTwins xs h in (t.0, omega (arith, sum_by-cons (λ z. one (cmp t.0 z)) x xs, t.1))

  IsTwin-of_many : (x : A) (xs : List A) → 1 ≤ many x xs → OneOf (IsTwin x) xs
  IsTwin-of_many x [] h = absurd (omega (arith, h))
  IsTwin-of_many x (y ∷ ys) h = by_case (λ k. IsTwin-of_many x ys k) (cmp x y) refl where
    by_case : (1 ≤ many x ys → OneOf (IsTwin x) ys) → (o : Ordering) → cmp x y ≡ o → OneOf (IsTwin x) (y ∷ ys)
    by_case later Equal e = inl (e, tt)
    by_case later o e = inr (later (omega (arith, h, sum_by-cons (λ z. one (cmp x z)) y ys, ap one e)))

  IsTwin-as : (x y : A) (xs : List A) → cmp x y ≡ Equal → OneOf (IsTwin x) xs → OneOf (IsTwin y) xs
  IsTwin-as x y [] e h = absurd h
  IsTwin-as x y (z ∷ zs) e (inl t) = inl (sym (total.congr x y z e) ∙ t.0, tt)
  IsTwin-as x y (z ∷ zs) e (inr h) = inr (IsTwin-as x y zs e h)

  HasTwins-of_many : (x : A) (xs : List A) → 2 ≤ many x xs → HasTwins xs
  HasTwins-of_many x [] h = absurd (omega (arith, h))
  HasTwins-of_many x (y ∷ ys) h = by_case (λ k. HasTwins-of_many x ys k) (cmp x y) refl where
    by_case : (2 ≤ many x ys → HasTwins ys) → (o : Ordering) → cmp x y ≡ o → HasTwins (y ∷ ys)
    by_case later Equal e = inl (IsTwin-as x y ys e (IsTwin-of_many x ys (omega (arith, h, sum_by-cons (λ z. one (cmp x z)) y ys, ap one e))))
    by_case later o e = inr (later (omega (arith, h, sum_by-cons (λ z. one (cmp x z)) y ys, ap one e)))

  -- a list in another order has twins if the list has
  HasTwins-permutation : (xs ys : List A) → IsPermutation xs ys → HasTwins xs → HasTwins ys
  HasTwins-permutation xs ys p h =
      let t = many-of_HasTwins xs h in
      HasTwins-of_many t.0 ys (omega (arith, t.1, sum_by-IsPermutation (λ z. one (cmp t.0 z)) xs ys p))

  -- ---- HasTwins-of_neighbours

  is_lt-less : (o : Ordering) → true ≡ is_lt o → o ≡ Less
  is_lt-less Less e = refl
  is_lt-less o e = absurd (true≢false e)

  pub get_or-next : (x : A) (xs : List A) (k : ℕ) (d : A) → get_or (x ∷ xs) (suc k + 1) d ≡ get_or xs (k + 1) d
  get_or-next x xs k d = let e : suc k + 1 ≡ suc (k + 1) = omega arith in ap (λ i. get_or (x ∷ xs) i d) e

  IsRising-of_adjacent : (xs : List A) → AllAdjacentBelow (λ x y. true ≡ is_lt (cmp x y)) xs (length xs) → IsRising cmp xs
  IsRising-of_adjacent [] h = tt
  IsRising-of_adjacent (x ∷ []) h = (tt, tt)
  IsRising-of_adjacent (x ∷ y ∷ ys) h =
      let more : IsRising cmp (y ∷ ys) = IsRising-of_adjacent (y ∷ ys) (λ k d below. subst (λ z. true ≡ is_lt (cmp (get_or (y ∷ ys) k d) z)) (get_or-next x (y ∷ ys) k d) (h (suc k) d (omega (arith, below)))) in
      let first : cmp x y ≡ Less = is_lt-less (cmp x y) (h 0 x (omega arith)) in
      ((first, Below-lower cmp total x y ys first more.0), more)

  is_lt-equal : (o p : Ordering) → o ≡ ordering_reverse p → false ≡ is_lt o → is_lt p ≡ false → o ≡ Equal
  is_lt-equal Equal p r e f = refl
  is_lt-equal Greater Less r e f = absurd cc
  is_lt-equal o p r e f = absurd cc

  HasTwins-of_neighbours : (xs : List A) (k : ℕ) (d : A) → k + 1 < length xs → cmp (get_or xs k d) (get_or xs (k + 1) d) ≡ Equal → HasTwins xs
  HasTwins-of_neighbours (x ∷ y ∷ ys) zero d h e = inl (inl (e, tt))
  HasTwins-of_neighbours (x ∷ y ∷ ys) (suc k) d h e = inr (HasTwins-of_neighbours (y ∷ ys) k d (omega (arith, h)) (subst (λ z. cmp (get_or (y ∷ ys) k d) z ≡ Equal) (get_or-next x (y ∷ ys) k d) e))
  HasTwins-of_neighbours xs k d h e = absurd (omega (arith, h))

  -- ---- what a sort left

  pub IsSetInOrder-of_sorted : (found list : List A) → IsPermutation found list → AllAdjacentBelow (λ x y. true ≡ is_lt (cmp x y)) list (length list)
      → (¬ HasTwins found) × IsSetInOrder cmp found list
  IsSetInOrder-of_sorted found list p h =
      let r = IsRising-of_adjacent list h in
      (λ twins. IsRising-no_clash cmp total (λ x y. ⊤) list r (HasTwins-permutation found list p twins), record { rising = r; kept = IsIn-permutation found list p; known = IsIn-permutation list found (IsPermutation-sym found list p) })

  pub HasTwins-of_sorted : (found list : List A) → IsPermutation found list → IsSorted cmp list → (k : ℕ) → k + 1 < length list
      → ((d : A) → false ≡ is_lt (cmp (get_or list k d) (get_or list (k + 1) d))) → HasTwins found
  HasTwins-of_sorted found [] p s k below h = absurd (omega (arith, below))
  HasTwins-of_sorted found (x ∷ xs) p s k below h =
      let list = x ∷ xs in
      let same = is_lt-equal (cmp (get_or list k x) (get_or list (k + 1) x)) (cmp (get_or list (k + 1) x) (get_or list k x)) (total.antisymm _ _) (h x) (s k x (omega arith) below) in
      HasTwins-permutation list found (IsPermutation-sym found list p) (HasTwins-of_neighbours list k x below same)
