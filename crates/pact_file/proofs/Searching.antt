-- Where a binary search finds the place of a new one in a list whose keys rise.
use Rattle.std.specs.{Cmp.{IsTotalOrder}, List.Sorted.{IsSortedBy, IsNonDecreasingBy}, Ordering.{is_lt, ordering_index, ordering_reverse, match_ordering}}
use Rattle.std.proofs.Common.{◌≡◌, ℕ, zero, suc, ◌+◌, ◌≤◌, ◌<◌, List, [], ◌∷◌, ◌++◌, Bool, true, false, cond, Ordering, Less, Equal, Greater, Option, Some, None, option_map, get_or, length, take, drop, refl, sym, ap, ◌∙◌, subst, arith}
use Rattle.std.proofs.lemmas.List.Sorted.{searchable_from_sorted}
use Rattle.pact_file.{specs.{Sets.{IsRising}, Sorting.{insert_sorted}}, proofs.{SetLemmas.{Below, cmp-turned}, SortedSets.{get_or-next}}}

module _ {A : Type 0} (cmp : A → A → Ordering) (total : IsTotalOrder cmp) where
  -- ---- the keys rise as a search asks it

  IsRising-neighbours : (xs : List A) (k : ℕ) (d : A) → k + 1 < length xs → IsRising cmp xs → cmp (get_or xs k d) (get_or xs (k + 1) d) ≡ Less
  IsRising-neighbours (x ∷ y ∷ ys) zero d h r = r.0.0
  IsRising-neighbours (x ∷ y ∷ ys) (suc k) d h r =
      subst (λ z. cmp (get_or (y ∷ ys) k d) z ≡ Less) (sym (get_or-next cmp total x (y ∷ ys) k d)) (IsRising-neighbours (y ∷ ys) k d (omega (arith, h)) r.1)
  IsRising-neighbours xs k d h r = absurd (omega (arith, h))

  pub IsRising-IsSortedBy : (xs : List A) → IsRising cmp xs → IsSortedBy (λ a b. is_lt (cmp a b)) xs
  IsRising-IsSortedBy xs r k d low below =
      ap is_lt (total.antisymm (get_or xs (k + 1) d) (get_or xs k d) ∙ ap ordering_reverse (IsRising-neighbours xs k d below r))

  pub IsRising-IsNonDecreasingBy : (xs : List A) (x : A) → IsRising cmp xs → IsNonDecreasingBy (λ y. ordering_index (cmp y x)) xs
  IsRising-IsNonDecreasingBy xs x r = searchable_from_sorted total (λ y. y) xs x (IsRising-IsSortedBy xs r)

  -- ---- the place

  Below-at : (x : A) (ys : List A) (k : ℕ) (d : A) → Below cmp total x ys → k < length ys → cmp x (get_or ys k d) ≡ Less
  Below-at x [] k d b h = absurd (omega (arith, h))
  Below-at x (y ∷ ys) zero d b h = b.0
  Below-at x (y ∷ ys) (suc k) d b h = Below-at x ys k d b.1 (omega (arith, h))

  module _ (same : A → A → Bool) where
    abbrev with_first : Ordering → A → A → List A → Option (List A) → Option (List A)
    with_first o x y ys more = match_ordering o (Some (x ∷ y ∷ ys)) (cond (same x y) (Some (y ∷ ys)) None) (option_map (λ zs. y ∷ zs) more)

    -- it goes between those that are less and those that are greater
    pub goes_between : (x : A) (list : List A) (i : ℕ) → i ≤ length list → ((k : ℕ) (d : A) → k < i → cmp (get_or list k d) x ≡ Less)
        → ((k : ℕ) (d : A) → i ≤ k → k < length list → cmp (get_or list k d) x ≡ Greater) → insert_sorted cmp same x list ≡ Some (take i list ++ x ∷ drop i list)
    unfolding insert_sorted
    goes_between x [] zero h before following = refl
    goes_between x [] (suc i) h before following = absurd (omega (arith, h))
    goes_between x (y ∷ ys) zero h before following =
        let first : cmp x y ≡ Less = cmp-turned cmp total y x Greater (following 0 x (omega arith) (omega arith)) in
        ap (λ o. with_first o x y ys (insert_sorted cmp same x ys)) first
    goes_between x (y ∷ ys) (suc i) h before following =
        let past : cmp x y ≡ Greater = cmp-turned cmp total y x Less (before 0 x (omega arith)) in
        let rest = goes_between x ys i (omega (arith, h)) (λ k d b. before (suc k) d (omega (arith, b))) (λ k d a b. following (suc k) d (omega (arith, a)) (omega (arith, b))) in
        ap (λ o. with_first o x y ys (insert_sorted cmp same x ys)) past ∙ ap (option_map (λ zs. y ∷ zs)) rest

    kept_or_not : (y : A) (ys : List A) (b : Bool) → option_map (λ zs. y ∷ zs) (cond b (Some ys) None) ≡ cond b (Some (y ∷ ys)) None
    kept_or_not y ys true = refl
    kept_or_not y ys false = refl

    -- one of its key is there
    pub meets : (x : A) (list : List A) (k : ℕ) (d : A) → IsRising cmp list → k < length list → cmp (get_or list k d) x ≡ Equal
        → insert_sorted cmp same x list ≡ cond (same x (get_or list k d)) (Some list) None
    unfolding insert_sorted
    meets x [] k d r h e = absurd (omega (arith, h))
    meets x (y ∷ ys) zero d r h e = ap (λ o. with_first o x y ys (insert_sorted cmp same x ys)) (cmp-turned cmp total y x Equal e)
    meets x (y ∷ ys) (suc k) d r h e =
        let z = get_or ys k d in
        let less : cmp y z ≡ Less = Below-at y ys k d r.0 (omega (arith, h)) in
        let past : cmp x y ≡ Greater = sym (total.congr z x y e) ∙ cmp-turned cmp total y z Less less in
        ap (λ o. with_first o x y ys (insert_sorted cmp same x ys)) past ∙ ap (option_map (λ zs. y ∷ zs)) (meets x ys k d r.1 (omega (arith, h)) e)
        ∙ kept_or_not y ys (same x z)
