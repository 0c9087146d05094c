-- What a binary search finds in a list that rises by its keys.
use Rattle.std.specs.{Prelude.{is_ok, Contains}, List.{list_any}, List.Sorted.{IsStrictlySortedBy, IsSortedBy, IsBinarySearchResult, IsSearchInRange}}
use Rattle.std.specs.{Ordering.{nat_cmp, ordering_reverse, is_lt}, Cmp.{nat_cmp_total, ranked}}
use Rattle.std.proofs.Common.{◌≡◌, ◌==◌, ◌<◌, ◌+◌, inl, inr, ℕ, zero, suc, List, [], ◌∷◌, length, get_or, sym, ap, ◌∙◌, Result, Ok, Err, Less, Equal, Greater, arith}
use Rattle.std.proofs.{lemmas.Bool.{eq-eqb, eqb-true, cases_lt, false_from_ne_true}, lemmas.List.Sorted.{searchable_from_sorted}}
use Rattle.table_access.proofs.{Members.{has_contains, any_has}, ReadLemmas.{get_or-has}, SoundLemmas.{any_of}}

module _ {X : Type 0} (key : X → ℕ) where
  abbrev pub rises : List X → Type 0
  rises = IsStrictlySortedBy (λ x y. nat_cmp (key x) (key y))

  pub sorted : (xs : List X) → rises xs → IsSortedBy (λ x y. is_lt (nat_cmp (key x) (key y))) xs
  unfolding IsStrictlySortedBy
  sorted (x ∷ y ∷ xs) up zero d low high = ap is_lt (nat_cmp_total.antisymm (key y) (key x) ∙ ap ordering_reverse up.0.0)
  sorted (x ∷ y ∷ xs) up (suc k) d low high =
      let next : suc k + 1 ≡ suc (k + 1) = omega arith in
      ap (λ n. is_lt (nat_cmp (key (get_or (x ∷ y ∷ xs) n d)) (key (get_or (y ∷ xs) k d)))) next ∙ sorted (y ∷ xs) up.1 k d (omega arith) (omega arith)
  sorted _ up k d low high = absurd (omega arith)

  -- if a key is found, the element there has it
  pub IsBinarySearchResult-Ok : (k : ℕ) (xs : List X) (i : ℕ) (d : X) → IsBinarySearchResult (λ y. nat_cmp (key y) k) xs (Ok i) → key (get_or xs i d) ≡ k
  IsBinarySearchResult-Ok k xs i d at = ranked (key (get_or xs i d)) k Equal (sym (at d))

  -- if it isn't found, no element has it
  pub IsBinarySearchResult-Err : (k : ℕ) (xs : List X) (i : ℕ) → IsBinarySearchResult (λ y. nat_cmp (key y) k) xs (Err i) → IsSortedBy (λ x y. is_lt (nat_cmp (key x) (key y))) xs → (y : X) → Contains xs y → key y ≡ k → ⊥
  IsBinarySearchResult-Err k xs i parts up y at same =
      let parted = parts (searchable_from_sorted nat_cmp_total key xs k up) in
      elim (cases_lt at.0 i) [
        | inl before ↦ let less : key (get_or xs at.0 y) < k = ranked (key (get_or xs at.0 y)) k Less (sym (parted.0 at.0 y (omega arith) before)) in omega (arith, less, ap key at.2, same)
        | inr after ↦ let more : k < key (get_or xs at.0 y) = ranked (key (get_or xs at.0 y)) k Greater (sym (parted.1 at.0 y after at.1)) in omega (arith, more, ap key at.2, same)
      ]

  -- whether a key is found is whether some element has it
  pub IsBinarySearchResult-is_ok : (k : ℕ) (xs : List X) (r : Result ℕ ℕ) → IsSearchInRange r (length xs) → IsBinarySearchResult (λ y. nat_cmp (key y) k) xs r → IsSortedBy (λ x y. is_lt (nat_cmp (key x) (key y))) xs → is_ok r ≡ list_any (λ y. key y == k) xs
  IsBinarySearchResult-is_ok k [] (Ok i) low at up = absurd (omega (arith, low))
  IsBinarySearchResult-is_ok k (x ∷ xs) (Ok i) low at up =
      sym (any_of (λ y. key y == k) (x ∷ xs) (get_or (x ∷ xs) i x) (get_or-has (x ∷ xs) i x low) (eq-eqb (key (get_or (x ∷ xs) i x)) k (IsBinarySearchResult-Ok k (x ∷ xs) i x at)))
  IsBinarySearchResult-is_ok k xs (Err i) low parts up = sym (false_from_ne_true _ (λ found.
      let it = any_has (λ y. key y == k) xs found in
      IsBinarySearchResult-Err k xs i parts up it.0 (has_contains xs it.0 it.1) (eqb-true (key it.0) k it.2)))
