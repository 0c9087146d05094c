-- What is in a list, and the pairs of rows that a JOIN keeps.
use Rattle.std.{specs.List.{flat_map}, proofs.Common.{◌≡◌, inl, inr, List, [], ◌∷◌, map, filter, Bool, true, refl, sym, ap, subst, ◌∙◌}}
use Rattle.sqlite.specs.Tree.{IsAscending}
use Rattle.sqlite_rules.specs.Lists.{Has}
use Rattle.sqlite_keyed.proofs.ListLemmas.{ascending-append, ascending-filter, ascending-map}
use Rattle.table_access.proofs.SoundLemmas.{at_has, all_of}
-- the two words for an element of a list, what is in lists that are made of others, and a test that some element passes
pub use Rattle.sqlite_rules.proofs.ListLemmas.{has_contained as contains_has, contains_had as has_contains, has_left, has_right, has_either}
pub use Rattle.sqlite_rules.proofs.ListLemmas.{has_kept as has_filter, has_filtered as filter_has, some_has as any_has}
pub use Rattle.sqlite_rules.proofs.ProbeLemmas.{mapped_has as has_map, has_mapped as map_has}

-- ---- elements of lists that are made of others

-- a list that has R of each element and every later one has S of them too, if R gives S on its elements
pub IsAscending-map_on : {X : Type 0} (R S : X → X → Type 0) (rows : List X) → ((a b : X) → Has rows a → Has rows b → R a b → S a b) → IsAscending R rows → IsAscending S rows
IsAscending-map_on R S [] each up = tt
IsAscending-map_on R S (a ∷ rows) each up =
    (all_of _ rows (λ b has. each a b (inl refl) (inr has) (at_has _ rows b up.0 has)), IsAscending-map_on R S rows (λ x y hx hy. each x y (inr hx) (inr hy)) up.1)

-- ---- the pairs of elements of two lists that a test keeps

module _ {X Y : Type 0} (p : X → Y → Bool) (ys : List Y) where
  -- each element of the first list, paired with those of the second that the test keeps beside it
  abbrev pub pairs : List X → List (X × Y)
  pairs xs = flat_map (λ x. map (λ y. (x, y)) (filter (p x) ys)) xs

  -- an element of each list, if the test keeps them together, are one of the pairs
  pub pairs-complete : (xs : List X) (x : X) (y : Y) → Has xs x → Has ys y → p x y ≡ true → Has (pairs xs) (x, y)
  pairs-complete [] x y hx hy kept = absurd hx
  pairs-complete (z ∷ xs) x y (inl same) hy kept = subst (λ w. Has (pairs (w ∷ xs)) (x, y)) same (has_left (map (λ y. (x, y)) (filter (p x) ys)) (pairs xs) (x, y) (has_map (λ y. (x, y)) (filter (p x) ys) y (has_filter (p x) ys y hy kept)))
  pairs-complete (z ∷ xs) x y (inr later) hy kept = has_right (map (λ y. (z, y)) (filter (p z) ys)) (pairs xs) (x, y) (pairs-complete xs x y later hy kept)

  -- the parts of a pair are an element of each list, and the test keeps them together
  pub pairs-sound : (xs : List X) (q : X × Y) → Has (pairs xs) q → Has xs q.0 × Has ys q.1 × (p q.0 q.1 ≡ true)
  pairs-sound [] q h = absurd h
  pairs-sound (z ∷ xs) q h = elim (has_either (map (λ y. (z, y)) (filter (p z) ys)) (pairs xs) q h) [
    | inl here ↦
        let it = map_has (λ y. (z, y)) (filter (p z) ys) q here in
        let kept = filter_has (p z) ys it.0 it.1 in
        (inl (ap (λ w. w.0) it.2), subst (Has ys) (sym (ap (λ w. w.1) it.2)) kept.0, (λ i. p (it.2 i).0 (it.2 i).1) ∙ kept.1)
    | inr later ↦ let it = pairs-sound xs q later in (inr it.0, it.1, it.2)
  ]

  -- they are in an order where those of one element are, and those of one before those of the next
  pub pairs-IsAscending : (R : X × Y → X × Y → Type 0) (xs : List X) → ((x : X) → Has xs x → IsAscending (λ y z. p x y ≡ true → p x z ≡ true → R (x, y) (x, z)) ys)
      → IsAscending (λ x w. (y z : Y) → Has ys y → Has ys z → p x y ≡ true → p w z ≡ true → R (x, y) (w, z)) xs → IsAscending R (pairs xs)
  pairs-IsAscending R [] inner outer = tt
  pairs-IsAscending R (x ∷ xs) inner outer =
      ascending-append R (map (λ y. (x, y)) (filter (p x) ys)) (pairs xs) (ascending-map R (λ y. (x, y)) (filter (p x) ys) one) (pairs-IsAscending R xs (λ w has. inner w (inr has)) outer.1)
      (all_of _ (map (λ y. (x, y)) (filter (p x) ys)) (λ a ha. all_of _ (pairs xs) (λ b hb. across a b ha hb)))
    where
      one : IsAscending (λ y z. R (x, y) (x, z)) (filter (p x) ys)
      one = IsAscending-map_on (λ y z. p x y ≡ true → p x z ≡ true → R (x, y) (x, z)) _ (filter (p x) ys)
          (λ y z hy hz rise. rise (filter_has (p x) ys y hy).1 (filter_has (p x) ys z hz).1) (ascending-filter _ (p x) ys (inner x (inl refl)))

      across : (a b : X × Y) → Has (map (λ y. (x, y)) (filter (p x) ys)) a → Has (pairs xs) b → R a b
      across a b ha hb =
          let it = map_has (λ y. (x, y)) (filter (p x) ys) a ha in
          let kept = filter_has (p x) ys it.0 it.1 in
          let other = pairs-sound xs b hb in
          subst (λ w. R w b) (sym it.2) (at_has _ xs b.0 outer.0 other.0 it.0 b.1 kept.0 other.1 kept.1 other.2)
