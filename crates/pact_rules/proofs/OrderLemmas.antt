-- Rules in a map, in the order of their texts.
use Rattle.std.specs.{Ordering.{is_eq, match_ordering, ordering_reverse}, Cmp.Lexicographic.{slice_cmp}, Map.{lookup}, BTreeMap.{is_at, insert_entry}}
use Rattle.std.specs.List.{AllByRecursion, list_any, filter}
use Rattle.std.proofs.Common.{◌≡◌, ℕ, Bool, true, false, cond, ◌||◌, List, [], ◌∷◌, map, Option, Some, is_some, String, Global, Ordering, Less, Equal, Greater, nat_cmp, string_bytes, string_cmp, bytes_eq, refl, sym, ap, ◌∙◌, subst, ⊎_elim, true≢false}
use Rattle.std.proofs.{lemmas.Bool.{cond_both, or_parts, or_left, or_right, or_cases}, lemmas.Cmp.{nat_list_cmp_total}}
use Rattle.std.proofs.{lemmas.List.Elements.{All-filter, All-from_recursion, recursion_from_All}, lemmas.Map.Text.{is_eq-slice_cmp}}
use Rattle.std.proofs.lemmas.Slice.Eq.{bytes_eq-Decides}
use Rattle.pact_rules.specs.{Rules.{IsBefore, IsOrderedBy, put}, RuleViews.{IsKeyedBy}}

-- texts that compare equal are equal
pub slice_cmp-Equal : (a b : List ℕ) → slice_cmp nat_cmp a b ≡ Equal → a ≡ b
slice_cmp-Equal a b e = (bytes_eq-Decides a b).0 (sym (is_eq-slice_cmp a b) ∙ ap is_eq e)

-- what holds of each of the three holds of the one that the order takes
pub match_ordering-any : {A : Type 0} (o : Ordering) (x y z : A) (P : A → Type 0) → (o ≡ Less → P x) → (o ≡ Equal → P y) → (o ≡ Greater → P z)
    → P (match_ordering o x y z)
match_ordering-any Less x y z P less equal greater = less refl
match_ordering-any Equal x y z P less equal greater = equal refl
match_ordering-any Greater x y z P less equal greater = greater refl

module _ {X A : Type 0} (view : X → A) (text : A → List ℕ) where
  -- ---- the values of a map

  map-match_ordering : (o : Ordering) (k : String Global) (v : X) (e : String Global × X) (es more : List (String Global × X))
      → map (λ (e : String Global × X). view e.1) (match_ordering o ((k, v) ∷ e ∷ es) ((e.0, v) ∷ es) (e ∷ more))
      ≡ match_ordering o (view v ∷ view e.1 ∷ map (λ (e : String Global × X). view e.1) es) (view v ∷ map (λ (e : String Global × X). view e.1) es) (view e.1 ∷ map (λ (e : String Global × X). view e.1) more)
  map-match_ordering Less k v e es more = refl
  map-match_ordering o k v e es more = refl

  pub put-insert_entry : (es : List (String Global × X)) (k : String Global) (v : X) → IsKeyedBy view text es → string_bytes k ≡ text (view v)
      → map (λ (e : String Global × X). view e.1) (insert_entry string_cmp es k v) ≡ put text (view v) (map (λ (e : String Global × X). view e.1) es)
  put-insert_entry [] k v keyed is = refl
  put-insert_entry (e ∷ es) k v keyed is =
      let rest = map (λ (e : String Global × X). view e.1) es in
      map-match_ordering (string_cmp k e.0) k v e es (insert_entry string_cmp es k v)
      ∙ ap (λ zs. match_ordering (string_cmp k e.0) (view v ∷ view e.1 ∷ rest) (view v ∷ rest) (view e.1 ∷ zs)) (put-insert_entry es k v keyed.1 is)
      ∙ ap (λ o. match_ordering o (view v ∷ view e.1 ∷ rest) (view v ∷ rest) (view e.1 ∷ put text (view v) rest))
      (ap (λ a. slice_cmp nat_cmp a (string_bytes e.0)) is ∙ ap (slice_cmp nat_cmp (text (view v))) keyed.0)

  pub IsKeyedBy-insert_entry : (es : List (String Global × X)) (k : String Global) (v : X) → IsKeyedBy view text es → string_bytes k ≡ text (view v) → IsKeyedBy view text (insert_entry string_cmp es k v)
  IsKeyedBy-insert_entry [] k v keyed is = (is, tt)
  IsKeyedBy-insert_entry (e ∷ es) k v keyed is =
      match_ordering-any (string_cmp k e.0) ((k, v) ∷ e ∷ es) ((e.0, v) ∷ es) (e ∷ insert_entry string_cmp es k v) (IsKeyedBy view text)
      (λ less. (is, keyed)) (λ equal. (sym (slice_cmp-Equal (string_bytes k) (string_bytes e.0) equal) ∙ is, keyed.1))
      (λ greater. (keyed.0, IsKeyedBy-insert_entry es k v keyed.1 is))

  is_some-cond_or : (t b : Bool) (x : X) (rest : Option X) → is_some rest ≡ b → is_some (cond t (Some x) rest) ≡ (t || b)
  is_some-cond_or true b x rest is = refl
  is_some-cond_or false b x rest is = is

  -- whether a text is a key of a map
  pub lookup-IsKeyedBy : (name : List ℕ) (es : List (String Global × X)) → IsKeyedBy view text es
      → is_some (lookup (is_at (λ k. slice_cmp nat_cmp name (string_bytes k))) es) ≡ list_any (λ r. bytes_eq name (text r)) (map (λ (e : String Global × X). view e.1) es)
  lookup-IsKeyedBy name [] keyed = refl
  lookup-IsKeyedBy name (e ∷ es) keyed =
      is_some-cond_or (is_eq (slice_cmp nat_cmp name (string_bytes e.0))) _ e.1 (lookup (is_at (λ k. slice_cmp nat_cmp name (string_bytes k))) es) (lookup-IsKeyedBy name es keyed.1)
      ∙ ap (λ t. t || list_any (λ r. bytes_eq name (text r)) (map (λ (e : String Global × X). view e.1) es)) (is_eq-slice_cmp name (string_bytes e.0) ∙ ap (bytes_eq name) keyed.0)

-- ---- one more in its place

module _ {A : Type 0} (text : A → List ℕ) where
  pub AllByRecursion-put : (P : A → Type 0) (x : A) (ys : List A) → P x → AllByRecursion P ys → AllByRecursion P (put text x ys)
  AllByRecursion-put P x [] h all = (h, tt)
  AllByRecursion-put P x (y ∷ ys) h all =
      match_ordering-any (slice_cmp nat_cmp (text x) (text y)) (x ∷ y ∷ ys) (x ∷ ys) (y ∷ put text x ys) (AllByRecursion P)
      (λ less. (h, all)) (λ equal. (h, all.1)) (λ greater. (all.0, AllByRecursion-put P x ys h all.1))

  -- what is before the first is before the others
  IsBefore-all : (x y : A) (ys : List A) → IsBefore (text x) (text y) → AllByRecursion (λ z. IsBefore (text y) (text z)) ys → AllByRecursion (λ z. IsBefore (text x) (text z)) ys
  IsBefore-all x y [] h all = tt
  IsBefore-all x y (z ∷ zs) h all = (nat_list_cmp_total.trans (text x) (text y) (text z) h all.0, IsBefore-all x y zs h all.1)

  pub IsOrderedBy-put : (x : A) (ys : List A) → IsOrderedBy text ys → IsOrderedBy text (put text x ys)
  IsOrderedBy-put x [] order = (tt, tt)
  IsOrderedBy-put x (y ∷ ys) order =
      match_ordering-any (slice_cmp nat_cmp (text x) (text y)) (x ∷ y ∷ ys) (x ∷ ys) (y ∷ put text x ys) (IsOrderedBy text) (λ less. ((less, IsBefore-all x y ys less order.0), order))
      (λ equal. (subst (λ t. AllByRecursion (λ z. IsBefore t (text z)) ys) (sym (slice_cmp-Equal (text x) (text y) equal)) order.0, order.1))
      (λ greater. (AllByRecursion-put (λ z. IsBefore (text y) (text z)) x ys (nat_list_cmp_total.antisymm (text y) (text x) ∙ ap ordering_reverse greater) order.0, IsOrderedBy-put x ys order.1))

  -- if no other element has its text, a new element replaces none
  pub list_any-put : (p : A → Bool) (x : A) (ys : List A) → list_any (λ y. bytes_eq (text x) (text y)) ys ≡ false → list_any p (put text x ys) ≡ (p x || list_any p ys)
  list_any-put p x [] free = refl
  list_any-put p x (y ∷ ys) free =
      let f = or_parts (bytes_eq (text x) (text y)) _ free in
      match_ordering-any (slice_cmp nat_cmp (text x) (text y)) (x ∷ y ∷ ys) (x ∷ ys) (y ∷ put text x ys) (λ zs. list_any p zs ≡ (p x || list_any p (y ∷ ys))) (λ less. refl)
      (λ equal. absurd (true≢false (sym (ap is_eq equal) ∙ is_eq-slice_cmp (text x) (text y) ∙ f.0)))
      (λ greater. ap (λ b. p y || b) (list_any-put p x ys f.1) ∙ swap (p y) (p x) (list_any p ys)) where
        swap : (a b c : Bool) → (a || (b || c)) ≡ (b || (a || c))
        swap true true c = refl
        swap true false c = refl
        swap false b c = refl

-- ---- some of a list

module _ {A : Type 0} (p : A → Bool) where
  pub IsOrderedBy-filter : (text : A → List ℕ) (xs : List A) → IsOrderedBy text xs → IsOrderedBy text (filter p xs)
  IsOrderedBy-filter text [] order = tt
  IsOrderedBy-filter text (x ∷ xs) order =
      let following = All-filter p (λ y. IsBefore (text x) (text y)) xs (All-from_recursion (λ y. IsBefore (text x) (text y)) xs order.0) in
      cond_both (p x) (x ∷ filter p xs) (filter p xs) (IsOrderedBy text)
      (λ passes. (recursion_from_All (λ y. IsBefore (text x) (text y)) (filter p xs) following, IsOrderedBy-filter text xs order.1)) (λ fails. IsOrderedBy-filter text xs order.1)

  -- those that are kept pass
  pub AllByRecursion-filter : (P : A → Type 0) (xs : List A) → AllByRecursion P xs → AllByRecursion (λ y. (p y ≡ true) × P y) (filter p xs)
  AllByRecursion-filter P [] all = tt
  AllByRecursion-filter P (x ∷ xs) all =
      cond_both (p x) (x ∷ filter p xs) (filter p xs) (AllByRecursion (λ y. (p y ≡ true) × P y)) (λ passes. ((passes, all.0), AllByRecursion-filter P xs all.1)) (λ fails. AllByRecursion-filter P xs all.1)

  -- one of these stays if each of them passes
  pub list_any-filter : (q : A → Bool) (xs : List A) → ((x : A) → q x ≡ true → p x ≡ true) → list_any q xs ≡ true → list_any q (filter p xs) ≡ true
  list_any-filter q [] h t = t
  list_any-filter q (x ∷ xs) h t =
      let more : list_any q xs ≡ true → list_any q (filter p xs) ≡ true = list_any-filter q xs h in
      let either = or_cases (q x) (list_any q xs) t in
      cond_both (p x) (x ∷ filter p xs) (filter p xs) (λ ys. list_any q ys ≡ true) (λ passes. ⊎_elim (or_left (q x) (list_any q (filter p xs))) (λ u. or_right (q x) (list_any q (filter p xs)) (more u)) either)
      (λ fails. ⊎_elim (λ u. absurd (true≢false (sym (h x u) ∙ fails))) more either)
