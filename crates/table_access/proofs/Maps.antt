-- Rows as a finite map.
use Rattle.std.specs.{List.{AllByRecursion}, Prelude.{option_map}, Ordering.{eq_by_cmp}, Cmp.{IsTotalOrder, eq_by_cmp_equiv, Equal-is}}
use Rattle.std.specs.{List.Sorted.{IsPermutation}, FinMap.{find, IsAntisymmetric}}
use Rattle.std.proofs.Common.{inl, inr, subst, ◌≡◌, List, [], ◌∷◌, ◌++◌, Bool, true, false, cond, not, refl, ap, ◌∙◌, sym, slice_get, Some, None, arith, length, filter, map, ◌≤◌, Ordering}
use Rattle.std.proofs.{lemmas.List.Sorted.{length_permutation}, lemmas.List.{map-append, length-map}}
use Rattle.sqlite.{specs.{Order.{Row}, Tree.{IsAscending}}, proofs.Callers.{one_permutation}}
use Rattle.sqlite_rules.specs.Lists.{Has}
use Rattle.table_access.{specs.Statements.{IsAdded}, proofs.{SoundLemmas.{at_has}, Values.{cond-same}}}

-- lists of at most one element that are permutations are equal
pub IsPermutation-at_most_one : {X : Type 0} (xs ys : List X) → length xs ≤ 1 → IsPermutation xs ys → ys ≡ xs
IsPermutation-at_most_one [] [] few same = refl
IsPermutation-at_most_one [] (y ∷ ys) few same = absurd (let e = length_permutation [] (y ∷ ys) same in omega (arith, e))
IsPermutation-at_most_one (x ∷ []) ys few same = one_permutation x ys same
IsPermutation-at_most_one (x ∷ y ∷ xs) ys few same = absurd (omega arith)

module _ {K V : Type 0} {R : K → K → Ordering} (o : IsTotalOrder R) (exact : IsAntisymmetric R) (key : Row → K) (value : Row → V) where
  abbrev pub entries : List Row → List (K × V)
  entries = map (λ r. (key r, value r))

  find-first_kept : (k : K) (p : Row → Bool) (rows : List Row) → AllByRecursion (λ r. p r ≡ eq_by_cmp R k (key r)) rows → find R k (entries rows) ≡ option_map value (slice_get (filter p rows) 0)
  find-first_kept k p [] same = refl
  find-first_kept k p (r ∷ rows) same =
      elim (p r) as (λ b. p r ≡ b → cond (eq_by_cmp R k (key r)) (Some (value r)) (find R k (entries rows)) ≡ option_map value (slice_get (cond b (r ∷ filter p rows) (filter p rows)) 0)) [
        | true ↦ λ t. ap (λ b. cond b (Some (value r)) (find R k (entries rows))) (sym same.0 ∙ t)
        | false ↦ λ t. ap (λ b. cond b (Some (value r)) (find R k (entries rows))) (sym same.0 ∙ t) ∙ find-first_kept k p rows same.1
      ] refl

  eq_by_cmp-share_left : (q k x : K) → eq_by_cmp R q k ≡ true → eq_by_cmp R q x ≡ true → eq_by_cmp R k x ≡ true
  eq_by_cmp-share_left q k x a b = sym ((eq_by_cmp_equiv o).congr q k x a) ∙ b

  find-middle : (front back : List (K × V)) (k : K) (v : V) (q : K) → find R k (front ++ back) ≡ None → find R q (front ++ (k, v) ∷ back) ≡ cond (eq_by_cmp R q k) (Some v) (find R q (front ++ back))
  find-middle [] back k v q none = refl
  find-middle (e ∷ front) back k v q none =
      go (eq_by_cmp R k e.0) refl none (eq_by_cmp R q e.0) refl (eq_by_cmp R q k) refl (λ h. find-middle front back k v q h)
    where
      go : (a : Bool) → eq_by_cmp R k e.0 ≡ a → cond a (Some e.1) (find R k (front ++ back)) ≡ None → (b : Bool) → eq_by_cmp R q e.0 ≡ b → (c : Bool) → eq_by_cmp R q k ≡ c
          → (find R k (front ++ back) ≡ None → find R q (front ++ (k, v) ∷ back) ≡ cond (eq_by_cmp R q k) (Some v) (find R q (front ++ back)))
          → cond b (Some e.1) (find R q (front ++ (k, v) ∷ back)) ≡ cond c (Some v) (cond b (Some e.1) (find R q (front ++ back)))
      go true ea h b eb c ec later = absurd cc
      go false ea h true eb true ec later = absurd (let both = eq_by_cmp-share_left q k e.0 ec eb in cc)
      go false ea h true eb false ec later = refl
      go false ea h false eb c ec later = later h ∙ ap (λ t. cond t (Some v) (find R q (front ++ back))) ec

  -- no two rows have one key
  abbrev pub AreKeys : List Row → Type 0
  AreKeys = IsAscending (λ a b. eq_by_cmp R (key a) (key b) ≡ false)

  filter-empty_after_key : (k : K) (p : Row → Bool) (r : Row) (rows : List Row) → eq_by_cmp R k (key r) ≡ true → AllByRecursion (λ x. p x ≡ eq_by_cmp R k (key x)) rows → AllByRecursion (λ b. eq_by_cmp R (key r) (key b) ≡ false) rows → filter p rows ≡ []
  filter-empty_after_key k p r [] here same apart = refl
  filter-empty_after_key k p r (x ∷ rows) here same apart =
      let test : p x ≡ false = same.0 ∙ (eq_by_cmp_equiv o).congr k (key r) (key x) here ∙ apart.0 in
      rw test (filter-empty_after_key k p r rows here same.1 apart.1)

  length-filter-by_key : (k : K) (p : Row → Bool) (rows : List Row) → AllByRecursion (λ r. p r ≡ eq_by_cmp R k (key r)) rows → AreKeys rows → length (filter p rows) ≤ 1
  length-filter-by_key k p [] same apart = omega arith
  length-filter-by_key k p (r ∷ rows) same apart =
      elim (p r) as (λ b. p r ≡ b → length (cond b (r ∷ filter p rows) (filter p rows)) ≤ 1) [
        | true ↦ λ t. let none = filter-empty_after_key k p r rows (sym same.0 ∙ t) same.1 apart.0 in rw none (omega arith)
        | false ↦ λ t. length-filter-by_key k p rows same.1 apart.1
      ] refl

  eq_by_cmp-share_right : (q k x : K) → eq_by_cmp R q x ≡ true → eq_by_cmp R k x ≡ true → eq_by_cmp R q k ≡ true
  eq_by_cmp-share_right q k x a b = (eq_by_cmp_equiv o).congr q x k a ∙ (eq_by_cmp_equiv o).symm x k ∙ b

  pub find-filter_out : (k q : K) (p : Row → Bool) (rows : List Row) → AllByRecursion (λ r. p r ≡ eq_by_cmp R k (key r)) rows → find R q (entries (filter (λ r. not (p r)) rows)) ≡ cond (eq_by_cmp R q k) None (find R q (entries rows))
  find-filter_out k q p [] same = sym (cond-same (eq_by_cmp R q k) None)
  find-filter_out k q p (r ∷ rows) same = go (p r) refl (eq_by_cmp R q (key r)) refl (eq_by_cmp R q k) refl (find-filter_out k q p rows same.1)
    where
      go : (a : Bool) → p r ≡ a → (b : Bool) → eq_by_cmp R q (key r) ≡ b → (c : Bool) → eq_by_cmp R q k ≡ c → find R q (entries (filter (λ x. not (p x)) rows)) ≡ cond (eq_by_cmp R q k) None (find R q (entries rows))
          → find R q (entries (cond (not a) (r ∷ filter (λ x. not (p x)) rows) (filter (λ x. not (p x)) rows))) ≡ cond c None (cond b (Some (value r)) (find R q (entries rows)))
      go true ea true eb false ec later = absurd (let same_key = eq_by_cmp-share_right q k (key r) eb (sym same.0 ∙ ea) in cc)
      go true ea _ eb c ec later = later ∙ ap (λ t. cond t None (find R q (entries rows))) ec
      go false ea true eb true ec later = absurd (let hit = eq_by_cmp-share_left q k (key r) ec eb in let e = sym same.0 ∙ ea in cc)
      go false ea true eb false ec later = ap (λ t. cond t (Some (value r)) (find R q (entries (filter (λ x. not (p x)) rows)))) eb
      go false ea false eb c ec later = ap (λ t. cond t (Some (value r)) (find R q (entries (filter (λ x. not (p x)) rows)))) eb ∙ later ∙ ap (λ t. cond t None (find R q (entries rows))) ec

  -- ---- a table as the function that finds the value of a key

  -- if the query is by the whole key, the first row of the answer reads as the value that the key has
  pub find-first_shown : {S : Type 0} (show : Row → S) (read : S → V) → ((r : Row) → read (show r) ≡ value r) → (k : K) (p : Row → Bool) (rows : List Row) (out : List S) → AllByRecursion (λ r. p r ≡ eq_by_cmp R k (key r)) rows → AreKeys rows → IsPermutation (map show (filter p rows)) out
      → option_map read (slice_get out 0) ≡ find R k (entries rows)
  find-first_shown show read reads k p rows out same apart some =
      let one = IsPermutation-at_most_one (map show (filter p rows)) out (omega (arith, length-map (filter p rows) show, length-filter-by_key k p rows same apart)) some in
      ap (λ xs. option_map read (slice_get xs 0)) one ∙ first (filter p rows) ∙ sym (find-first_kept k p rows same)
    where
      first : (rs : List Row) → option_map read (slice_get (map show rs) 0) ≡ option_map value (slice_get rs 0)
      first [] = refl
      first (r ∷ rs) = ap Some (reads r)

  -- a row whose key is new
  pub find-IsAdded : (old new : List Row) (row : Row) → IsAdded old new row → find R (key row) (entries old) ≡ None → (q : K) → find R q (entries new) ≡ cond (eq_by_cmp R q (key row)) (Some (value row)) (find R q (entries old))
  find-IsAdded old new row it none q =
      let was = ap entries it.was ∙ map-append _ it.front it.back in
      ap (find R q) (ap entries it.is ∙ map-append _ it.front (row ∷ it.back)) ∙ find-middle (entries it.front) (entries it.back) (key row) (value row) q (sym (ap (find R (key row)) was) ∙ none)
      ∙ ap (cond (eq_by_cmp R q (key row)) (Some (value row))) (sym (ap (find R q) was))

  -- what is find-first_kept is in a row
  pub find-has_row : (k : K) (v : V) (rows : List Row) → find R k (entries rows) ≡ Some v → (r : Row) × Has rows r × (k ≡ key r) × (value r ≡ v)
  find-has_row k v [] h = absurd cc
  find-has_row k v (r ∷ rows) h = go (eq_by_cmp R k (key r)) refl h (λ later. find-has_row k v rows later)
    where
      go : (b : Bool) → eq_by_cmp R k (key r) ≡ b → cond b (Some (value r)) (find R k (entries rows)) ≡ Some v → (find R k (entries rows) ≡ Some v → (x : Row) × Has rows x × (k ≡ key x) × (value x ≡ v))
          → (x : Row) × Has (r ∷ rows) x × (k ≡ key x) × (value x ≡ v)
      go true e h more = (r, inl refl, exact k (key r) ((Equal-is (R k (key r))).0 e), cc)
      go false e h more = let it = more h in (it.0, inr it.1, it.2, it.3)

  -- a key that isn't find-first_kept is the key of no row
  pub find-None_no_row : (k : K) (rows : List Row) (r : Row) → find R k (entries rows) ≡ None → Has rows r → eq_by_cmp R k (key r) ≡ false
  find-None_no_row k [] r h has = absurd has
  find-None_no_row k (x ∷ rows) r h has = go (eq_by_cmp R k (key x)) refl h (λ e later. find-None_no_row k rows r e later) has
    where
      go : (b : Bool) → eq_by_cmp R k (key x) ≡ b → cond b (Some (value x)) (find R k (entries rows)) ≡ None → (find R k (entries rows) ≡ None → Has rows r → eq_by_cmp R k (key r) ≡ false) → Has (x ∷ rows) r → eq_by_cmp R k (key r) ≡ false
      go true e h more has = absurd cc
      go false e h more (inl same) = subst (λ y. eq_by_cmp R k (key y) ≡ false) (sym same) e
      go false e h more (inr later) = more h later

  -- a row is find-first_kept by its key
  pub find-of_row : (rows : List Row) (r : Row) → AreKeys rows → Has rows r → find R (key r) (entries rows) ≡ Some (value r)
  find-of_row [] r apart has = absurd has
  find-of_row (x ∷ rows) r apart (inl same) = subst (λ y. find R (key y) (entries (x ∷ rows)) ≡ Some (value y)) (sym same) (ap (λ b. cond b (Some (value x)) (find R (key x) (entries rows))) ((eq_by_cmp_equiv o).refl (key x)))
  find-of_row (x ∷ rows) r apart (inr later) =
      let other : eq_by_cmp R (key r) (key x) ≡ false = (eq_by_cmp_equiv o).symm (key r) (key x) ∙ at_has _ rows r apart.0 later in
      ap (λ b. cond b (Some (value x)) (find R (key r) (entries rows))) other ∙ find-of_row rows r apart.1 later

-- ---- a table with two keys

module _ {K V : Type 0} {R : K → K → Ordering} {S : V → V → Ordering} (o : IsTotalOrder R) (exact : IsAntisymmetric R) (p : IsTotalOrder S) (exact_too : IsAntisymmetric S) (key : Row → K) (value : Row → V) (rows : List Row) where
  -- if no two rows have one key, the key that a value finds finds that value
  pub find-inverse : (k : K) (v : V) → AreKeys o exact key value rows → find S v (map (λ r. (value r, key r)) rows) ≡ Some k → find R k (map (λ r. (key r, value r)) rows) ≡ Some v
  find-inverse k v keys h =
      let it = find-has_row p exact_too value key v k rows h in
      ap (λ x. find R x (map (λ r. (key r, value r)) rows)) (sym it.3) ∙ find-of_row o exact key value rows it.0 keys it.1 ∙ ap Some (sym it.2)

  -- a value that finds no key is find-first_kept by no key
  pub find-inverse_None : (k : K) (v : V) → find S v (map (λ r. (value r, key r)) rows) ≡ None → find R k (map (λ r. (key r, value r)) rows) ≡ Some v → ⊥
  find-inverse_None k v none h =
      let it = find-has_row o exact key value k v rows h in
      let apart = find-None_no_row p exact_too value key v rows it.0 none it.1 in
      let same : eq_by_cmp S v (value it.0) ≡ true = ap (eq_by_cmp S v) it.3 ∙ (eq_by_cmp_equiv p).refl v in
      cc
