-- Among texts in order, of which none is a beginning of the next, at most one begins another text: the last one nat_cmp-Less it.
use Rattle.std.specs.{Ordering.{nat_cmp, is_lt, ordering_then, ordering_index}, Cmp.{nat_cmp_is}, Cmp.Lexicographic.{slice_cmp}, List.{list_any}}
use Rattle.std.specs.List.Sorted.{IsPartitionPoint, IsNonDecreasingBy}
use Rattle.std.proofs.Common.{◌≡◌, ◌∙◌, ◌⊎◌, inl, inr, ⊎_elim, ℕ, suc, ◌<◌, ◌≤◌, ◌+◌, ◌-◌, ◌||◌, Bool, true, false, List, [], ◌∷◌, ◌++◌, Less, Equal, Greater, length, take, drop, get_or, String, Global, string_bytes, refl, sym, ap, arith, append-nil, append_assoc}
use Rattle.std.proofs.{lemmas.Bool.{cases_lt}, lemmas.Slice.Eq.{bytes_eq-Decides}, lemmas.List.{take_at, take-append-drop, get_or_default, drop_more}}
use Rattle.std.proofs.{lemmas.List.Folds.{list_any_at}, lemmas.Cmp.{nat_list_cmp_total}, lemmas.List.Sorted.{searchable_from_sorted}}
use Rattle.pact_rules.{specs.{Matching.{begins, contains}, Gathered.{AreApart, Splits}}, proofs.MatchingLemmas.{contains-sound, contains-complete}}
use Rattle.pact_rules.proofs.OrderLemmas.{slice_cmp-Equal}

-- ---- numbers and bytes

lt-or_eq_or_gt : (x y : ℕ) → (x < y) ⊎ ((x ≡ y) ⊎ (y < x))
lt-or_eq_or_gt x y = ⊎_elim (λ lt. inl lt) (λ le. ⊎_elim (λ gt. inr (inr gt)) (λ ge. inr (inl (omega (arith, le, ge)))) (cases_lt y x)) (cases_lt x y)

nat_cmp-Less : (x y : ℕ) → x < y → nat_cmp x y ≡ Less
nat_cmp-Less x y lt = sym (nat_cmp_is x y Less lt)

nat_cmp-Greater : (x y : ℕ) → y < x → nat_cmp x y ≡ Greater
nat_cmp-Greater x y lt = sym (nat_cmp_is x y Greater lt)

same : (x y : ℕ) → x ≡ y → nat_cmp x y ≡ Equal
same x y e = sym (nat_cmp_is x y Equal e)

-- ---- the one text begins the other

pub begins-split : (p s : List ℕ) → begins p s ≡ true → s ≡ p ++ drop (length p) s
begins-split p s h = sym (ap (λ xs. xs ++ drop (length p) s) ((bytes_eq-Decides p (take (length p) s)).0 h) ∙ take-append-drop (length p) s)

pub begins-append : (p t : List ℕ) → begins p (p ++ t) ≡ true
begins-append p t = (bytes_eq-Decides p (take (length p) (p ++ t))).1 (sym (take_at p t (length p) refl))

pub begins-itself : (p s : List ℕ) → p ≡ s → begins p s ≡ true
begins-itself p s e = ap (begins p) (sym e ∙ sym (append-nil p)) ∙ begins-append p []

-- what is at least the beginning, and nat_cmp-Less the whole, begins with it too
slice_cmp-between : (p r t : List ℕ) → is_lt (slice_cmp nat_cmp r p) ≡ false → slice_cmp nat_cmp r (p ++ t) ≡ Less → (u : List ℕ) × (r ≡ p ++ u)
slice_cmp-between [] r t h g = (r, refl)
slice_cmp-between (b ∷ p) [] t h g = absurd cc
slice_cmp-between (b ∷ p) (d ∷ r) t h g =
    ⊎_elim (λ lt. let e : true ≡ false = sym (ap (λ o. is_lt (ordering_then o (slice_cmp nat_cmp r p))) (nat_cmp-Less d b lt)) ∙ h in absurd cc)
    (λ ge. ⊎_elim (λ e.
    let low : is_lt (slice_cmp nat_cmp r p) ≡ false = sym (ap (λ o. is_lt (ordering_then o (slice_cmp nat_cmp r p))) (same d b e)) ∙ h in
    let less : slice_cmp nat_cmp r (p ++ t) ≡ Less = sym (ap (λ o. ordering_then o (slice_cmp nat_cmp r (p ++ t))) (same d b e)) ∙ g in
    let rest = slice_cmp-between p r t low less in
    (rest.0, (λ i. e i ∷ rest.1 i)))
    (λ gt. let e : Greater ≡ Less = sym (ap (λ o. ordering_then o (slice_cmp nat_cmp r (p ++ t))) (nat_cmp-Greater d b gt)) ∙ g in absurd cc) ge) (lt-or_eq_or_gt d b)

slice_cmp-not_above : {P : Type 0} (p t : List ℕ) → slice_cmp nat_cmp p (p ++ t) ≡ Greater → P
slice_cmp-not_above [] [] h = absurd cc
slice_cmp-not_above [] (x ∷ t) h = absurd cc
slice_cmp-not_above (b ∷ p) t h = slice_cmp-not_above p t (sym (ap (λ o. ordering_then o (slice_cmp nat_cmp p (p ++ t))) (same b b refl)) ∙ h)

-- ---- a list of them

pub begins-only_last : (xs : List (String Global)) (s : List ℕ) (i j : ℕ) (d : String Global) → AreApart xs
    → IsPartitionPoint (λ x. slice_cmp nat_cmp (string_bytes x) s ≡ Less) (λ x. slice_cmp nat_cmp (string_bytes x) s ≡ Greater) xs i
    → i ≤ length xs → j < length xs → begins (string_bytes (get_or xs j d)) s ≡ true → j + 1 ≡ i
begins-only_last xs s i j d apart split within inside h =
    let p = string_bytes (get_or xs j d) in
    let t = drop (length p) s in
    let s_is : s ≡ p ++ t = begins-split p s h in
    ⊎_elim (λ lt. ⊎_elim (λ more.
    let r = string_bytes (get_or xs (j + 1) d) in
    let near = apart j d (omega (arith, more, within)) in
    let less : slice_cmp nat_cmp r (p ++ t) ≡ Less = ap (slice_cmp nat_cmp r) (sym s_is) ∙ split.0 (j + 1) d (omega arith) more in
    let u = slice_cmp-between p r t near.0 less in
    let e : true ≡ false = sym (ap (begins p) u.1 ∙ begins-append p u.0) ∙ near.1 in absurd cc)
    (λ le. omega (arith, lt, le)) (cases_lt (j + 1) i))
    (λ le. slice_cmp-not_above p t (ap (slice_cmp nat_cmp p) (sym s_is) ∙ split.1 j d le inside)) (cases_lt j i)

-- none of them, where none is at any index
list_any-none_at : {A : Type 0} (f : A → Bool) (xs : List A) → ((j : ℕ) (d : A) → j < length xs → f (get_or xs j d) ≡ false) → list_any f xs ≡ false
list_any-none_at f [] h = refl
list_any-none_at f (x ∷ xs) h = (λ i. h 0 x (omega arith) i || list_any f xs) ∙ list_any-none_at f xs (λ j d lt. h (suc j) d (omega (arith, lt)))

not-true_false : (b : Bool) → ¬ (b ≡ true) → b ≡ false
not-true_false true n = absurd (n refl)
not-true_false false n = refl

pub begins-list_any_at : (xs : List (String Global)) (s : List ℕ) (i : ℕ) → i < length xs → ((d : String Global) → slice_cmp nat_cmp (string_bytes (get_or xs i d)) s ≡ Equal)
    → list_any (λ x. begins (string_bytes x) s) xs ≡ true
begins-list_any_at [] s i lt h = absurd (omega (arith, lt))
begins-list_any_at (x ∷ xs) s i lt h =
    list_any_at (λ x. begins (string_bytes x) s) (x ∷ xs) i x lt (begins-itself (string_bytes (get_or (x ∷ xs) i x)) s (slice_cmp-Equal (string_bytes (get_or (x ∷ xs) i x)) s (h x)))

pub begins-list_any_before : (xs : List (String Global)) (s : List ℕ) (i : ℕ) (part : String Global) (r : Bool) → AreApart xs → Splits xs s i → i ≤ length xs → 0 < i
    → part ≡ get_or xs (i - 1) part → r ≡ begins (string_bytes part) s → r ≡ list_any (λ x. begins (string_bytes x) s) xs
begins-list_any_before xs s i part true apart split within some is h =
    sym (list_any_at (λ x. begins (string_bytes x) s) xs (i - 1) part (omega (arith, within, some)) (ap (λ p. begins (string_bytes p) s) (sym is) ∙ sym h))
begins-list_any_before xs s i part false apart split within some is h =
    sym (list_any-none_at (λ x. begins (string_bytes x) s) xs (λ j d lt. not-true_false (begins (string_bytes (get_or xs j d)) s) (λ found.
    let at : j + 1 ≡ i = begins-only_last xs s i j d apart split within lt found in
    let same : get_or xs j d ≡ part = get_or_default xs j d part lt ∙ ap (λ n. get_or xs n part) (omega (arith, at)) ∙ sym is in
    let e : false ≡ true = h ∙ ap (λ p. begins (string_bytes p) s) (sym same) ∙ found in absurd cc)))

pub begins-list_any_none : (xs : List (String Global)) (s : List ℕ) → AreApart xs → Splits xs s 0 → list_any (λ x. begins (string_bytes x) s) xs ≡ false
begins-list_any_none xs s apart split =
    list_any-none_at (λ x. begins (string_bytes x) s) xs (λ j d lt. not-true_false (begins (string_bytes (get_or xs j d)) s) (λ found.
    absurd (omega (arith, begins-only_last xs s 0 j d apart split (omega arith) lt found))))

pub IsNonDecreasingBy-parts : (xs : List (String Global)) (s : List ℕ) → AreApart xs → IsNonDecreasingBy (λ x. ordering_index (slice_cmp nat_cmp (string_bytes x) s)) xs
IsNonDecreasingBy-parts xs s apart = searchable_from_sorted nat_list_cmp_total (λ (x : String Global). string_bytes x) xs s (λ k d a b. (apart k d b).0)

-- ---- in a text

pub list_any-or : {A : Type 0} (f g : A → Bool) (xs : List A) → list_any (λ x. f x || g x) xs ≡ (list_any f xs || list_any g xs)
list_any-or f g [] = refl
list_any-or f g (x ∷ xs) = ap (λ r. (f x || g x) || r) (list_any-or f g xs) ∙ exchanged (f x) (g x) (list_any f xs) (list_any g xs)
  where
    exchanged : (a b c d : Bool) → ((a || b) || (c || d)) ≡ ((a || c) || (b || d))
    exchanged true b c d = refl
    exchanged false true true d = refl
    exchanged false true false d = refl
    exchanged false false c d = refl

-- a text contains one of the parts if it begins with one, or its rest after the first byte contains one
pub contains-list_any_cons : (xs : List (String Global)) (b : ℕ) (bs : List ℕ)
    → list_any (λ s. contains (string_bytes s) (b ∷ bs)) xs ≡ (list_any (λ s. begins (string_bytes s) (b ∷ bs)) xs || list_any (λ s. contains (string_bytes s) bs) xs)
contains-list_any_cons xs b bs = list_any-or (λ s. begins (string_bytes s) (b ∷ bs)) (λ s. contains (string_bytes s) bs) xs

-- the same at an index
pub contains-list_any_drop : (xs : List (String Global)) (t : List ℕ) (at : ℕ) → at < length t
    → list_any (λ s. contains (string_bytes s) (drop at t)) xs ≡ (list_any (λ s. begins (string_bytes s) (drop at t)) xs || list_any (λ s. contains (string_bytes s) (drop (at + 1) t)) xs)
contains-list_any_drop xs t at lt =
    let e : drop at t ≡ get_or t at 0 ∷ drop (at + 1) t = drop_more t at 0 lt in
    ap (λ bs. list_any (λ s. contains (string_bytes s) bs) xs) e ∙ contains-list_any_cons xs (get_or t at 0) (drop (at + 1) t)
    ∙ ap (λ bs. list_any (λ s. begins (string_bytes s) bs) xs || list_any (λ s. contains (string_bytes s) (drop (at + 1) t)) xs) (sym e)

-- what contains the longer contains the contains-shorter_part
pub contains-shorter_part : (p q t : List ℕ) → begins p q ≡ true → contains q t ≡ true → contains p t ≡ true
contains-shorter_part p q t h c =
    let at = contains-sound q t c in
    let rest = drop (length p) q in
    let split : q ≡ p ++ rest = begins-split p q h in
    let whole : t ≡ at.0 ++ (p ++ (rest ++ at.1)) = at.2 ∙ ap (λ x. at.0 ++ (x ++ at.1)) split ∙ ap (λ x. at.0 ++ x) (append_assoc p rest at.1) in
    ap (contains p) whole ∙ contains-complete p at.0 (rest ++ at.1)

pub or-implied : (a b : Bool) → (b ≡ true → a ≡ true) → (a || b) ≡ a
or-implied true b h = refl
or-implied false true h = sym (h refl)
or-implied false false h = refl
