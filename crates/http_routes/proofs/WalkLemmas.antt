-- What the router's walk finds: a row whose tokens take the path, and one wherever there is such a row.
use Rattle.std.specs.{List.{ends_with}, Cmp.Lexicographic.{pointwise}}
use Rattle.std.proofs.Common.{◌≡◌, ℕ, zero, suc, ◌-◌, ◌<◌, List, [], ◌∷◌, length, drop, Option, Some, None, is_some, Bool, true, false, cond, refl, sym, ap, subst, ◌∙◌, arith, nat_eq, ◌==◌, ltb, ◌&&◌, not, ◌⊎◌, inl, inr}
use Rattle.std.proofs.{lemmas.Bool.{and_parts}, lemmas.Bool.Decides.{nat_tests}}
use Rattle.matchit.specs.Rows.{RowsOf}
use Rattle.matchit.specs.Seek.{segment, has_slash, same_text, cuts, better, own, step, or_else, longest_from, longest_suffix, with_suffix, param_step, seek}

-- the list ends here, or goes on with a slash
abbrev pub ends_segment : List ℕ → Bool
ends_segment [] = true
ends_segment (x ∷ t) = x == 47

-- each token is a byte, or a parameter that takes a whole segment
abbrev pub is_plain : List ℕ → Bool
is_plain [] = true
is_plain (x ∷ t) = cond (x == 256) (ends_segment t) (ltb x 256) && is_plain t

-- what follows the first segment
abbrev pub after_segment : List ℕ → List ℕ
after_segment [] = []
after_segment (b ∷ path) = cond (b == 47) (b ∷ path) (after_segment path)

abbrev pub is_nil : List ℕ → Bool
is_nil [] = true
is_nil (b ∷ path) = false

-- the tokens take the path: a byte itself, a parameter a segment that isn't empty
abbrev pub takes : List ℕ → List ℕ → Bool
takes [] path = is_nil path
takes (x ∷ t) [] = false
takes (x ∷ t) (b ∷ path) = cond (x == 256) (not (b == 47) && takes t (after_segment path)) ((x == b) && takes t path)

head-same : (x y : ℕ) (t u : List ℕ) → x ∷ t ≡ y ∷ u → x ≡ y
head-same x y t u e = cc

tail-same : (x y : ℕ) (t u : List ℕ) → x ∷ t ≡ y ∷ u → t ≡ u
tail-same x y t u e = cc

not-nil : (x : ℕ) (t : List ℕ) → [] ≡ x ∷ t → ⊥
not-nil x t e = cc

-- the bytes of a path, by their segment

ends_with-segment : (b : ℕ) (p : List ℕ) → (b == 47) ≡ false → ends_with nat_eq (b ∷ segment p) (47 ∷ []) ≡ has_slash p
ends_with-segment b [] e = grind (arith, nat_tests)
ends_with-segment b (c ∷ q) e = by (c == 47) refl (λ d. ends_with-segment c q d)
  where
    by : (v : Bool) → (c == 47) ≡ v → ((c == 47) ≡ false → ends_with nat_eq (c ∷ segment q) (47 ∷ []) ≡ has_slash q)
        → pointwise nat_eq (47 ∷ []) (drop (length (b ∷ cond (c == 47) (c ∷ []) (c ∷ segment q)) - 1) (b ∷ cond (c == 47) (c ∷ []) (c ∷ segment q))) ≡ cond (c == 47) true (has_slash q)
    by true d ih = rw d (grind (arith, nat_tests))
    by false d ih =
        let n : suc (suc (length (segment q))) - 1 ≡ suc (suc (length (segment q)) - 1) = omega arith in
        rw d (ap (λ m. pointwise nat_eq (47 ∷ []) (drop m (b ∷ c ∷ segment q))) n ∙ ih d)

some-segment : (p : List ℕ) → has_slash p ≡ true → 0 < length (segment p)
some-segment [] e = cc
some-segment (c ∷ q) e = by (c == 47)
  where
    by : (v : Bool) → 0 < length (cond v (c ∷ []) (c ∷ segment q))
    by true = omega arith
    by false = omega arith

-- after a first byte that is no slash, a segment ends with a slash if and only if there is one
pub cuts-other : (b : ℕ) (p : List ℕ) → (b == 47) ≡ false → cuts (segment (b ∷ p)) (47 ∷ []) ≡ has_slash p
cuts-other b p e = rw e (rw (ends_with-segment b p e) (by (has_slash p) refl))
  where
    by : (v : Bool) → has_slash p ≡ v → (ltb 1 (length (b ∷ segment p)) && v) ≡ v
    by true d = let l = some-segment p d in grind (arith, nat_tests)
    by false d = grind (arith, nat_tests)

pub cuts-slash : (b : ℕ) (p : List ℕ) → (b == 47) ≡ true → cuts (segment (b ∷ p)) (47 ∷ []) ≡ false
cuts-slash b p e = rw e refl

pub drop-segment : (p : List ℕ) → has_slash p ≡ true → drop (length (segment p) - 1) p ≡ after_segment p
drop-segment [] e = refl
drop-segment (c ∷ q) e = by (c == 47) refl e (drop-segment q)
  where
    by : (v : Bool) → (c == 47) ≡ v → cond v true (has_slash q) ≡ true → (has_slash q ≡ true → drop (length (segment q) - 1) q ≡ after_segment q)
        → drop (length (cond v (c ∷ []) (c ∷ segment q)) - 1) (c ∷ q) ≡ cond v (c ∷ q) (after_segment q)
    by true d e ih = refl
    by false d e ih =
        let l = some-segment q e in
        let n : suc (length (segment q)) - 1 ≡ suc (length (segment q) - 1) = omega (arith, l) in
        ap (λ m. drop m (c ∷ q)) n ∙ ih e

pub following-none : (p : List ℕ) → has_slash p ≡ false → after_segment p ≡ []
following-none [] e = refl
following-none (c ∷ q) e = by (c == 47) e (following-none q)
  where
    by : (v : Bool) → cond v true (has_slash q) ≡ false → (has_slash q ≡ false → after_segment q ≡ []) → cond v (c ∷ q) (after_segment q) ≡ []
    by true e ih = cc
    by false e ih = ih e

pub following-some : (p : List ℕ) → has_slash p ≡ true → is_nil (after_segment p) ≡ false
following-some [] e = cc
following-some (c ∷ q) e = by (c == 47) e (following-some q)
  where
    by : (v : Bool) → cond v true (has_slash q) ≡ true → (has_slash q ≡ true → is_nil (after_segment q) ≡ false) → is_nil (cond v (c ∷ q) (after_segment q)) ≡ false
    by true e ih = refl
    by false e ih = ih e

drop-all : (p : List ℕ) → drop (length p) p ≡ []
drop-all [] = refl
drop-all (c ∷ q) = drop-all q

-- what ends a segment and takes a path leaves no segment before it
takes-following : (t p : List ℕ) → ends_segment t ≡ true → takes t p ≡ true → takes t (after_segment p) ≡ true
takes-following [] [] s e = refl
takes-following [] (c ∷ p) s e = cc
takes-following (x ∷ t) [] s e = cc
takes-following (x ∷ t) (c ∷ p) s e =
    let x47 : x ≡ 47 = grind (arith, nat_tests) in
    let here : ((47 == c) && takes t p) ≡ true = subst (λ y. takes (y ∷ t) (c ∷ p) ≡ true) x47 e in
    let c47 : (c == 47) ≡ true = (let h = (and_parts (47 == c) (takes t p) here).0 in grind (arith, nat_tests)) in
    ap (λ v. takes (x ∷ t) (cond v (c ∷ p) (after_segment p))) c47 ∙ e

module _ {K : Type 0} where
  -- there is such a row
  abbrev pub HasRow : RowsOf K → List ℕ → K → Type 0
  HasRow [] t k = ⊥
  HasRow ((u, j) ∷ rest) t k = ((u ≡ t) × (j ≡ k)) ⊎ HasRow rest t k

  abbrev pub ArePlain : RowsOf K → Type 0
  ArePlain [] = Unit {0}
  ArePlain ((t, k) ∷ rest) = (is_plain t ≡ true) × ArePlain rest

  -- each row ends, or goes on with a slash
  abbrev pub EndSegments : RowsOf K → Type 0
  EndSegments [] = Unit {0}
  EndSegments ((t, k) ∷ rest) = (ends_segment t ≡ true) × EndSegments rest

  -- some row goes on
  abbrev pub goes_on : RowsOf K → Bool
  goes_on [] = false
  goes_on (([], k) ∷ rest) = goes_on rest
  goes_on ((x ∷ t, k) ∷ rest) = true

  -- rows after a token

  pub HasRow-step : (b : ℕ) (rs : RowsOf K) (t : List ℕ) (k : K) → HasRow (step b rs) t k → HasRow rs (b ∷ t) k
  HasRow-step b [] t k h = h
  HasRow-step b (([], j) ∷ rest) t k h = inr (HasRow-step b rest t k h)
  HasRow-step b ((x ∷ u, j) ∷ rest) t k h = by (x == b) refl h (HasRow-step b rest t k)
    where
      by : (v : Bool) → (x == b) ≡ v → HasRow (cond v ((u, j) ∷ step b rest) (step b rest)) t k → (HasRow (step b rest) t k → HasRow rest (b ∷ t) k) → HasRow ((x ∷ u, j) ∷ rest) (b ∷ t) k
      by true e h ih =
          let xb : x ≡ b = grind (arith, nat_tests) in
          elim h [
            | inl p ↦ inl (rw (xb, p.0) refl, p.1)
            | inr q ↦ inr (ih q)
          ]
      by false e h ih = inr (ih h)

  pub step-HasRow : (b : ℕ) (rs : RowsOf K) (t : List ℕ) (k : K) → HasRow rs (b ∷ t) k → HasRow (step b rs) t k
  step-HasRow b [] t k h = h
  step-HasRow b (([], j) ∷ rest) t k h = elim h [
    | inl p ↦ absurd (not-nil b t p.0)
    | inr q ↦ step-HasRow b rest t k q
  ]
  step-HasRow b ((x ∷ u, j) ∷ rest) t k h = by (x == b) refl h (step-HasRow b rest t k)
    where
      by : (v : Bool) → (x == b) ≡ v → HasRow ((x ∷ u, j) ∷ rest) (b ∷ t) k → (HasRow rest (b ∷ t) k → HasRow (step b rest) t k) → HasRow (cond v ((u, j) ∷ step b rest) (step b rest)) t k
      by true e h ih = elim h [
        | inl p ↦ inl (tail-same x b u t p.0, p.1)
        | inr q ↦ inr (ih q)
      ]
      by false e h ih = elim h [
        | inl p ↦ (let xb = head-same x b u t p.0 in grind (arith, nat_tests))
        | inr q ↦ ih q
      ]

  pub ArePlain-step : (b : ℕ) (rs : RowsOf K) → ArePlain rs → ArePlain (step b rs)
  ArePlain-step b [] h = tt
  ArePlain-step b (([], j) ∷ rest) h = ArePlain-step b rest h.1
  ArePlain-step b ((x ∷ u, j) ∷ rest) h = by (x == b) (ArePlain-step b rest h.1)
    where
      by : (v : Bool) → ArePlain (step b rest) → ArePlain (cond v ((u, j) ∷ step b rest) (step b rest))
      by true ih = ((and_parts _ (is_plain u) h.0).1, ih)
      by false ih = ih

  pub EndSegments-step : (rs : RowsOf K) → ArePlain rs → EndSegments (step 256 rs)
  EndSegments-step [] h = tt
  EndSegments-step (([], j) ∷ rest) h = EndSegments-step rest h.1
  EndSegments-step ((x ∷ u, j) ∷ rest) h = by (x == 256) refl (and_parts _ (is_plain u) h.0).0 (EndSegments-step rest h.1)
    where
      by : (v : Bool) → (x == 256) ≡ v → cond v (ends_segment u) (ltb x 256) ≡ true → EndSegments (step 256 rest) → EndSegments (cond v ((u, j) ∷ step 256 rest) (step 256 rest))
      by true e h ih = (h, ih)
      by false e h ih = ih

  -- no row has a catch-all
  pub own-catch_all : (rs : RowsOf K) → ArePlain rs → own (step 257 rs) ≡ None
  own-catch_all [] h = refl
  own-catch_all (([], j) ∷ rest) h = own-catch_all rest h.1
  own-catch_all ((x ∷ u, j) ∷ rest) h = by (x == 257) refl (and_parts _ (is_plain u) h.0).0 (own-catch_all rest h.1)
    where
      by : (v : Bool) → (x == 257) ≡ v → cond (x == 256) (ends_segment u) (ltb x 256) ≡ true → own (step 257 rest) ≡ None → own (cond v ((u, j) ∷ step 257 rest) (step 257 rest)) ≡ None
      by true e h ih =
          let a : (x == 256) ≡ false = grind (arith, nat_tests) in
          let b : ltb x 256 ≡ false = grind (arith, nat_tests) in
          let bad : false ≡ true = rw (a, b) at h in cc
      by false e h ih = ih

  pub HasRow-own : (rs : RowsOf K) (k : K) → own rs ≡ Some k → HasRow rs [] k
  HasRow-own [] k e = cc
  HasRow-own (([], j) ∷ rest) k e = inl (refl, some-same e)
    where
      some-same : Some j ≡ Some k → j ≡ k
      some-same e = cc
  HasRow-own ((x ∷ u, j) ∷ rest) k e = inr (HasRow-own rest k e)

  pub own-HasRow : (rs : RowsOf K) (k : K) → HasRow rs [] k → is_some (own rs) ≡ true
  own-HasRow [] k h = elim h [ ]
  own-HasRow (([], j) ∷ rest) k h = refl
  own-HasRow ((x ∷ u, j) ∷ rest) k h = elim h [
    | inl p ↦ absurd (not-nil x u (sym p.0))
    | inr q ↦ own-HasRow rest k q
  ]

  pub or-cases : {P : Type 0} (a b : Option K) (k : K) → or_else a b ≡ Some k → (a ≡ Some k → P) → (b ≡ Some k → P) → P
  or-cases None b k e f g = g e
  or-cases (Some j) b k e f g = f e

  pub or-first : (a b : Option K) → is_some a ≡ true → is_some (or_else a b) ≡ true
  or-first None b e = cc
  or-first (Some j) b e = refl

  pub or-second : (a b : Option K) → is_some b ≡ true → is_some (or_else a b) ≡ true
  or-second None b e = e
  or-second (Some j) b e = refl

  -- rows after a parameter

  pub ArePlain-with : (s : List ℕ) (rs : RowsOf K) → ArePlain rs → ArePlain (with_suffix s rs)
  ArePlain-with s [] h = tt
  ArePlain-with s ((t, j) ∷ rest) h = by (same_text (segment t) s) (ArePlain-with s rest h.1)
    where
      by : (v : Bool) → ArePlain (with_suffix s rest) → ArePlain (cond v ((t, j) ∷ with_suffix s rest) (with_suffix s rest))
      by true ih = (h.0, ih)
      by false ih = ih

  pub HasRow-with : (s : List ℕ) (rs : RowsOf K) (t : List ℕ) (k : K) → HasRow (with_suffix s rs) t k → HasRow rs t k
  HasRow-with s [] t k h = h
  HasRow-with s ((u, j) ∷ rest) t k h = by (same_text (segment u) s) h (HasRow-with s rest t k)
    where
      by : (v : Bool) → HasRow (cond v ((u, j) ∷ with_suffix s rest) (with_suffix s rest)) t k → (HasRow (with_suffix s rest) t k → HasRow rest t k) → HasRow ((u, j) ∷ rest) t k
      by true h ih = elim h [
        | inl p ↦ inl p
        | inr q ↦ inr (ih q)
      ]
      by false h ih = inr (ih h)

  pub with-HasRow : (s : List ℕ) (rs : RowsOf K) (t : List ℕ) (k : K) → same_text (segment t) s ≡ true → HasRow rs t k → HasRow (with_suffix s rs) t k
  with-HasRow s [] t k e h = h
  with-HasRow s ((u, j) ∷ rest) t k e h = by (same_text (segment u) s) refl h (with-HasRow s rest t k e)
    where
      by : (v : Bool) → same_text (segment u) s ≡ v → HasRow ((u, j) ∷ rest) t k → (HasRow rest t k → HasRow (with_suffix s rest) t k) → HasRow (cond v ((u, j) ∷ with_suffix s rest) (with_suffix s rest)) t k
      by true d h ih = elim h [
        | inl p ↦ inl p
        | inr q ↦ inr (ih q)
      ]
      by false d h ih = elim h [
        | inl p ↦ (let bad : false ≡ true = sym d ∙ ap (λ w. same_text (segment w) s) p.0 ∙ e in cc)
        | inr q ↦ ih q
      ]

  -- once found, the slash stays the longest
  longest-kept : (seg : List ℕ) (rs : RowsOf K) → EndSegments rs → longest_from seg (47 ∷ []) rs ≡ 47 ∷ []
  longest-kept seg [] h = refl
  longest-kept seg (([], j) ∷ rest) h = longest-kept seg rest h.1
  longest-kept seg ((x ∷ u, j) ∷ rest) h = rw h.0 (longest-kept seg rest h.1)

  -- if rows end their segments, the longest suffix is a slash or nothing
  pub longest-is : (seg : List ℕ) (rs : RowsOf K) → EndSegments rs → longest_suffix seg rs ≡ cond (cuts seg (47 ∷ []) && goes_on rs) (47 ∷ []) []
  longest-is seg [] h = by (cuts seg (47 ∷ []))
    where
      by : (v : Bool) → ◌≡◌ {A = List ℕ} [] (cond (v && false) (47 ∷ []) [])
      by true = refl
      by false = refl
  longest-is seg (([], j) ∷ rest) h = longest-is seg rest h.1
  longest-is seg ((x ∷ u, j) ∷ rest) h = by (cuts seg (47 ∷ [])) refl (longest-is seg rest h.1)
    where
      by : (v : Bool) → cuts seg (47 ∷ []) ≡ v → longest_from seg [] rest ≡ cond (cuts seg (47 ∷ []) && goes_on rest) (47 ∷ []) []
          → longest_from seg (better seg [] (segment (x ∷ u))) rest ≡ cond (cuts seg (47 ∷ []) && true) (47 ∷ []) []
      by true d ih =
          let x47 : x ≡ 47 = (let s : (x == 47) ≡ true = h.0 in grind (arith, nat_tests)) in
          rw (x47, d) (longest-kept seg rest h.1)
      by false d ih =
          let x47 : x ≡ 47 = (let s : (x == 47) ≡ true = h.0 in grind (arith, nat_tests)) in
          rw (x47, d) (ih ∙ ap (λ v. cond (v && goes_on rest) (47 ∷ []) []) d)

  -- what a parameter takes, by the longest suffix
  param-by : (rs : RowsOf K) (path suffix : List ℕ) → longest_suffix (segment path) rs ≡ suffix
      → param_step rs path ≡ cond {A = ℕ × RowsOf K} (ltb 0 (length suffix)) (length (segment path) - length suffix, with_suffix suffix rs) (cond (has_slash path) (0, []) (length path, rs))
  unfolding param_step
  param-by rs path suffix e = rw e refl

  module _ (rs : RowsOf K) (ends : EndSegments rs) (b : ℕ) (p : List ℕ) where
    -- nothing before a slash
    param-slash : (b == 47) ≡ true → (param_step rs (b ∷ p)).1 ≡ []
    param-slash e =
        let long = longest-is (segment (b ∷ p)) rs ends ∙ ap (λ v. cond (v && goes_on rs) (47 ∷ []) []) (cuts-slash b p e) in
        ap (λ r. r.1) (param-by rs (b ∷ p) [] long ∙ ap (λ v. cond {A = ℕ × RowsOf K} (cond v true (has_slash p)) (0, []) (length (b ∷ p), rs)) e)

    -- no slash follows: the parameter takes all that is left
    param-last : (b == 47) ≡ false → has_slash p ≡ false → param_step rs (b ∷ p) ≡ (length (b ∷ p), rs)
    param-last e d =
        let long = longest-is (segment (b ∷ p)) rs ends ∙ ap (λ v. cond (v && goes_on rs) (47 ∷ []) []) (cuts-other b p e ∙ d) in
        param-by rs (b ∷ p) [] long
        ∙ ap (λ v. cond {A = ℕ × RowsOf K} (cond v true (has_slash p)) (0, []) (length (b ∷ p), rs)) e
        ∙ ap (λ v. cond {A = ℕ × RowsOf K} v (0, []) (length (b ∷ p), rs)) d

    -- the segment before a slash, where a row goes on
    param-middle : (b == 47) ≡ false → has_slash p ≡ true → goes_on rs ≡ true → param_step rs (b ∷ p) ≡ (length (segment (b ∷ p)) - 1, with_suffix (47 ∷ []) rs)
    param-middle e d g =
        let long = longest-is (segment (b ∷ p)) rs ends ∙ ap (λ v. cond (v && goes_on rs) (47 ∷ []) []) (cuts-other b p e ∙ d) ∙ ap (λ v. cond v (47 ∷ []) []) g in
        param-by rs (b ∷ p) (47 ∷ []) long

    param-stuck : (b == 47) ≡ false → has_slash p ≡ true → goes_on rs ≡ false → (param_step rs (b ∷ p)).1 ≡ []
    param-stuck e d g =
        let long = longest-is (segment (b ∷ p)) rs ends ∙ ap (λ v. cond (v && goes_on rs) (47 ∷ []) []) (cuts-other b p e ∙ d) ∙ ap (λ v. cond v (47 ∷ []) []) g in
        ap (λ r. r.1) (param-by rs (b ∷ p) [] long
        ∙ ap (λ v. cond {A = ℕ × RowsOf K} (cond v true (has_slash p)) (0, []) (length (b ∷ p), rs)) e
        ∙ ap (λ v. cond {A = ℕ × RowsOf K} v (0, []) (length (b ∷ p), rs)) d)

    -- how far a parameter goes
    middle-drop : (b == 47) ≡ false → has_slash p ≡ true → drop (length (segment (b ∷ p)) - 1 - 1) p ≡ after_segment p
    middle-drop e d =
        let n : suc (length (segment p)) - 1 - 1 ≡ length (segment p) - 1 = omega arith in
        ap (λ v. drop (length (cond v (b ∷ []) (b ∷ segment p)) - 1 - 1) p) e ∙ ap (λ m. drop m p) n ∙ drop-segment p d

    last-drop : has_slash p ≡ false → drop (length (b ∷ p) - 1) p ≡ after_segment p
    last-drop d =
        let n : suc (length p) - 1 ≡ length p = omega arith in
        ap (λ m. drop m p) n ∙ drop-all p ∙ sym (following-none p d)

  -- a row that is left after a parameter, and takes what is left of the path
  abbrev pub GoesOn : RowsOf K → ℕ → List ℕ → List ℕ → K → (ℕ × RowsOf K) → Type 0
  GoesOn rs b p t k next = HasRow next.1 t k × (takes t (drop (next.0 - 1) p) ≡ true)

  none-HasRow : (rs : RowsOf K) (t : List ℕ) (k : K) → rs ≡ [] → HasRow rs t k → ⊥
  none-HasRow [] t k e h = h
  none-HasRow (r ∷ rs) t k e h = cc

  goes_on-HasRow : (rs : RowsOf K) (x : ℕ) (t : List ℕ) (k : K) → HasRow rs (x ∷ t) k → goes_on rs ≡ true
  goes_on-HasRow [] x t k h = elim h [ ]
  goes_on-HasRow (([], j) ∷ rest) x t k h = elim h [
    | inl p ↦ absurd (not-nil x t p.0)
    | inr q ↦ goes_on-HasRow rest x t k q
  ]
  goes_on-HasRow ((y ∷ u, j) ∷ rest) x t k h = refl

  ends-HasRow : (rs : RowsOf K) (t : List ℕ) (k : K) → EndSegments rs → HasRow rs t k → ends_segment t ≡ true
  ends-HasRow [] t k e h = elim h [ ]
  ends-HasRow ((u, j) ∷ rest) t k e h = elim h [
    | inl p ↦ ap ends_segment (sym p.0) ∙ e.0
    | inr q ↦ ends-HasRow rest t k e.1 q
  ]

  pub param-sound : (rs : RowsOf K) (b : ℕ) (p t : List ℕ) (k : K) → EndSegments rs
      → HasRow (param_step rs (b ∷ p)).1 t k → takes t (drop ((param_step rs (b ∷ p)).0 - 1) p) ≡ true
      → HasRow rs t k × ((not (b == 47) && takes t (after_segment p)) ≡ true)
  param-sound rs b p t k ends h e = by (b == 47) refl
    where
      inside : (v : Bool) → (b == 47) ≡ false → has_slash p ≡ true → goes_on rs ≡ v → HasRow rs t k × ((not (b == 47) && takes t (after_segment p)) ≡ true)
      inside true d s g =
          let ps = param-middle rs ends b p d s g in
          let h2 : HasRow (with_suffix (47 ∷ []) rs) t k = subst (λ rows. HasRow rows t k) (ap (λ r. r.1) ps) h in
          let e2 : takes t (drop (length (segment (b ∷ p)) - 1 - 1) p) ≡ true = sym (ap (λ r. takes t (drop (r.0 - 1) p)) ps) ∙ e in
          (HasRow-with (47 ∷ []) rs t k h2, ap (λ v. not v && takes t (after_segment p)) d ∙ sym (ap (λ w. takes t w) (middle-drop rs ends b p d s)) ∙ e2)
      inside false d s g = absurd (none-HasRow _ t k (param-stuck rs ends b p d s g) h)

      other : (v : Bool) → (b == 47) ≡ false → has_slash p ≡ v → HasRow rs t k × ((not (b == 47) && takes t (after_segment p)) ≡ true)
      other true d s = inside (goes_on rs) d s refl
      other false d s =
          let ps = param-last rs ends b p d s in
          let h2 : HasRow rs t k = subst (λ rows. HasRow rows t k) (ap (λ r. r.1) ps) h in
          let e2 : takes t (drop (length (b ∷ p) - 1) p) ≡ true = sym (ap (λ r. takes t (drop (r.0 - 1) p)) ps) ∙ e in
          (h2, ap (λ v. not v && takes t (after_segment p)) d ∙ sym (ap (λ w. takes t w) (last-drop rs ends b p s)) ∙ e2)

      by : (v : Bool) → (b == 47) ≡ v → HasRow rs t k × ((not (b == 47) && takes t (after_segment p)) ≡ true)
      by true d = absurd (none-HasRow _ t k (param-slash rs ends b p d) h)
      by false d = other (has_slash p) d refl

  pub param-complete : (rs : RowsOf K) (b : ℕ) (p t : List ℕ) (k : K) → EndSegments rs → HasRow rs t k → (not (b == 47) && takes t (after_segment p)) ≡ true
      → HasRow (param_step rs (b ∷ p)).1 t k × (takes t (drop ((param_step rs (b ∷ p)).0 - 1) p) ≡ true)
  param-complete rs b p t k ends h e = by (b == 47) refl
    where
      -- what goes on with a slash goes on
      slashed : (t : List ℕ) → HasRow rs t k → is_nil (after_segment p) ≡ false → takes t (after_segment p) ≡ true → (goes_on rs ≡ true) × (same_text (segment t) (47 ∷ []) ≡ true)
      slashed [] h n u = (let bad : false ≡ true = sym n ∙ u in cc)
      slashed (x ∷ t) h n u =
          let s : (x == 47) ≡ true = ends-HasRow rs (x ∷ t) k ends h in
          let x47 : x ≡ 47 = grind (arith, nat_tests) in
          (goes_on-HasRow rs x t k h, ap (λ y. same_text (segment (y ∷ t)) (47 ∷ [])) x47)

      other : (v : Bool) → (b == 47) ≡ false → has_slash p ≡ v → takes t (after_segment p) ≡ true → HasRow (param_step rs (b ∷ p)).1 t k × (takes t (drop ((param_step rs (b ∷ p)).0 - 1) p) ≡ true)
      other true d s u =
          let on = slashed t h (following-some p s) u in
          let ps = param-middle rs ends b p d s on.0 in
          let h2 : HasRow (with_suffix (47 ∷ []) rs) t k = with-HasRow (47 ∷ []) rs t k on.1 h in
          (subst (λ rows. HasRow rows t k) (sym (ap (λ r. r.1) ps)) h2, ap (λ r. takes t (drop (r.0 - 1) p)) ps ∙ ap (λ w. takes t w) (middle-drop rs ends b p d s) ∙ u)
      other false d s u =
          let ps = param-last rs ends b p d s in
          (subst (λ rows. HasRow rows t k) (sym (ap (λ r. r.1) ps)) h, ap (λ r. takes t (drop (r.0 - 1) p)) ps ∙ ap (λ w. takes t w) (last-drop rs ends b p s) ∙ u)

      by : (v : Bool) → (b == 47) ≡ v → HasRow (param_step rs (b ∷ p)).1 t k × (takes t (drop ((param_step rs (b ∷ p)).0 - 1) p) ≡ true)
      by true d = (let bad : false ≡ true = sym (ap (λ v. not v && takes t (after_segment p)) d) ∙ e in cc)
      by false d = other (has_slash p) d refl (sym (ap (λ v. not v && takes t (after_segment p)) d) ∙ e)

  -- the rows after a parameter are plain
  ArePlain-param : (rs : RowsOf K) (path : List ℕ) → ArePlain rs → ArePlain (param_step rs path).1
  unfolding param_step
  ArePlain-param rs path h = by (ltb 0 (length (longest_suffix (segment path) rs))) (has_slash path)
    where
      by : (v w : Bool) → ArePlain (cond {A = ℕ × RowsOf K} v (length (segment path) - length (longest_suffix (segment path) rs), with_suffix (longest_suffix (segment path) rs) rs) (cond w (0, []) (length path, rs))).1
      by true w = ArePlain-with (longest_suffix (segment path) rs) rs h
      by false true = tt
      by false false = h

  -- the row of a route that was found
  abbrev pub Found : RowsOf K → List ℕ → K → Type 0
  Found rs path k = (t : List ℕ) × HasRow rs t k × (takes t path ≡ true)

  found-byte : (rs : RowsOf K) (b : ℕ) (p : List ℕ) (k : K) → ArePlain rs → Found (step b rs) p k → Found rs (b ∷ p) k
  found-byte rs b p k plain f = (b ∷ f.0, HasRow-step b rs f.0 k f.1, by (b == 256) refl)
    where
      by : (v : Bool) → (b == 256) ≡ v → cond v (not (b == 47) && takes f.0 (after_segment p)) ((b == b) && takes f.0 p) ≡ true
      by true d =
          let b256 : b ≡ 256 = grind (arith, nat_tests) in
          let row : HasRow (step 256 rs) f.0 k = subst (λ y. HasRow (step y rs) f.0 k) b256 f.1 in
          let n : not (b == 47) ≡ true = (let m : (b == 47) ≡ false = grind (arith, nat_tests) in ap not m) in
          ap (λ v. v && takes f.0 (after_segment p)) n ∙ takes-following f.0 p (ends-HasRow (step 256 rs) f.0 k (EndSegments-step rs plain) row) f.2
      by false d =
          let is : (b == b) ≡ true = grind (arith, nat_tests) in
          ap (λ v. v && takes f.0 p) is ∙ f.2

  found-param : (rs : RowsOf K) (b : ℕ) (p : List ℕ) (k : K) → ArePlain rs → Found (param_step (step 256 rs) (b ∷ p)).1 (drop ((param_step (step 256 rs) (b ∷ p)).0 - 1) p) k → Found rs (b ∷ p) k
  found-param rs b p k plain f =
      let r = param-sound (step 256 rs) b p f.0 k (EndSegments-step rs plain) f.1 f.2 in
      (256 ∷ f.0, HasRow-step 256 rs f.0 k r.0, r.1)

  -- What the walk finds is the key of a row that takes the path.
  pub seek-sound : (skip : ℕ) (rs : RowsOf K) (path : List ℕ) (k : K) → ArePlain rs → seek skip rs path ≡ Some k → Found rs (drop skip path) k
  unfolding seek
  seek-sound zero rs [] k plain e = ([], HasRow-own rs k e, refl)
  seek-sound (suc skip) rs [] k plain e = ([], HasRow-own rs k e, refl)
  seek-sound (suc skip) rs (b ∷ path) k plain e = seek-sound skip rs path k plain e
  seek-sound zero rs (b ∷ path) k plain e =
      let ps = param_step (step 256 rs) (b ∷ path) in
      or-cases (seek 0 (step b rs) path) (or_else (seek (ps.0 - 1) ps.1 path) (own (step 257 rs))) k e
      (λ a. found-byte rs b path k plain (seek-sound 0 (step b rs) path k (ArePlain-step b rs plain) a))
      (λ more. or-cases (seek (ps.0 - 1) ps.1 path) (own (step 257 rs)) k more
      (λ a. found-param rs b path k plain (seek-sound (ps.0 - 1) ps.1 path k (ArePlain-param (step 256 rs) (b ∷ path) (ArePlain-step 256 rs plain)) a))
      (λ c. (let bad : None ≡ Some k = sym (own-catch_all rs plain) ∙ c in cc)))

  -- It finds one wherever a row takes the path.
  pub seek-complete : (skip : ℕ) (rs : RowsOf K) (path : List ℕ) (t : List ℕ) (k : K) → ArePlain rs → HasRow rs t k → takes t (drop skip path) ≡ true → is_some (seek skip rs path) ≡ true
  unfolding seek
  seek-complete zero rs [] [] k plain h e = own-HasRow rs k h
  seek-complete zero rs [] (x ∷ t) k plain h e = cc
  seek-complete (suc skip) rs [] [] k plain h e = own-HasRow rs k h
  seek-complete (suc skip) rs [] (x ∷ t) k plain h e = cc
  seek-complete (suc skip) rs (b ∷ path) t k plain h e = seek-complete skip rs path t k plain h e
  seek-complete zero rs (b ∷ path) [] k plain h e = cc
  seek-complete zero rs (b ∷ path) (x ∷ t) k plain h e =
      by (x == 256) refl e
      (λ row u. seek-complete 0 (step b rs) path t k (ArePlain-step b rs plain) row u)
      (λ row u. seek-complete ((param_step (step 256 rs) (b ∷ path)).0 - 1) (param_step (step 256 rs) (b ∷ path)).1 path t k (ArePlain-param (step 256 rs) (b ∷ path) (ArePlain-step 256 rs plain)) row u)
    where
      by : (v : Bool) → (x == 256) ≡ v → cond v (not (b == 47) && takes t (after_segment path)) ((x == b) && takes t path) ≡ true
          → (HasRow (step b rs) t k → takes t path ≡ true → is_some (seek 0 (step b rs) path) ≡ true)
          → (HasRow (param_step (step 256 rs) (b ∷ path)).1 t k → takes t (drop ((param_step (step 256 rs) (b ∷ path)).0 - 1) path) ≡ true
          → is_some (seek ((param_step (step 256 rs) (b ∷ path)).0 - 1) (param_step (step 256 rs) (b ∷ path)).1 path) ≡ true)
          → is_some (or_else (seek 0 (step b rs) path) (or_else (seek ((param_step (step 256 rs) (b ∷ path)).0 - 1) (param_step (step 256 rs) (b ∷ path)).1 path) (own (step 257 rs)))) ≡ true
      by true d e byte param =
          let x256 : x ≡ 256 = grind (arith, nat_tests) in
          let row : HasRow (step 256 rs) t k = step-HasRow 256 rs t k (subst (λ y. HasRow rs (y ∷ t) k) x256 h) in
          let r = param-complete (step 256 rs) b path t k (EndSegments-step rs plain) row e in
          or-second (seek 0 (step b rs) path) _ (or-first _ (own (step 257 rs)) (param r.0 r.1))
      by false d e byte param =
          let xb : x ≡ b = (let s = (and_parts (x == b) (takes t path) e).0 in grind (arith, nat_tests)) in
          let row : HasRow (step b rs) t k = step-HasRow b rs t k (subst (λ y. HasRow rs (y ∷ t) k) xb h) in
          or-first (seek 0 (step b rs) path) _ (byte row (and_parts (x == b) (takes t path) e).1)
