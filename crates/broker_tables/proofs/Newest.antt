-- The greatest number of what is numbered from 1 is how many there are.
use Rattle.std.specs.{Prelude.{option_map}, List.{enumerate_from}}
use Rattle.std.proofs.Common.{◌≡◌, ℕ, ℤ, pos, ◌+◌, List, [], ◌∷◌, ◌++◌, map, length, reverse, refl, ap, ◌∙◌, Some, None, Option, slice_get, unwrap_or, arith}
use Rattle.std.proofs.{lemmas.Grind.{reverse_onto}, lemmas.List.{length-map}}
use Rattle.sqlite.specs.Order.{Row}
use Rattle.table_access.specs.Columns.{whole_at}
use Rattle.broker_core.specs.{declared.command.Version.{Version}, State.{Verification}}
use Rattle.broker_tables.specs.{Numbers.{numbered}, Holds.{AreResults, result_in, result_of}, Schema.{in_results}}

abbrev last_of : {A : Type 0} → A → List A → A
last_of x [] = x
last_of x (y ∷ ys) = last_of y ys

slice_get-append_first : {A : Type 0} (xs ys : List A) (z : A) → slice_get xs 0 ≡ Some z → slice_get (xs ++ ys) 0 ≡ Some z
slice_get-append_first [] ys z h = absurd (cc)
slice_get-append_first (x ∷ xs) ys z h = h

slice_get-reverse_last : {A : Type 0} (x : A) (xs : List A) → slice_get (reverse (x ∷ xs)) 0 ≡ Some (last_of x xs)
slice_get-reverse_last x [] = refl
slice_get-reverse_last x (y ∷ ys) = ap (λ l. slice_get l 0) (reverse_onto (y ∷ ys) x []) ∙ slice_get-append_first (reverse (y ∷ ys)) (x ∷ []) (last_of y ys) (slice_get-reverse_last y ys)

module _ {X : Type 0} (entry : Row → X) where
  abbrev listed : Row → ℤ × X
  listed r = (whole_at 0 r, entry r)

  whole_at-last_of : (n : ℕ) (r : Row) (rows : List Row) (x : X) (xs : List X) → map listed (r ∷ rows) ≡ map (λ e. (pos e.0, e.1)) (enumerate_from n (x ∷ xs)) → whole_at 0 (last_of r rows) ≡ pos (n + length xs)
  whole_at-last_of n r [] x [] is =
      let pair : ◌≡◌ {A = ℤ × X} (listed r) (pos n, x) = cc in
      ap (λ (p : ℤ × X). p.0) pair ∙ ap pos (let e : n ≡ n + 0 = omega arith in e)
  whole_at-last_of n r (s ∷ rows) x (y ∷ ys) is =
      let rest : map listed (s ∷ rows) ≡ map (λ e. (pos e.0, e.1)) (enumerate_from (n + 1) (y ∷ ys)) = cc in
      whole_at-last_of (n + 1) s rows y ys rest ∙ ap pos (let e : n + 1 + length ys ≡ n + length (y ∷ ys) = omega arith in e)
  whole_at-last_of n r _ x _ is = absurd (let e = ap length is in cc)

  -- The greatest number is how many items are listed; it is 0 if there is no row.
  pub unwrap_or-newest : (rows : List Row) (xs : List X) (found : Option ℕ) → map listed rows ≡ numbered xs → option_map pos found ≡ option_map (whole_at 0) (slice_get (reverse rows) 0) → unwrap_or found 0 ≡ length xs
  unwrap_or-newest [] [] None is read = refl
  unwrap_or-newest [] [] (Some n) is read = absurd cc
  unwrap_or-newest (r ∷ rows) (x ∷ xs) None is read = absurd (let e : None ≡ Some (whole_at 0 (last_of r rows)) = read ∙ ap (option_map (whole_at 0)) (slice_get-reverse_last r rows) in cc)
  unwrap_or-newest (r ∷ rows) (x ∷ xs) (Some n) is read =
      let e : Some (pos n) ≡ Some (pos (1 + length xs)) = read ∙ ap (option_map (whole_at 0)) (slice_get-reverse_last r rows) ∙ ap Some (whole_at-last_of 1 r rows x xs is) in
      let same : n ≡ 1 + length xs = cc in
      same ∙ (let f : 1 + length xs ≡ length (x ∷ xs) = omega arith in f)
  unwrap_or-newest _ _ found is read = absurd (let e = is in cc)

-- how many results there are
pub unwrap_or-newest_result : (versions : List Version) (results : List Verification) (rows checked : List Row) (found : Option ℕ) → AreResults versions results rows checked → option_map pos found ≡ option_map (whole_at in_results.number) (slice_get (reverse rows) 0)
    → unwrap_or found 0 ≡ length results
unwrap_or-newest_result versions results rows checked found are read = unwrap_or-newest (result_in checked) rows (map (result_of versions) results) found are read ∙ length-map results (result_of versions)
