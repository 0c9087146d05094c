-- Rows that have the numbers of a list that is numbered from 1; and the last entry of one that passes a test.
use Rattle.std.specs.List.{last_or, enumerate_from}
use Rattle.std.proofs.Common.{◌≡◌, ◌≤◌, ◌<◌, ◌+◌, inl, inr, ℕ, ℤ, pos, List, [], ◌∷◌, map, length, filter, Bool, true, false, cond, refl, sym, ap, subst, ◌∙◌, Some, None, Option, arith}
use Rattle.std.proofs.{lemmas.List.{length-map}, lemmas.List.FromFn.{length-enumerate_from}}
use Rattle.sqlite.specs.Order.{Row}
use Rattle.sqlite_rules.specs.Lists.{Has}
use Rattle.table_access.{specs.Columns.{whole_at}, proofs.Members.{has_map, map_has}}
use Rattle.broker_core.specs.{Limit.{limit}, State.{last_row}}
use Rattle.broker_tables.specs.{Numbers.{numbered}, Readable.{AreFew}}
use Rattle.table_audit.specs.Audit.{IsNumberOf}

-- ---- the numbers

-- the numbers of a list that is numbered from n on are n and more, and below n plus its length
enumerate_from-bounds : {X : Type 0} (n : ℕ) (xs : List X) (e : ℕ × X) → Has (enumerate_from n xs) e → (n ≤ e.0) × (e.0 < n + length xs)
enumerate_from-bounds n [] e has = absurd has
enumerate_from-bounds {X} n (x ∷ xs) e (inl same) = let number : e.0 ≡ n = ap (λ (z : ℕ × X). z.0) same in (omega arith, omega arith)
enumerate_from-bounds n (x ∷ xs) e (inr later) = let it = enumerate_from-bounds (n + 1) xs e later in (omega (arith, it.0), omega (arith, it.1))

-- an entry of a list of values is one of what they are the values of, under the same number
enumerate_from-has_mapped : {X Y : Type 0} (g : X → Y) (n : ℕ) (xs : List X) (e : ℕ × Y) → Has (enumerate_from n (map g xs)) e
    → (d : ℕ × X) × Has (enumerate_from n xs) d × (e.0 ≡ d.0) × (e.1 ≡ g d.1)
enumerate_from-has_mapped g n [] e has = absurd has
enumerate_from-has_mapped {Y = Y} g n (x ∷ xs) e (inl same) = ((n, x), inl refl, ap (λ (z : ℕ × Y). z.0) same, ap (λ (z : ℕ × Y). z.1) same)
enumerate_from-has_mapped g n (x ∷ xs) e (inr later) = let it = enumerate_from-has_mapped g (n + 1) xs e later in (it.0, inr it.1, it.2, it.3)

module _ {Y : Type 0} (f : Row → Y) (rows : List Row) where
  -- a row of a numbered list is one of its entries
  numbered-entry_of_row : (ys : List Y) → map {B = ℤ × Y} (λ r. (whole_at 0 r, f r)) rows ≡ numbered ys → (r : Row) → Has rows r
      → (e : ℕ × Y) × Has (enumerate_from 1 ys) e × (whole_at 0 r ≡ pos e.0) × (f r ≡ e.1)
  numbered-entry_of_row ys are r has =
      let among = subst (λ (es : List (ℤ × Y)). Has es (whole_at 0 r, f r)) are (has_map (λ x. (whole_at 0 x, f x)) rows r has) in
      let it = map_has (λ (e : ℕ × Y). (pos e.0, e.1)) (enumerate_from 1 ys) (whole_at 0 r, f r) among in
      (it.0, it.1, ap (λ (z : ℤ × Y). z.0) it.2, ap (λ (z : ℤ × Y). z.1) it.2)

  -- also if the list is made of another one
  pub numbered-mapped_entry_of_row : {X : Type 0} (g : X → Y) (xs : List X) → map {B = ℤ × Y} (λ r. (whole_at 0 r, f r)) rows ≡ numbered (map g xs) → (r : Row) → Has rows r
      → (e : ℕ × X) × Has (enumerate_from 1 xs) e × (whole_at 0 r ≡ pos e.0) × (f r ≡ g e.1)
  numbered-mapped_entry_of_row g xs are r has =
      let it = numbered-entry_of_row (map g xs) are r has in
      let d = enumerate_from-has_mapped g 1 xs it.0 it.1 in
      (d.0, d.1, it.2 ∙ ap pos d.2, it.3 ∙ d.3)

  -- there are as many rows as entries
  length-numbered_rows : (ys : List Y) → map {B = ℤ × Y} (λ r. (whole_at 0 r, f r)) rows ≡ numbered ys → length rows ≡ length ys
  length-numbered_rows ys are =
      sym (length-map rows (λ r. (whole_at 0 r, f r))) ∙ ap length are ∙ length-map (enumerate_from 1 ys) (λ e. (pos e.0, e.1)) ∙ length-enumerate_from 1 ys

  -- so the number of a row is one of so many rows
  pub IsNumberOf-of_numbered : (ys : List Y) → map {B = ℤ × Y} (λ r. (whole_at 0 r, f r)) rows ≡ numbered ys → AreFew ys → (r : Row) → Has rows r → IsNumberOf (length rows) r
  IsNumberOf-of_numbered ys are few r has =
      let it = numbered-entry_of_row ys are r has in
      let bounds = enumerate_from-bounds 1 ys it.0 it.1 in
      let count = length-numbered_rows ys are in
      (it.0.0, it.2, bounds.0, omega (arith, bounds.1, count), omega (arith, bounds.1, few))

  -- also if the list is made of another one
  pub IsNumberOf-of_mapped : {X : Type 0} (g : X → Y) (xs : List X) → map {B = ℤ × Y} (λ r. (whole_at 0 r, f r)) rows ≡ numbered (map g xs) → AreFew xs → (r : Row) → Has rows r → IsNumberOf (length rows) r
  IsNumberOf-of_mapped g xs are few = IsNumberOf-of_numbered (map g xs) are (subst (λ n. n ≤ limit) (sym (length-map xs g)) few)

-- ---- the last entry

module _ {X : Type 0} (test : X → Bool) where
  -- the entries that pass the test, of a list that is numbered from n on
  abbrev passing : ℕ → List X → List (ℕ × X)
  passing n rows = filter (λ e. test e.1) (enumerate_from n rows)

  -- the last of an entry and of later ones isn't before that entry
  last_or-not_before_first : (n : ℕ) (rows : List X) (e : ℕ × X) → e.0 ≤ n → (l : ℕ × X) × (last_or (Some e) (passing n rows) ≡ Some l) × (e.0 ≤ l.0)
  last_or-not_before_first n [] e low = (e, refl, omega arith)
  last_or-not_before_first n (y ∷ rows) e low =
      elim (test y) as (λ b. (l : ℕ × X) × (last_or (Some e) (cond b ((n, y) ∷ passing (n + 1) rows) (passing (n + 1) rows)) ≡ Some l) × (e.0 ≤ l.0)) [
        | true ↦ let it = last_or-not_before_first (n + 1) rows (n, y) (omega arith) in (it.0, it.1, omega (arith, it.2, low))
        | false ↦ last_or-not_before_first (n + 1) rows e (omega (arith, low))
      ]

  -- nor is it before any entry that passes
  last_or-not_before : (n : ℕ) (rows : List X) (o : Option (ℕ × X)) (e : ℕ × X) → Has (enumerate_from n rows) e → test e.1 ≡ true
      → (l : ℕ × X) × (last_or o (passing n rows) ≡ Some l) × (e.0 ≤ l.0)
  last_or-not_before n [] o e has passes = absurd has
  last_or-not_before n (y ∷ rows) o e (inl same) passes =
      let here : test y ≡ true = ap (λ (z : ℕ × X). test z.1) (sym same) ∙ passes in
      let number : e.0 ≡ n = ap (λ (z : ℕ × X). z.0) same in
      let it = last_or-not_before_first (n + 1) rows (n, y) (omega arith) in
      (it.0, ap (λ b. last_or o (cond b ((n, y) ∷ passing (n + 1) rows) (passing (n + 1) rows))) here ∙ it.1, omega (arith, it.2, number))
  last_or-not_before n (y ∷ rows) o e (inr later) passes =
      elim (test y) as (λ b. (l : ℕ × X) × (last_or o (cond b ((n, y) ∷ passing (n + 1) rows) (passing (n + 1) rows)) ≡ Some l) × (e.0 ≤ l.0)) [
        | true ↦ last_or-not_before (n + 1) rows (Some (n, y)) e later passes
        | false ↦ last_or-not_before (n + 1) rows o e later passes
      ]

  -- an entry that passes the test isn't after the last one that does
  pub last_row-not_before : (rows : List X) (e : ℕ × X) → Has (enumerate_from 1 rows) e → test e.1 ≡ true → (l : ℕ × X) × (last_row test rows ≡ Some l) × (e.0 ≤ l.0)
  last_row-not_before rows e has passes = last_or-not_before 1 rows None e has passes
