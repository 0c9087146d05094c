-- What has a number, in a list that is numbered from 1.
use Rattle.std.specs.{Prelude.{if◌then◌else◌, ℤ}, List.{enumerate_from}, Ordering.{eq_by_cmp, int_cmp}, Cmp.{int_cmp_total, eq_by_cmp_equiv}}
use Rattle.std.specs.FinMap.Entries.{find}
use Rattle.std.proofs.Common.{◌≡◌, ◌==◌, ◌+◌, ◌-◌, ◌<◌, ℕ, pos, zero, suc, cond, List, [], ◌∷◌, map, false, refl, sym, ap, ◌∙◌, slice_get, Some, None, arith}
use Rattle.std.proofs.lemmas.Bool.{ne_eqb}
use Rattle.broker_tables.{specs.Numbers.{numbered}, proofs.Ties.{eqb-int_cmp}}

eq_by_cmp-int_differ : (a b : ℕ) → (a ≡ b → ⊥) → eq_by_cmp int_cmp (pos a) (pos b) ≡ false
eq_by_cmp-int_differ a b apart = sym (eqb-int_cmp a b) ∙ ne_eqb a b apart

module _ {X : Type 0} where
  abbrev numbers_from : ℕ → List X → List (ℤ × X)
  numbers_from m xs = map (λ e. (pos e.0, e.1)) (enumerate_from m xs)

  -- no number is below the first
  find-none_below : (m : ℕ) (xs : List X) (n : ℕ) → n < m → find int_cmp (pos n) (numbers_from m xs) ≡ None
  find-none_below m [] n low = refl
  find-none_below m (x ∷ xs) n low = ap (λ b. cond b (Some x) (find int_cmp (pos n) (numbers_from (m + 1) xs))) (eq_by_cmp-int_differ n m (λ same. omega (arith, low, same))) ∙ find-none_below (m + 1) xs n (omega (arith, low))

  find-at_place : (m : ℕ) (xs : List X) (i : ℕ) → find int_cmp (pos (m + i)) (numbers_from m xs) ≡ slice_get xs i
  find-at_place m [] i = refl
  find-at_place m (x ∷ xs) zero = ap (λ b. cond b (Some x) (find int_cmp (pos (m + 0)) (numbers_from (m + 1) xs))) (ap (λ k. eq_by_cmp int_cmp (pos k) (pos m)) (let e : m + 0 ≡ m = omega arith in e) ∙ (eq_by_cmp_equiv int_cmp_total).refl (pos m))
  find-at_place m (x ∷ xs) (suc i) =
      ap (λ b. cond b (Some x) (find int_cmp (pos (m + suc i)) (numbers_from (m + 1) xs))) (eq_by_cmp-int_differ (m + suc i) m (λ same. omega (arith, same)))
      ∙ ap (λ k. find int_cmp (pos k) (numbers_from (m + 1) xs)) (let e : m + suc i ≡ m + 1 + i = omega arith in e) ∙ find-at_place (m + 1) xs i

  -- in a list that is numbered from 1, 0 finds nothing, and n finds the n-th member, if there are that many
  pub find-numbered : (xs : List X) (n : ℕ) → find int_cmp (pos n) (numbered xs) ≡ (if n == 0 then None else slice_get xs (n - 1))
  find-numbered xs zero = find-none_below 1 xs 0 (omega arith)
  find-numbered xs (suc i) = ap (λ k. find int_cmp (pos k) (numbers_from 1 xs)) (let e : suc i ≡ 1 + i = omega arith in e) ∙ find-at_place 1 xs i
      ∙ ap (λ k. slice_get xs k) (let e : i ≡ suc i - 1 = omega arith in e) ∙ sym (ap (λ b. cond b None (slice_get xs (suc i - 1))) (ne_eqb (suc i) 0 (λ e. omega (arith, e))))
