-- A column that CHECK makes a truth value.
use Rattle.std.specs.{Prelude.{option_map}, Ordering.{is_eq, int_cmp}, Cmp.{Equal-is}, FinMap.{int_cmp-IsAntisymmetric}}
use Rattle.std.proofs.Common.{◌≡◌, ◌≤◌, ℕ, ℤ, pos, [], ◌∷◌, Bool, true, false, not, refl, sym, ap, subst, arith, Option, Some}
use Rattle.sqlite.specs.{Order.{Row, column}, Term.{eval}, declared.types.Value.TheVariants.{Int}, Collation.TheVariants.{Binary}}
use Rattle.sqlite_sql.specs.{Ops.{binary, is_false, from_truth}, declared.ops.BinaryOp.TheVariants.{Compare, Or}, declared.ops.CompareOp.TheVariants.{Eq}}
use Rattle.sqlite_value.proofs.OrderLemmas.{value_cmp-Int}
use Rattle.table_access.proofs.ReadLemmas.{option_map-compose}
use Rattle.broker_tables.specs.{Schema.{is_truth}, Rows.{mark_of}}

binary-Eq_is_eq : (a b : ℤ) → binary (Compare Eq Binary) (Int a) (Int b) ≡ from_truth (Some (is_eq (int_cmp a b)))
unfolding binary
binary-Eq_is_eq a b = ap (λ o. from_truth (Some (is_eq o))) (value_cmp-Int a b)

binary-Or_right : (a b : Bool) → not (is_false (binary Or (from_truth (Some a)) (from_truth (Some b)))) ≡ true → a ≡ false → b ≡ true
unfolding binary
binary-Or_right false true t none = refl
binary-Or_right _ _ t none = absurd cc

-- it is 0 or 1
pub is_truth-bounds : (row : Row) (place : ℕ) (z : ℤ) → column row place ≡ Int z → not (is_false (eval (is_truth place) ([] ∷ row ∷ []))) ≡ true → (n : ℕ) × (z ≡ pos n) × (n ≤ 1)
is_truth-bounds row place z is t = go (is_eq (int_cmp z (pos 0))) refl
  where
    tested : not (is_false (binary Or (from_truth (Some (is_eq (int_cmp z (pos 0))))) (from_truth (Some (is_eq (int_cmp z (pos 1))))))) ≡ true
    tested = subst (λ v. not (is_false (binary Or v (from_truth (Some (is_eq (int_cmp z (pos 1))))))) ≡ true) (binary-Eq_is_eq z (pos 0))
        (subst (λ v. not (is_false (binary Or (binary (Compare Eq Binary) (Int z) (Int (pos 0))) v)) ≡ true) (binary-Eq_is_eq z (pos 1))
        (subst (λ v. not (is_false (binary Or (binary (Compare Eq Binary) v (Int (pos 0))) (binary (Compare Eq Binary) v (Int (pos 1))))) ≡ true) is t))

    go : (b : Bool) → is_eq (int_cmp z (pos 0)) ≡ b → (n : ℕ) × (z ≡ pos n) × (n ≤ 1)
    go true e = (0, int_cmp-IsAntisymmetric z (pos 0) ((Equal-is (int_cmp z (pos 0))).0 e), omega arith)
    go false e = (1, int_cmp-IsAntisymmetric z (pos 1) ((Equal-is (int_cmp z (pos 1))).0 (binary-Or_right (is_eq (int_cmp z (pos 0))) (is_eq (int_cmp z (pos 1))) tested e)), omega arith)

-- the mark of a truth value, as a column has it
pub mark_of-option_map : (o : Option Bool) → option_map (λ t. Int (pos (mark_of t))) o ≡ option_map (λ n. Int (pos n)) (option_map mark_of o)
mark_of-option_map o = sym (option_map-compose (λ n. Int (pos n)) mark_of o)
