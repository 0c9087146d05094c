-- That two keys are the same, by the machine's tests and by the orders.
use Rattle.std.specs.{Ordering.{eq_by_cmp, int_cmp}, Cmp.{both_ways, eq_by_cmp_equiv, tied_then, Equal-is, int_cmp_total}, FinMap.{int_cmp-IsAntisymmetric}}
use Rattle.std.{specs.Cmp.Lexicographic.{texts_ties}, proofs.Common.{◌≡◌, ◌==◌, ℕ, pos, Bool, ◌&&◌, sym, ap, ◌∙◌, Ordering}}
use Rattle.std.proofs.{lemmas.Map.Views.{exact_unsigned_eq}, lemmas.Bool.{eq-eqb}}
use Rattle.table_access.specs.Columns.{text_cmp, by_both}
use Rattle.broker_core.specs.Text.{Text, same_text, same_pair}
-- two comparisons are both ties if and only if the first, with its ties broken by the second, is one
pub use Rattle.std.specs.Cmp.{tied_then as both_eq}

-- whether two tests both hold depends only on their answers
pub and-same : (x y u v : Bool) → x ≡ u → y ≡ v → (x && y) ≡ (u && v)
and-same x y u v e f = λ i. e i && f i

-- pairs by a test of each part, and by an order of each part
pub same_pair-by_both : {A B : Type 0} (same_a : A → A → Bool) (same_b : B → B → Bool) (R : A → A → Ordering) (S : B → B → Ordering) (x y : A × B)
    → same_a x.0 y.0 ≡ eq_by_cmp R x.0 y.0 → same_b x.1 y.1 ≡ eq_by_cmp S x.1 y.1 → same_pair same_a same_b x y ≡ eq_by_cmp (by_both R S) x y
same_pair-by_both same_a same_b R S x y a b = and-same _ _ _ _ a b ∙ tied_then (R x.0 y.0) (S x.1 y.1)

-- pairs of texts, as a grant has them, are the same by the machine's test if and only if they tie in their order
pub same_pair-text_cmp : (x y : Text × Text) → same_pair same_text same_text x y ≡ eq_by_cmp (by_both text_cmp text_cmp) x y
same_pair-text_cmp x y = same_pair-by_both same_text same_text text_cmp text_cmp x y (texts_ties x.0 y.0) (texts_ties x.1 y.1)

-- numbers are the same by the machine's test and by the order of the columns
pub eqb-int_cmp : (k n : ℕ) → (k == n) ≡ eq_by_cmp int_cmp (pos k) (pos n)
eqb-int_cmp k n =
    both_ways _ _ (λ same. ap (λ m. eq_by_cmp int_cmp (pos k) (pos m)) (sym (exact_unsigned_eq k n same)) ∙ (eq_by_cmp_equiv int_cmp_total).refl (pos k))
    (λ hit. let ints : pos k ≡ pos n = int_cmp-IsAntisymmetric (pos k) (pos n) ((Equal-is (int_cmp (pos k) (pos n))).0 hit) in let nats : k ≡ n = cc in eq-eqb k n nats)
