-- Rows by their keys: whether a key has a row, after a row is put in or taken out.
use Rattle.std.specs.{Prelude.{is_some, option_map}, List.{AllByRecursion}, Ordering.{eq_by_cmp}, Cmp.{IsTotalOrder}, FinMap.{IsAntisymmetric}}
use Rattle.std.proofs.Common.{◌≡◌, List, [], ◌∷◌, ◌++◌, Bool, true, false, cond, not, ◌||◌, refl, sym, ap, ◌∙◌, filter, Some, None, Option, Ordering}
use Rattle.sqlite.specs.Order.{Row}
use Rattle.table_access.{specs.Statements.{IsAdded}, proofs.Maps.{find-filter_out}}
use Rattle.broker_tables.specs.Rows.{value_at, has_row_at}

module _ {K : Type 0} (R : K → K → Ordering) (key : Row → K) where
  -- something is found by a key if and only if a row has the key
  pub value_at-is_some : {V : Type 0} (value : Row → V) (rows : List Row) (k : K) → is_some (value_at R key value rows k) ≡ has_row_at R key rows k
  value_at-is_some value [] k = refl
  value_at-is_some value (r ∷ rows) k =
      elim (eq_by_cmp R k (key r)) as (λ b. is_some (cond b (Some (value r)) (value_at R key value rows k)) ≡ (b || has_row_at R key rows k)) [ true ↦ refl | false ↦ value_at-is_some value rows k ]

  -- a part of what is found
  pub value_at-option_map : {V W : Type 0} (f : V → W) (value : Row → V) (rows : List Row) (k : K) → option_map f (value_at R key value rows k) ≡ value_at R key (λ r. f (value r)) rows k
  value_at-option_map f value [] k = refl
  value_at-option_map f value (r ∷ rows) k =
      elim (eq_by_cmp R k (key r)) as (λ b. option_map f (cond b (Some (value r)) (value_at R key value rows k)) ≡ cond b (Some (f (value r))) (value_at R key (λ x. f (value x)) rows k))
      [ true ↦ refl | false ↦ value_at-option_map f value rows k ]

  or-swap : (p q r : Bool) → (p || (q || r)) ≡ (q || (p || r))
  or-swap true true r = refl
  or-swap _ _ r = refl

  has_row_at-append : (front back : List Row) (row : Row) (k : K) → has_row_at R key (front ++ row ∷ back) k ≡ (eq_by_cmp R k (key row) || has_row_at R key (front ++ back) k)
  has_row_at-append [] back row k = refl
  has_row_at-append (r ∷ front) back row k =
      ap (λ b. eq_by_cmp R k (key r) || b) (has_row_at-append front back row k) ∙ or-swap (eq_by_cmp R k (key r)) (eq_by_cmp R k (key row)) (has_row_at R key (front ++ back) k)

  -- one row more
  pub has_row_at-IsAdded : (old new : List Row) (row : Row) → IsAdded old new row → (k : K) → has_row_at R key new k ≡ (eq_by_cmp R k (key row) || has_row_at R key old k)
  has_row_at-IsAdded old new row it k =
      ap (λ rows. has_row_at R key rows k) it.is ∙ has_row_at-append it.front it.back row k ∙ ap (λ rows. eq_by_cmp R k (key row) || has_row_at R key rows k) (sym it.was)

  -- the key that is put in has a row, and any other key has one if and only if it had one
  pub has_row_at-set : (old new : List Row) (row : Row) → IsAdded old new row → (k : K) → has_row_at R key new k ≡ cond (eq_by_cmp R k (key row)) true (has_row_at R key old k)
  has_row_at-set old new row it k = has_row_at-IsAdded old new row it k ∙ elim (eq_by_cmp R k (key row)) as (λ b. (b || has_row_at R key old k) ≡ cond b true (has_row_at R key old k)) [ true ↦ refl | false ↦ refl ]

module _ {K V : Type 0} {R : K → K → Ordering} (o : IsTotalOrder R) (exact : IsAntisymmetric R) (key : Row → K) (value : Row → V) where
  -- the rows of one key are taken out
  pub value_at-removed : (k : K) (p : Row → Bool) (old new : List Row) → AllByRecursion (λ r. p r ≡ eq_by_cmp R k (key r)) old → new ≡ filter (λ r. not (p r)) old
      → (q : K) → value_at R key value new q ≡ cond (eq_by_cmp R q k) None (value_at R key value old q)
  value_at-removed k p old new same is q = ap (λ rows. value_at R key value rows q) is ∙ find-filter_out o exact key value k q p old same

is_some-cond_None : {V : Type 0} (b : Bool) (found : Option V) → is_some (cond b None found) ≡ cond b false (is_some found)
is_some-cond_None true found = refl
is_some-cond_None false found = refl

module _ {K : Type 0} {R : K → K → Ordering} (o : IsTotalOrder R) (exact : IsAntisymmetric R) (key : Row → K) where
  -- once the rows of a key are taken out, it has none, and any other key has one if and only if it had one
  pub has_row_at-removed : (k : K) (p : Row → Bool) (old new : List Row) → AllByRecursion (λ r. p r ≡ eq_by_cmp R k (key r)) old → new ≡ filter (λ r. not (p r)) old
      → (q : K) → has_row_at R key new q ≡ cond (eq_by_cmp R q k) false (has_row_at R key old q)
  has_row_at-removed k p old new same is q =
      sym (value_at-is_some R key key new q) ∙ ap is_some (value_at-removed o exact key key k p old new same is q) ∙ is_some-cond_None (eq_by_cmp R q k) (value_at R key key old q)
      ∙ ap (cond (eq_by_cmp R q k) false) (value_at-is_some R key key old q)
