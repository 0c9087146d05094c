-- What an upsert of one row makes of the values of the keys.
use Rattle.std.specs.{Ordering.{eq_by_cmp, is_eq, ordering_reverse}, Cmp.{tied_itself, IsTotalOrder, eq_by_cmp_equiv}, FinMap.{find, IsAntisymmetric}}
use Rattle.std.proofs.Common.{inl, inr, ◌≡◌, ◌⊎◌, ℕ, List, [], ◌∷◌, Bool, true, false, cond, not, refl, ap, ◌∙◌, sym, subst, Some, None, filter, Ordering, Less, Option}
use Rattle.sqlite_value.proofs.OrderLemmas.{value_cmp_total}
use Rattle.sqlite.specs.{Order.{Row, value_cmp}, Tree.{rowid, IsAscending, IsTable}, Table.{Table}}
use Rattle.sqlite_rules.specs.{Lists.{Has}, Keys.{conflicts, AreConflicts}}
use Rattle.sqlite_schema.specs.declared.schema.Index.{Index}
use Rattle.table_access.{specs.Statements.{IsAdded}, proofs.{SoundLemmas.{at_has, all_of}, Removal.{filter-same_tests}}}
use Rattle.table_access.proofs.Maps.{entries, AreKeys, find-IsAdded, find-filter_out}

-- two items of a list are one, or one of them is before the other
pub IsAscending-same_or_apart : {X : Type 0} (P : X → X → Type 0) (xs : List X) (x y : X) → IsAscending P xs → Has xs x → Has xs y → (x ≡ y) ⊎ (P x y ⊎ P y x)
IsAscending-same_or_apart P [] x y up hx hy = absurd hx
IsAscending-same_or_apart P (z ∷ zs) x y up (inl ex) (inl ey) = inl (ex ∙ sym ey)
IsAscending-same_or_apart P (z ∷ zs) x y up (inl ex) (inr hy) = inr (inl (subst (λ w. P w y) (sym ex) (at_has _ zs y up.0 hy)))
IsAscending-same_or_apart P (z ∷ zs) x y up (inr hx) (inl ey) = inr (inr (subst (λ w. P w x) (sym ey) (at_has _ zs x up.0 hx)))
IsAscending-same_or_apart P (z ∷ zs) x y up (inr hx) (inr hy) = IsAscending-same_or_apart P zs x y up.1 hx hy

module _ {K V : Type 0} {R : K → K → Ordering} (o : IsTotalOrder R) (exact : IsAntisymmetric R) (key : Row → K) (value : Row → V) where
  find-no_key : (k : K) (rows : List Row) → ((r : Row) → Has rows r → eq_by_cmp R k (key r) ≡ false) → find R k (entries o exact key value rows) ≡ None
  find-no_key k [] none = refl
  find-no_key k (r ∷ rows) none = ap (λ b. cond b (Some (value r)) (find R k (entries o exact key value rows))) (none r (inl refl)) ∙ find-no_key k rows (λ x has. none x (inr has))

  eq_by_cmp-other_key : (k : K) (a b : K) → eq_by_cmp R k b ≡ true → (eq_by_cmp R a b ≡ false) ⊎ (eq_by_cmp R b a ≡ false) → eq_by_cmp R k a ≡ false
  eq_by_cmp-other_key k a b hit (inl apart) = (eq_by_cmp_equiv o).congr k b a hit ∙ (eq_by_cmp_equiv o).symm b a ∙ apart
  eq_by_cmp-other_key k a b hit (inr apart) = (eq_by_cmp_equiv o).congr k b a hit ∙ apart

  -- if a row has the key, it is the only one that has it, as it is the only one with its number
  IsTable-one_row_with_key : (k : K) (rows : List Row) (r : Row) → AreKeys o exact key value rows → IsTable rows → Has rows r → eq_by_cmp R k (key r) ≡ true → (x : Row) → Has rows x → is_eq (value_cmp (rowid x) (rowid r)) ≡ eq_by_cmp R k (key x)
  IsTable-one_row_with_key k rows r keys numbers has hit x there =
      elim (IsAscending-same_or_apart _ rows x r numbers there has) [
        | inl same ↦ both same
        | inr number ↦ elim (IsAscending-same_or_apart _ rows x r keys there has) [
          | inl same ↦ both same
          | inr apart ↦ other number ∙ sym (eq_by_cmp-other_key k (key x) (key r) hit apart)
        ]
      ]
    where
      both : x ≡ r → is_eq (value_cmp (rowid x) (rowid r)) ≡ eq_by_cmp R k (key x)
      both same = subst (λ y. is_eq (value_cmp (rowid y) (rowid r)) ≡ eq_by_cmp R k (key y)) (sym same) (ap is_eq (tied_itself value_cmp_total (rowid r)) ∙ sym hit)

      other : (value_cmp (rowid x) (rowid r) ≡ Less) ⊎ (value_cmp (rowid r) (rowid x) ≡ Less) → is_eq (value_cmp (rowid x) (rowid r)) ≡ false
      other (inl less) = ap is_eq less
      other (inr less) = ap is_eq (value_cmp_total.antisymm (rowid x) (rowid r)) ∙ ap (λ y. is_eq (ordering_reverse y)) less

  -- The row `it` was put in, or it replaces the row that has its key: `made` is what that row became. So its key has the new value, and each other key keeps its own.
  pub find-after_upsert : (target : Option (List ℕ)) (indexes : List Index) (table : Table) (old new : List Row) (it put : Row) (made : Row → Row) (k : K) (v : V) → AreKeys o exact key value old → IsTable old
      → ((r : Row) → Has old r → conflicts target indexes table it r ≡ eq_by_cmp R k (key r))
      → (key put ≡ k) × (value put ≡ v) → ((r : Row) → Has old r → eq_by_cmp R k (key r) ≡ true → (key (made r) ≡ k) × (value (made r) ≡ v))
      → (AreConflicts target indexes table old it [] × IsAdded old new put)
      ⊎ ((r : Row) × Has old r × (conflicts target indexes table it r ≡ true) × IsAdded (filter (λ x. not (is_eq (value_cmp (rowid x) (rowid r)))) old) new (made r))
      → (q : K) → find R q (entries o exact key value new) ≡ cond (eq_by_cmp R q k) (Some v) (find R q (entries o exact key value old))
  find-after_upsert target indexes table old new it put made k v keys numbers same fresh changed (inl none) q =
      let free : find R k (entries o exact key value old) ≡ None = find-no_key k old (λ r has. no_hit r has (eq_by_cmp R k (key r)) refl) in
      find-IsAdded o exact key value old new put none.1 (ap (λ x. find R x (entries o exact key value old)) fresh.0 ∙ free) q
      ∙ (λ i. cond (eq_by_cmp R q (fresh.0 i)) (Some (fresh.1 i)) (find R q (entries o exact key value old)))
    where
      no_hit : (r : Row) → Has old r → (b : Bool) → eq_by_cmp R k (key r) ≡ b → eq_by_cmp R k (key r) ≡ false
      no_hit r has true hit = absurd (none.0.complete r has (same r has ∙ hit))
      no_hit r has false miss = miss
  find-after_upsert target indexes table old new it put made k v keys numbers same fresh changed (inr some) q =
      let r = some.0 in
      let hit : eq_by_cmp R k (key r) ≡ true = sym (same r some.1) ∙ some.2 in
      let is = changed r some.1 hit in
      let rest = filter (λ x. not (eq_by_cmp R k (key x))) old in
      let left : filter (λ x. not (is_eq (value_cmp (rowid x) (rowid r)))) old ≡ rest = filter-same_tests _ _ old (λ x has. ap not (IsTable-one_row_with_key k old r keys numbers some.1 hit x has)) in
      let added : IsAdded rest new (made r) = subst (λ xs. IsAdded xs new (made r)) left some.3 in
      let without : (p : K) → find R p (entries o exact key value rest) ≡ cond (eq_by_cmp R p k) None (find R p (entries o exact key value old)) = λ p. find-filter_out o exact key value k p (λ x. eq_by_cmp R k (key x)) old (all_of _ old (λ x has. refl)) in
      let gone : find R (key (made r)) (entries o exact key value rest) ≡ None = ap (λ x. find R x (entries o exact key value rest)) is.0 ∙ without k ∙ ap (λ b. cond b None (find R k (entries o exact key value old))) ((eq_by_cmp_equiv o).refl k) in
      find-IsAdded o exact key value rest new (made r) added gone q ∙ (λ i. cond (eq_by_cmp R q (is.0 i)) (Some (is.1 i)) (find R q (entries o exact key value rest))) ∙ ap (cond (eq_by_cmp R q k) (Some v)) (without q) ∙ twice (eq_by_cmp R q k)
    where
      twice : (b : Bool) → cond b (Some v) (cond b None (find R q (entries o exact key value old))) ≡ cond b (Some v) (find R q (entries o exact key value old))
      twice true = refl
      twice false = refl
