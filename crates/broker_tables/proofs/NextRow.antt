-- The row that gets the next number, in a table whose rows are numbered from 1 without gaps.
use Rattle.std.specs.{List.{enumerate_from}, Ordering.{int_cmp}}
use Rattle.std.proofs.Common.{◌≡◌, inl, inr, ℕ, ℤ, pos, ◌+◌, ◌<◌, nat_lt, cond, List, [], ◌∷◌, ◌++◌, map, length, true, false, Bool, refl, sym, ap, subst, ◌∙◌, arith, append-nil, Less, Equal, Greater}
use Rattle.std.proofs.{lemmas.Bool.{ltb-true}, lemmas.List.{map-append}}
use Rattle.sqlite.specs.{Tree.{IsAscending, rowid}, declared.types.Value.TheVariants.{Int}, Order.{Row, value_cmp}}
use Rattle.sqlite_rules.{specs.Lists.{Has}, proofs.TableLemmas.{int_is}}
use Rattle.sqlite_value.proofs.OrderLemmas.{value_cmp-Int}
use Rattle.table_access.{specs.{Columns.{whole_at}, Sound.{IsNumbered}, Statements.{IsAdded}}, proofs.{SoundLemmas.{at_has}, Members.{has_right}}}
use Rattle.broker_tables.{specs.Numbers.{numbered}, proofs.References.{enumerate_from-row_number}}

IsAscending-middle : (R : Row → Row → Type 0) (front back : List Row) (a b : Row) → IsAscending R (front ++ a ∷ b ∷ back) → R a b
IsAscending-middle R [] back a b up = up.0.0
IsAscending-middle R (f ∷ front) back a b up = IsAscending-middle R front back a b up.1

int_cmp-not_past : (n k : ℕ) → k < 1 + n → int_cmp (pos (n + 1)) (pos k) ≡ Less → ⊥
int_cmp-not_past n k low less = go (nat_lt (n + 1) k) refl (nat_lt k (n + 1)) less
  where
    go : (b : Bool) → nat_lt (n + 1) k ≡ b → (c : Bool) → cond b Less (cond c Greater Equal) ≡ Less → ⊥
    go true e c h = absurd (let past = ltb-true (n + 1) k e in omega (arith, low, past))
    go false e true h = absurd cc
    go false e false h = absurd cc

enumerate_from-append : {X : Type 0} (n : ℕ) (xs : List X) (x : X) → map {B = ℤ × X} (λ e. (pos e.0, e.1)) (enumerate_from n (xs ++ x ∷ [])) ≡ map (λ e. (pos e.0, e.1)) (enumerate_from n xs) ++ (pos (n + length xs), x) ∷ []
enumerate_from-append n [] x = ap (λ k. (pos k, x) ∷ []) (let e : n ≡ n + 0 = omega arith in e)
enumerate_from-append n (y ∷ xs) x = ap (λ more. (pos n, y) ∷ more) (enumerate_from-append (n + 1) xs x ∙ ap (λ k. map (λ e. (pos e.0, e.1)) (enumerate_from (n + 1) xs) ++ (pos k, x) ∷ []) (let e : n + 1 + length xs ≡ n + length (y ∷ xs) = omega arith in e))

module _ {X : Type 0} (f : Row → X) (xs : List X) (old new : List Row) (made : Row) (are : map {B = ℤ × X} (λ r. (whole_at 0 r, f r)) old ≡ numbered xs) (rising : IsNumbered new) (is : whole_at 0 made ≡ pos (length xs + 1)) where
  rowid-Int_whole_at : (r : Row) → Has new r → rowid r ≡ Int (whole_at 0 r)
  rowid-Int_whole_at r has = int_is (rowid r) (at_has _ new r rising.1 has)

  IsAdded-last : (front back : List Row) → old ≡ front ++ back → new ≡ front ++ made ∷ back → new ≡ old ++ made ∷ []
  IsAdded-last front [] was now = now ∙ ap (λ rows. rows ++ made ∷ []) (sym (was ∙ append-nil front))
  IsAdded-last front (b ∷ back) was now =
      let among : Has old b = subst (λ rows. Has rows b) (sym was) (has_right front (b ∷ back) b (inl refl)) in
      let low = enumerate_from-row_number f old xs 1 are b among in
      let less : value_cmp (rowid made) (rowid b) ≡ Less = IsAscending-middle _ front back made b (subst (IsAscending (λ x y. value_cmp (rowid x) (rowid y) ≡ Less)) now rising.0) in
      let one : rowid made ≡ Int (whole_at 0 made) = rowid-Int_whole_at made (subst (λ rows. Has rows made) (sym now) (has_right front (made ∷ b ∷ back) made (inl refl))) in
      let two : rowid b ≡ Int (whole_at 0 b) = rowid-Int_whole_at b (subst (λ rows. Has rows b) (sym now) (has_right front (made ∷ b ∷ back) b (inr (inl refl)))) in
      let ordered : int_cmp (pos (length xs + 1)) (pos low.0) ≡ Less =
      ap (λ k. int_cmp k (pos low.0)) (sym is) ∙ ap (int_cmp (whole_at 0 made)) (sym low.1) ∙ sym (value_cmp-Int (whole_at 0 made) (whole_at 0 b))
      ∙ sym (ap (λ v. value_cmp v (rowid b)) one ∙ ap (value_cmp (Int (whole_at 0 made))) two) ∙ less in
      absurd (int_cmp-not_past (length xs) low.0 low.2 ordered)

  -- a row that was put in under the next number is the last one, with what it has
  pub IsAdded-numbered : IsAdded old new made → map {B = ℤ × X} (λ r. (whole_at 0 r, f r)) new ≡ numbered (xs ++ f made ∷ [])
  IsAdded-numbered it =
      let entry : Row → ℤ × X = λ r. (whole_at 0 r, f r) in
      ap (map entry) (IsAdded-last it.front it.back it.was it.is) ∙ map-append entry old (made ∷ []) ∙ ap (λ es. es ++ (whole_at 0 made, f made) ∷ []) are
      ∙ ap (λ k. numbered xs ++ (k, f made) ∷ []) (is ∙ ap pos (let e : length xs + 1 ≡ 1 + length xs = omega arith in e)) ∙ sym (enumerate_from-append 1 xs (f made))
