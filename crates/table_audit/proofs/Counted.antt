-- Rows whose numbers rise, none above how many rows there are: they are numbered from 1 without gaps.
use Rattle.std.specs.{List.{enumerate_from}, Ordering.{int_cmp}}
use Rattle.std.proofs.Common.{◌≡◌, ◌<◌, ◌<ℤ◌, ◌≤◌, ◌+◌, inl, inr, ℕ, ℤ, pos, List, [], ◌∷◌, map, length, Less, refl, sym, ap, subst₂, ◌∙◌, arith}
use Rattle.std.proofs.lemmas.Int.{ints}
use Rattle.sqlite.specs.{Order.{Row, value_cmp}, Tree.{IsAscending, rowid}, declared.types.Value.TheVariants.{Int}}
use Rattle.sqlite_rules.{specs.Lists.{Has}, proofs.TableLemmas.{int_is}}
use Rattle.sqlite_value.proofs.OrderLemmas.{value_cmp-Int}
use Rattle.sqlite_keyed.proofs.KeyedLemmas.{lt_from_Less}
use Rattle.table_access.{specs.{Columns.{whole_at}, Sound.{IsNumbered, whole}}, proofs.{SoundLemmas.{at_has}, Members.{IsAscending-map_on}}}
use Rattle.broker_core.specs.Limit.{limit}
use Rattle.broker_tables.specs.Numbers.{numbered}
use Rattle.table_audit.specs.Audit.{EachOf, IsNumberOf}

-- a row's number, as a natural number
abbrev pub number_in : Row → ℕ
number_in r = whole (whole_at 0 r)

-- each row's number is below those of the later rows
abbrev pub Rises : List Row → Type 0
Rises = IsAscending (λ a b. number_in a < number_in b)

-- what is a natural number is the one that `whole` gives
pub whole-is : (z : ℤ) (n : ℕ) → z ≡ pos n → z ≡ pos (whole z)
whole-is z n is = is ∙ ap pos (sym (ap whole is))

-- ---- how far numbers rise

-- as many numbers as there are rows after the first are above it
length-rises : (b : ℕ) (r : Row) (rows : List Row) → Rises (r ∷ rows) → EachOf (r ∷ rows) (λ x. number_in x < b) → number_in r + length rows < b
length-rises b r [] up below = omega (arith, below r (inl refl))
length-rises b r (x ∷ rows) up below = omega (arith, up.0.0, length-rises b x rows up.1 (λ y has. below y (inr has)))

-- so, if all of them lie within as many numbers as there are rows, each row has the number of its place
numbers-enumerate_from : {X : Type 0} (f : Row → X) (m : ℕ) (rows : List Row) → Rises rows → EachOf rows (λ x. (m ≤ number_in x) × (number_in x < m + length rows))
    → map {B = ℕ × X} (λ r. (number_in r, f r)) rows ≡ enumerate_from m (map f rows)
numbers-enumerate_from f m [] up within = refl
numbers-enumerate_from f m (r ∷ rows) up within =
    let first : number_in r ≡ m = omega (arith, (within r (inl refl)).0, length-rises (m + length (r ∷ rows)) r rows up (λ x has. (within x has).1)) in
    let rest = numbers-enumerate_from f (m + 1) rows up.1 (λ x has.
    let above : number_in r < number_in x = at_has _ rows x up.0 has in
    let it = within x (inr has) in
    (omega (arith, above, first), omega (arith, it.1))) in
    λ i. (first i, f r) ∷ rest i

-- if each number is a natural one, a column has it
map-whole_at : {X : Type 0} (f : Row → X) (rows : List Row) → EachOf rows (λ r. whole_at 0 r ≡ pos (number_in r))
    → map {B = ℤ × X} (λ r. (whole_at 0 r, f r)) rows ≡ map (λ e. (pos e.0, e.1)) (map {B = ℕ × X} (λ r. (number_in r, f r)) rows)
map-whole_at f [] each = refl
map-whole_at f (r ∷ rows) each = λ i. (each r (inl refl) i, f r) ∷ map-whole_at f rows (λ x has. each x (inr has)) i

-- and if each is one from 1 to a limit, there are no more rows than that
length-few : (rows : List Row) → Rises rows → EachOf rows (λ x. (1 ≤ number_in x) × (number_in x ≤ limit)) → length rows ≤ limit
length-few [] up within = omega arith
length-few (r ∷ rows) up within =
    omega (arith, (within r (inl refl)).0, length-rises (limit + 1) r rows up (λ x has. let it = within x has in omega (arith, it.1)))

-- ---- the rows of a table that numbers them

-- rowids that rise do so as numbers
Rises-of_rowids : (rows : List Row) → IsNumbered rows → EachOf rows (λ r. whole_at 0 r ≡ pos (number_in r)) → Rises rows
Rises-of_rowids rows rising each = IsAscending-map_on _ _ rows (λ a b ha hb less.
    let one = int_is (rowid a) (at_has _ rows a rising.1 ha) in
    let two = int_is (rowid b) (at_has _ rows b rising.1 hb) in
    let ordered : int_cmp (whole_at 0 a) (whole_at 0 b) ≡ Less = sym (value_cmp-Int (whole_at 0 a) (whole_at 0 b)) ∙ sym (ap (λ v. value_cmp v (rowid b)) one ∙ ap (value_cmp (Int (whole_at 0 a))) two) ∙ less in
    let below : pos (number_in a) <ℤ pos (number_in b) = subst₂ (λ x y. x <ℤ y) (each a ha) (each b hb) (lt_from_Less (whole_at 0 a) (whole_at 0 b) ordered) in
    omega (arith, ints, below)) rising.0

module _ (rows : List Row) (rising : IsNumbered rows) (each : EachOf rows (IsNumberOf (length rows))) where
  -- the number is a natural one
  pub whole_at-number_in : EachOf rows (λ r. whole_at 0 r ≡ pos (number_in r))
  whole_at-number_in r has = let it = each r has in whole-is (whole_at 0 r) it.0 it.1

  -- one of those that there may be
  number_in-bounds : EachOf rows (λ r. (1 ≤ number_in r) × (number_in r ≤ length rows) × (number_in r ≤ limit))
  number_in-bounds r has =
      let it = each r has in
      let same : number_in r ≡ it.0 = ap whole it.1 in
      (omega (arith, same, it.2), omega (arith, same, it.3), omega (arith, same, it.4))

  -- they rise
  pub Rises-of_numbers : Rises rows
  Rises-of_numbers = Rises-of_rowids rows rising whole_at-number_in

  -- each row has the number of its place, counted from 1
  pub map-number_in : {X : Type 0} (f : Row → X) → map {B = ℕ × X} (λ r. (number_in r, f r)) rows ≡ enumerate_from 1 (map f rows)
  map-number_in f = numbers-enumerate_from f 1 rows Rises-of_numbers (λ r has. let it = number_in-bounds r has in (it.0, omega (arith, it.1)))

  -- and a column has it
  pub map-numbered : {X : Type 0} (f : Row → X) → map {B = ℤ × X} (λ r. (whole_at 0 r, f r)) rows ≡ numbered (map f rows)
  map-numbered {X} f = map-whole_at f rows whole_at-number_in ∙ ap (map {B = ℤ × X} (λ e. (pos e.0, e.1))) (map-number_in f)

  -- there are no more than the machine numbers
  pub length-of_numbers : length rows ≤ limit
  length-of_numbers = length-few rows Rises-of_numbers (λ r has. let it = number_in-bounds r has in (it.0, it.2))

-- ---- a table of one row

-- a table whose rows all have the number 1 has one row, if it has any
pub IsNumbered-one_row : (rows : List Row) → IsNumbered rows → EachOf rows (λ r. whole_at 0 r ≡ pos 1) → (r : Row) → Has rows r → rows ≡ r ∷ []
IsNumbered-one_row rows rising ones r has = go rows (Rises-of_rowids rows rising (λ x there. whole-is (whole_at 0 x) 1 (ones x there))) (λ x there. ap whole (ones x there)) has
  where
    go : (xs : List Row) → Rises xs → EachOf xs (λ x. number_in x ≡ 1) → Has xs r → xs ≡ r ∷ []
    go [] up each there = absurd there
    go (x ∷ []) up each (inl same) = ap (λ y. y ∷ []) (sym same)
    go (x ∷ []) up each (inr none) = absurd none
    go (x ∷ y ∷ xs) up each there = absurd (omega (arith, up.0.0, each x (inl refl), each y (inr (inl refl))))
