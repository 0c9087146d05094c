-- A row with a few columns, whose texts have ten million bytes each at most, can be stored, and so can its entries in
-- indexes.
use Rattle.sqlite.specs.{Order.{Row, bytes, column, number}, Schema.{Schema}, Table.{Table}, declared.types.Value.{Value}}
use Rattle.sqlite.specs.declared.types.Value.TheVariants.{Blob, Int, Real, Text}
use Rattle.sqlite_rules.{specs.Edit.{IsOversized}, proofs.ListLemmas.{test_has}}
use Rattle.sqlite_schema.specs.{Rules.{index_reals, table_reals}, declared.schema.Index.{Index}}
use Rattle.sqlite_sql.specs.Catalog.{entry_of}
use Rattle.sqlite_trees.specs.View.{IsStorable}
use Rattle.std.specs.{Float.{NotNan}, List.{AllByRecursion, list_all}}
use Rattle.std.proofs.Common.{List, [], ap, arith, inl, inr, length, map, mul-le-mul_right, nat_lt, pos, refl, suc, sym, true, zero, ℕ, ◌+◌, ◌<◌, ◌^◌, ◌∙◌, ◌∷◌, ◌≡◌, ◌≤◌}
use Rattle.std.proofs.{lemmas.Bool.{ltb-true}, lemmas.List.{length-map, length_push}, lemmas.List.Elements.{All-from_recursion}, lemmas.List.Sums.{sum_by-le}}
use Rattle.std.proofs.lemmas.Nat.Bits.{bit_at-zero}
use Rattle.table_access.specs.Sound.{IsShortValue}
use Rattle.std.specs.Float.Ieee

-- columns beside the number, but only a few, with whole numbers and texts that aren't too long
pub record IsShortRow (row : Row) : Type 0 where
  pub wide : 1 < length row
  pub narrow : length row ≤ 12
  pub short : AllByRecursion IsShortValue row

-- the table has no REAL column, and each index has a few columns
pub record HasShortEntries (schema : Schema) (t : Table) : Type 0 where
  pub whole : table_reals t ≡ 0
  pub narrow : list_all (λ i. nat_lt (length i.columns) 12) schema.indexes ≡ true

IsShortValue-bounds : (v : Value) → IsShortValue v → NotNan (number v) × (18 + length (bytes v) ≤ 10 ^ 7 + 18)
unfolding Ieee.is_nan
IsShortValue-bounds (Int (pos n)) h = (tt, omega arith)
IsShortValue-bounds (Real x) h = absurd h
IsShortValue-bounds (Text t) h = (tt, omega (arith, h))
IsShortValue-bounds (Blob b) h = absurd h
IsShortValue-bounds _ h = (tt, omega arith)

IsStorable-of_short : (reals : ℕ) (entry : Row) → reals ≡ 0 → 0 < length entry → length entry ≤ 12 → AllByRecursion IsShortValue entry → IsStorable reals entry
IsStorable-of_short reals entry none some few short =
    let each = All-from_recursion IsShortValue entry short in
    record {
      typed = λ c set. absurd (let off = bit_at-zero c in let on = rw none at set in let clash : 0 ≡ 1 = sym off ∙ on in cc);
      columns = (some, omega (arith, few));
      numbers = λ k d within. (IsShortValue-bounds _ (each k d within)).0;
      short = omega (arith, sum_by-le (λ v. 18 + length (bytes v)) (10 ^ 7 + 18) entry (λ k d within. (IsShortValue-bounds _ (each k d within)).1), mul-le-mul_right (10 ^ 7 + 18) few);
    }

column-IsShortValue : (row : Row) → AllByRecursion IsShortValue row → (c : ℕ) → IsShortValue (column row c)
column-IsShortValue [] h c = tt
column-IsShortValue (v ∷ row) h zero = h.0
column-IsShortValue (v ∷ row) h (suc c) = column-IsShortValue row h.1 c

entry : (columns : List ℕ) (row : Row) → AllByRecursion IsShortValue row → AllByRecursion IsShortValue (entry_of columns row)
entry [] row h = (column-IsShortValue row h 0, tt)
entry (c ∷ columns) row h = (column-IsShortValue row h c, entry columns row h)

-- no column of an index is REAL, if none of the table is
pub index_reals-zero : (columns : List ℕ) → index_reals 0 columns ≡ 0
index_reals-zero [] = refl
index_reals-zero (c ∷ columns) = omega (arith, bit_at-zero c, index_reals-zero columns)

-- an entry of an index with a few columns can be stored, for any other columns of the row
pub entry_of-IsStorable : (t : Table) (columns : List ℕ) (row : Row) → table_reals t ≡ 0 → length columns < 12 → AllByRecursion IsShortValue (entry_of columns row)
    → IsStorable (index_reals (table_reals t) columns) (entry_of columns row)
entry_of-IsStorable t columns row whole few short =
    let size : length (entry_of columns row) ≡ length columns + 1 = omega (arith, length_push (map (column row) columns) (column row 0), length-map columns (column row)) in
    IsStorable-of_short _ (entry_of columns row) (ap (λ r. index_reals r columns) whole ∙ index_reals-zero columns) (omega arith) (omega arith) short

pub IsShortRow-not_oversized : (schema : Schema) (t : Table) → HasShortEntries schema t → (row : Row) → IsShortRow row → ¬ IsOversized schema t row
IsShortRow-not_oversized schema t has row it (inl big) = big (IsStorable-of_short (table_reals t) row has.whole (omega (arith, it.wide)) it.narrow it.short, it.wide)
IsShortRow-not_oversized schema t has row it (inr (i, known, there, big)) =
    let few = ltb-true (length i.columns) 12 (test_has (λ (j : Index). nat_lt (length j.columns) 12) schema.indexes i has.narrow known) in
    big (entry_of-IsStorable t i.columns row has.whole few (entry i.columns row it.short))
