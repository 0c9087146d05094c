-- The columns of a row, and the orders of keys.
use Rattle.std.specs.Prelude.{ℕ, ℤ, List}
use Rattle.sqlite.specs.Edit.{id_in}
use Rattle.std.specs.declared.cmp.Ordering.{Ordering}
use Rattle.std.specs.Ordering.{nat_cmp, ordering_then}
use Rattle.std.specs.Cmp.Lexicographic.{slice_cmp}
use Rattle.sqlite.specs.Order.{Row, column}
use Rattle.table_access.specs.Sound.{text_in, number_in}

abbrev pub Words : Type 0
Words = List ℕ

abbrev pub text_cmp : Words → Words → Ordering
text_cmp = slice_cmp nat_cmp

abbrev pub pair_cmp : Words × Words → Words × Words → Ordering
pair_cmp a b = ordering_then (text_cmp a.0 b.0) (text_cmp a.1 b.1)

-- keys of two columns; of three, with a pair as the second
abbrev pub by_both : {A B : Type 0} → (A → A → Ordering) → (B → B → Ordering) → A × B → A × B → Ordering
by_both one two a b = ordering_then (one a.0 b.0) (two a.1 b.1)

abbrev pub text : ℕ → Row → Words
text at row = text_in (column row at)

abbrev pub number : ℕ → Row → ℕ
number at row = number_in (column row at)

-- the whole number in a column
abbrev pub whole_at : ℕ → Row → ℤ
whole_at at row = id_in (column row at)
