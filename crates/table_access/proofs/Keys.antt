-- Keys of any columns: what WHERE and UNIQUE say of them.
use Rattle.std.specs.{Ordering.{is_eq, eq_by_cmp, int_cmp}, Cmp.{IsTotalOrder, eq_by_cmp_equiv, int_cmp_total, tied_then}}
use Rattle.std.specs.Cmp.Lexicographic.{nat_list_cmp_total}
use Rattle.std.specs.FinMap.{IsAntisymmetric, int_cmp-IsAntisymmetric, nat_cmp-IsAntisymmetric, slice_cmp-IsAntisymmetric}
use Rattle.std.proofs.{Common.{◌≡◌, ◌+◌, ℕ, List, [], ◌∷◌, Bool, true, false, not, ◌&&◌, map, refl, sym, ap, ◌∙◌, Ordering}, lemmas.Bool.{not-true}}
use Rattle.std.proofs.{lemmas.Cmp.{then_total, on_total}, lemmas.Map.Lookups.{exact_pairs}, Math.Bool.{and-true}}
use Rattle.sqlite.specs.{declared.types.Value.TheVariants.{Int, Text}, Order.{Row, column, value_cmp}, Table.{Table}, Tree.{IsAscending, rowid}}
use Rattle.sqlite.specs.{Effect.{Database}, Term.{Term, col, op2}, Collation.TheVariants.{Binary}}
use Rattle.sqlite_sql.specs.{declared.ops.BinaryOp.TheVariants.{Compare}, declared.ops.CompareOp.TheVariants.{Eq}}
use Rattle.sqlite_schema.specs.{declared.schema.Index.{Index}, declared.schema.Constraint.TheVariants.{Unique}, Rules.{agree, equal, guards}}
use Rattle.sqlite_value.{specs.Keys.{plain, first_key}, proofs.OrderLemmas.{value_cmp-Int}}
use Rattle.sqlite_rules.{specs.Lists.{Has}, proofs.{RuleLemmas.{keeps_at}, TableLemmas.{int_is}}}
use Rattle.sqlite_keyed.proofs.ListLemmas.{all_from_test}
use Rattle.table_access.specs.{Sound.{IsKept, IsNumbered}, Columns.{text, text_cmp, whole_at, by_both}, Statements.{keeps}}
use Rattle.table_access.proofs.{SoundLemmas.{at_has, IsTable-keys_apart}, Values.{binary-Eq_Text, binary-Eq_Int}, Members.{IsAscending-map_on}}

-- ---- what UNIQUE says of a table

not_and-false : (a b : Bool) → not (a && b) ≡ true → a ≡ true → b ≡ false
not_and-false true b h e = not-true b h
not_and-false false b h e = absurd cc

-- no two rows have one key under a UNIQUE index
pub IsKept-unique_index_apart : (db : Database) → IsKept db → (t : Table) → Has db.schema.tables t → (i : Index) → Has db.schema.indexes i → guards i t ≡ true
    → IsAscending (λ a b. agree i.order i.columns a i.columns b ≡ false) (db.trees t.tree)
IsKept-unique_index_apart db kept t listed i known guard =
    let numbered = at_has _ db.schema.tables t kept.numbered listed in
    IsTable-keys_apart i.order i.columns (db.trees t.tree) (λ r has. at_has _ (db.trees t.tree) r numbered.1 has)
    (λ r has. not_and-false _ _ (at_has _ db.schema.indexes i (all_from_test _ db.schema.indexes (keeps_at Unique db.schema db.trees t r (kept.sound.obeys.rules Unique) listed has)) known) guard)
    (db.trees t.tree) numbered.0 (λ r has. has)

-- no two rows have one number
pub IsNumbered-whole_at_unique : (rows : List Row) → IsNumbered rows → IsAscending (λ a b. eq_by_cmp int_cmp (whole_at 0 a) (whole_at 0 b) ≡ false) rows
IsNumbered-whole_at_unique rows numbered = IsAscending-map_on _ _ rows (λ a b ha hb less.
    let one = int_is (rowid a) (at_has _ rows a numbered.1 ha) in
    let two = int_is (rowid b) (at_has _ rows b numbered.1 hb) in
    ap is_eq (sym (value_cmp-Int (whole_at 0 a) (whole_at 0 b)) ∙ sym (ap (λ v. value_cmp v (rowid b)) one ∙ ap (value_cmp (Int (whole_at 0 a))) two) ∙ less)) numbered.0

-- ---- what SQL says of values

-- whether it takes two lists of values for equal, one for one
abbrev pub all_equal : Row → Row → Bool
all_equal [] [] = true
all_equal [] (w ∷ ws) = false
all_equal (v ∷ vs) [] = false
all_equal (v ∷ vs) (w ∷ ws) = equal Binary v w && all_equal vs ws

-- the values of a row at these places
abbrev pub cells_at : List ℕ → Row → Row
cells_at places r = map (λ place. column r place) places

agree-cells_at : (places : List ℕ) (a b : Row) → agree plain places a places b ≡ all_equal (cells_at places a) (cells_at places b)
unfolding first_key
agree-cells_at [] a b = refl
agree-cells_at (place ∷ places) a b = ap (λ c. equal Binary (column a place) (column b place) && c) (agree-cells_at places a b)

-- WHERE the columns at these places are parameters, from this one on
abbrev pub is_param : ℕ → ℕ → Term
is_param place param = op2 (Compare Eq Binary) (col 1 place) (col 0 param)

abbrev pub are_params : List ℕ → ℕ → List Term
are_params [] from = []
are_params (place ∷ places) from = is_param place from ∷ are_params places (from + 1)

-- these parameters
abbrev pub params_for : List ℕ → ℕ → Row → Row
params_for [] from params = []
params_for (place ∷ places) from params = column params from ∷ params_for places (from + 1) params

keeps-are_params : (places : List ℕ) (from : ℕ) (params r : Row) → keeps (are_params places from) params r ≡ all_equal (cells_at places r) (params_for places from params)
keeps-are_params [] from params r = refl
keeps-are_params (place ∷ places) from params r = ap (λ c. equal Binary (column r place) (column params from) && c) (keeps-are_params places (from + 1) params r)

-- ---- keys

-- A key of the columns at these places: the values that it is kept as, which SQL takes for equal if and only if the
-- keys tie in their order. Keys that tie are one.
pub record Key {K : Type 0} (R : K → K → Ordering) (places : List ℕ) (key : Row → K) : Type 0 where
  pub cells : K → Row
  pub total : IsTotalOrder R
  pub exact : IsAntisymmetric R
  pub ties : (k l : K) → all_equal (cells k) (cells l) ≡ eq_by_cmp R k l

-- texts that tie in their order are the same
pub text_cmp-antisymmetric : IsAntisymmetric text_cmp
text_cmp-antisymmetric = slice_cmp-IsAntisymmetric nat_cmp-IsAntisymmetric

-- two total orders give one of pairs, by the first parts and, if these tie, by the second
pub by_both-IsTotalOrder : {A B : Type 0} {R : A → A → Ordering} {S : B → B → Ordering} → IsTotalOrder R → IsTotalOrder S → IsTotalOrder (by_both R S)
by_both-IsTotalOrder {A} {B} o p = then_total (on_total (λ (x : A × B). x.0) o) (on_total (λ (x : A × B). x.1) p)

-- a text, and a whole number
abbrev pub text_key : (place : ℕ) → Key text_cmp (place ∷ []) (text place)
text_key place = record { cells = λ k. Text k ∷ []; total = nat_list_cmp_total; exact = text_cmp-antisymmetric; ties = λ k l. and-true _ ∙ binary-Eq_Text k l }

abbrev pub whole_key : (place : ℕ) → Key int_cmp (place ∷ []) (whole_at place)
whole_key place = record { cells = λ k. Int k ∷ []; total = int_cmp_total; exact = int_cmp-IsAntisymmetric; ties = λ k l. and-true _ ∙ binary-Eq_Int k l }

module _ {K : Type 0} {S : K → K → Ordering} {places : List ℕ} {key : Row → K} (place : ℕ) (rest : Key S places key) where
  -- a text, and then another key; a whole number, and then another
  abbrev pub text_and : Key (by_both text_cmp S) (place ∷ places) (λ r. (text place r, key r))
  text_and = record {
    cells = λ k. Text k.0 ∷ rest.cells k.1;
    total = by_both-IsTotalOrder nat_list_cmp_total rest.total;
    exact = exact_pairs text_cmp S text_cmp-antisymmetric rest.exact;
    ties = λ k l. (λ i. binary-Eq_Text k.0 l.0 i && rest.ties k.1 l.1 i) ∙ tied_then (text_cmp k.0 l.0) (S k.1 l.1);
  }

  abbrev pub whole_and : Key (by_both int_cmp S) (place ∷ places) (λ r. (whole_at place r, key r))
  whole_and = record {
    cells = λ k. Int k.0 ∷ rest.cells k.1;
    total = by_both-IsTotalOrder int_cmp_total rest.total;
    exact = exact_pairs int_cmp S int_cmp-IsAntisymmetric rest.exact;
    ties = λ k l. (λ i. binary-Eq_Int k.0 l.0 i && rest.ties k.1 l.1 i) ∙ tied_then (int_cmp k.0 l.0) (S k.1 l.1);
  }

module _ {K : Type 0} {R : K → K → Ordering} {places : List ℕ} {key : Row → K} (of : Key R places key) where
  -- the columns of the row have the values of its key
  abbrev pub HasCells : Row → Type 0
  HasCells r = cells_at places r ≡ of.cells (key r)

  -- UNIQUE takes such rows for equal if and only if their keys tie
  pub agree-keys_tie : (a b : Row) → HasCells a → HasCells b → agree plain places a places b ≡ eq_by_cmp R (key a) (key b)
  agree-keys_tie a b one two = agree-cells_at places a b ∙ (λ i. all_equal (one i) (two i)) ∙ of.ties (key a) (key b)

  -- WHERE keeps such a row if and only if its key is the one that is given
  pub keeps-one_key : (from : ℕ) (params : Row) (k : K) → params_for places from params ≡ of.cells k → (r : Row) → HasCells r → keeps (are_params places from) params r ≡ eq_by_cmp R k (key r)
  keeps-one_key from params k given r has = keeps-are_params places from params r ∙ (λ i. all_equal (has i) (given i)) ∙ of.ties (key r) k ∙ (eq_by_cmp_equiv of.total).symm (key r) k

  -- so no two rows have one key: from `IsKept-unique_index_apart` of the index
  pub IsAscending-keys_unique : (rows : List Row) → ((r : Row) → Has rows r → HasCells r) → IsAscending (λ a b. agree plain places a places b ≡ false) rows → IsAscending (λ a b. eq_by_cmp R (key a) (key b) ≡ false) rows
  IsAscending-keys_unique rows typed = IsAscending-map_on _ _ rows (λ a b ha hb h. sym (agree-keys_tie a b (typed a ha) (typed b hb)) ∙ h)
