-- What the schema says of each row.
use Rattle.std.specs.{Prelude.{slice_index_or}, Ordering.{is_ne}}
use Rattle.std.proofs.Common.{◌≡◌, inl, inr, ℕ, zero, suc, ◌+◌, List, [], ◌∷◌, true, false, cond, not, ◌&&◌, ◌||◌, refl, ap, ◌∙◌, sym, subst, slice_get, Option, Some, drop, add-one, arith, Less}
use Rattle.std.proofs.lemmas.Bool.{not-true, false_from_ne_true}
use Rattle.sqlite.specs.{declared.types.Value.{Value}, declared.types.Value.TheVariants.{Null, Int, Text}, Order.{Row, column, value_cmp}, Table.{Table}}
use Rattle.sqlite.specs.{View.{is_int}, Edit.{id_in}, Tree.{IsTable, IsAscending, rowid}, Effect.{Database, IsDatabase}}
use Rattle.sqlite_schema.specs.{declared.schema.Column.{Column}, declared.schema.Constraint.TheVariants.{Datatype, NotNull, Check}, Names.{is_key}}
use Rattle.sqlite_schema.specs.Rules.{passes_checks, are_typed, are_present, is_of, suits, has_affinity, agree, clashes, differ}
use Rattle.sqlite_value.specs.declared.keys.Order.{Order}
use Rattle.sqlite_sql.specs.Ops.{is_null, binary}
use Rattle.sqlite_rules.{specs.Lists.{Has}, proofs.{TableLemmas.{int_is}, RuleLemmas.{keeps_at}}}
use Rattle.sqlite_keyed.proofs.RuleLemmas.{first_of_both, second_of_both}
use Rattle.table_access.{specs.Sound.{text_in}, proofs.Values.{is_true-from_truth}}
use Rattle.sqlite.specs.Kind.TheVariants as kind
-- what holds of all of a list and of each element, what is found at a place, and a test that some element passes
pub use Rattle.sqlite_rules.proofs.ListLemmas.{all_has as at_has, all_from as all_of, has_got as has_place, some_from as any_of}

-- ---- the columns of a row

add-suc_shift : (from at : ℕ) → from + suc at ≡ from + 1 + at
add-suc_shift from at = omega arith

-- a row that lacks the last columns reads as NULL there
slice_index_or-nil : (at : ℕ) → slice_index_or [] at Null ≡ Null
slice_index_or-nil zero = refl
slice_index_or-nil (suc at) = refl

are_typed-at : (key : Option ℕ) (from : ℕ) (cs : List Column) (vs : Row) (at : ℕ) (c : Column) → are_typed key from cs vs ≡ true → slice_get cs at ≡ Some c → is_key key (from + at) ≡ false → c.is_strict ≡ true
    → is_of c.kind (slice_index_or vs at Null) ≡ true
are_typed-at key from [] vs at c typed there free strict = absurd cc
are_typed-at key from (d ∷ cs) [] at c typed there free strict = ap (is_of c.kind) (slice_index_or-nil at)
are_typed-at key from (d ∷ cs) (v ∷ vs) zero c typed there free strict =
    let same : d ≡ c = cc in
    let here : is_key key from ≡ false = subst (λ n. is_key key n ≡ false) (omega arith) free in
    let suit : suits d v ≡ true = subst (λ b. cond b (is_null v) (suits d v) ≡ true) here (first_of_both _ _ typed) in
    subst (λ b. cond b (is_of c.kind v) (has_affinity c.kind v) ≡ true) strict (subst (λ e. suits e v ≡ true) same suit)
are_typed-at key from (d ∷ cs) (v ∷ vs) (suc at) c typed there free strict =
    are_typed-at key (from + 1) cs vs at c (second_of_both _ _ typed) there (subst (λ n. is_key key n ≡ false) (add-suc_shift from at) free) strict

are_present-at : (key : Option ℕ) (from : ℕ) (cs : List Column) (row : Row) (at : ℕ) (c : Column) → are_present key from cs row ≡ true → slice_get cs at ≡ Some c → is_key key (from + at) ≡ false → c.not_null ≡ true
    → is_null (column row (from + at + 1)) ≡ false
are_present-at key from [] row at c present there free needed = absurd cc
are_present-at key from (d ∷ cs) row zero c present there free needed =
    let same : d ≡ c = cc in
    let here : is_key key from ≡ false = subst (λ n. is_key key n ≡ false) (omega arith) free in
    let test = first_of_both _ _ present in
    let one = subst (λ b. (b || not d.not_null || not (is_null (column row (from + 1)))) ≡ true) here test in
    let two = subst (λ b. (not b || not (is_null (column row (from + 1)))) ≡ true) (ap (λ (e : Column). e.not_null) same ∙ needed) one in
    subst (λ n. is_null (column row n) ≡ false) (omega arith) (not-true _ two)
are_present-at key from (d ∷ cs) row (suc at) c present there free needed =
    subst (λ n. is_null (column row (n + 1)) ≡ false) (sym (add-suc_shift from at)) (are_present-at key (from + 1) cs row at c (second_of_both _ _ present) there (subst (λ n. is_key key n ≡ false) (add-suc_shift from at) free) needed)

slice_index_or-drop : (row : Row) (at : ℕ) → slice_index_or (drop 1 row) at Null ≡ column row (at + 1)
slice_index_or-drop [] at = slice_index_or-nil at ∙ sym (slice_index_or-nil (at + 1))
slice_index_or-drop (v ∷ vs) at = ap (λ n. slice_index_or (v ∷ vs) n Null) (sym (add-one at))

is_of-Text : (v : Value) → is_of kind.Text v ≡ true → is_null v ≡ false → v ≡ Text (text_in v)
is_of-Text (Text x) t n = refl
is_of-Text _ t n = absurd cc

is_of-Integer : (v : Value) → is_of kind.Integer v ≡ true → is_null v ≡ false → v ≡ Int (id_in v)
is_of-Integer (Int x) t n = refl
is_of-Integer _ t n = absurd cc

module _ (db : Database) (sound : IsDatabase db) (t : Table) (listed : Has db.schema.tables t) (row : Row) (has : Has (db.trees t.tree) row) (at : ℕ) (c : Column) (there : slice_get t.columns at ≡ Some c)
    (free : is_key t.key at ≡ false) (strict : c.is_strict ≡ true) (needed : c.not_null ≡ true) where
  -- the column has its type
  column-has_kind : (is_of c.kind (column row (at + 1)) ≡ true) × (is_null (column row (at + 1)) ≡ false)
  column-has_kind =
      let typed = keeps_at Datatype db.schema db.trees t row (sound.obeys.rules Datatype) listed has in
      let present = keeps_at NotNull db.schema db.trees t row (sound.obeys.rules NotNull) listed has in
      let open_at : is_key t.key (0 + at) ≡ false = subst (λ n. is_key t.key n ≡ false) (omega arith) free in (
        subst (λ v. is_of c.kind v ≡ true) (slice_index_or-drop row at) (are_typed-at t.key 0 t.columns (drop 1 row) at c (first_of_both _ _ typed) there open_at strict),
        subst (λ n. is_null (column row n) ≡ false) (omega arith) (are_present-at t.key 0 t.columns row at c present there open_at needed),
      )

  -- a strict NOT NULL column of type TEXT, other than the rowid, has a text in each row
  pub column-Text : c.kind ≡ kind.Text → column row (at + 1) ≡ Text (text_in (column row (at + 1)))
  column-Text is = is_of-Text _ (subst (λ k. is_of k (column row (at + 1)) ≡ true) is column-has_kind.0) column-has_kind.1

  -- a strict NOT NULL column of type INTEGER, other than the rowid, has a whole number in each row
  pub column-Int : c.kind ≡ kind.Integer → column row (at + 1) ≡ Int (id_in (column row (at + 1)))
  column-Int is = is_of-Integer _ (subst (λ k. is_of k (column row (at + 1)) ≡ true) is column-has_kind.0) column-has_kind.1

-- each CHECK holds of each row
pub IsDatabase-passes_checks : (db : Database) → IsDatabase db → (t : Table) → Has db.schema.tables t → (row : Row) → Has (db.trees t.tree) row → passes_checks t row ≡ true
IsDatabase-passes_checks db sound t listed row has = keeps_at Check db.schema db.trees t row (sound.obeys.rules Check) listed has

-- ---- no two rows have one UNIQUE key

differ-of_Less : (a b : Row) → is_int (rowid a) ≡ true → is_int (rowid b) ≡ true → value_cmp (rowid a) (rowid b) ≡ Less → differ (rowid a) (rowid b) ≡ true
unfolding binary
differ-of_Less a b p q less =
    let e = int_is (rowid a) p in
    let f = int_is (rowid b) q in
    rw (e, f) (is_true-from_truth _ ∙ ap is_ne (sym (ap (λ v. value_cmp v (rowid b)) e ∙ ap (value_cmp (Int (id_in (rowid a)))) f) ∙ less))

module _ (o : Order) (places : List ℕ) (rows : List Row) (ints : (r : Row) → Has rows r → is_int (rowid r) ≡ true) (unique : (r : Row) → Has rows r → clashes o places rows r ≡ false) where
  agree-unique_rows : (a b : Row) → Has rows a → Has rows b → value_cmp (rowid a) (rowid b) ≡ Less → agree o places a places b ≡ false
  agree-unique_rows a b hasa hasb less = false_from_ne_true _ (λ same.
      let two = any_of (λ other. agree o places other places b && differ (rowid other) (rowid b)) rows a hasa (rw (same, differ-of_Less a b (ints a hasa) (ints b hasb) less)) in
      let one = unique b hasb in
      absurd cc)

  pub IsTable-keys_apart : (rest : List Row) → IsTable rest → ((r : Row) → Has rest r → Has rows r) → IsAscending (λ a b. agree o places a places b ≡ false) rest
  IsTable-keys_apart [] up part = tt
  IsTable-keys_apart (a ∷ rest) up part =
      (all_of _ rest (λ b later. agree-unique_rows a b (part a (inl refl)) (part b (inr later)) (at_has _ rest b up.0 later)), IsTable-keys_apart rest up.1 (λ r later. part r (inr later)))
