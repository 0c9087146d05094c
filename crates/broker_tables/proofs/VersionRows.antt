-- The rows of versions, and the pairs that a JOIN by a version's number keeps.
use Rattle.std.specs.{Prelude.{option_map, option_and_then, ◌↔◌}, Ordering.{eq_by_cmp}, Cmp.{IsTotalOrder, eq_by_cmp_equiv, Equal-is, int_cmp_total}}
use Rattle.std.specs.{Cmp.Lexicographic.{nat_list_cmp_total}, FinMap.{IsAntisymmetric, int_cmp-IsAntisymmetric}}
use Rattle.std.proofs.Common.{true≢false, ◌≡◌, inl, inr, ℕ, ℤ, pos, List, Bool, true, false, ◌&&◌, refl, sym, ap, ◌∙◌, Some, None, Option, Ordering}
use Rattle.std.proofs.lemmas.Bool.{and_parts, and_from}
use Rattle.sqlite.specs.{declared.types.Value.{Value}, declared.types.Value.TheVariants.{Int, Text}, Order.{Row, column}, Tree.{IsAscending, rowid}}
use Rattle.sqlite.specs.{Collation.TheVariants.{Binary}, Effect.{Database}}
use Rattle.sqlite_sql.specs.{declared.ops.BinaryOp.TheVariants.{Compare}, declared.ops.CompareOp.TheVariants.{Eq}, Ops.{binary, is_true}}
use Rattle.sqlite_rules.{specs.Lists.{Has}, proofs.TableLemmas.{int_is}}
use Rattle.table_access.{specs.{Columns.{text, whole_at}, Sound.{IsNumbered}}, proofs.{Values.{binary-Eq_Int, binary-Eq_Text}, SoundLemmas.{at_has}}}
use Rattle.table_access.proofs.{Maps.{find-has_row, find-of_row}, Changes.{IsAscending-same_or_apart}}
use Rattle.broker_core.specs.{declared.command.Version.{Version}, Text.{Text as Words, version}}
use Rattle.broker_tables.{specs.{Numbers.{number_of}, Holds.{IsBroker, AreVersions}, Schema.{in_versions}}, proofs.NumberLemmas.{value_at-version_row}}
use Rattle.broker_tables.proofs.Orders.{text_cmp-antisymmetric, pair_cmp-IsTotalOrder, pair_cmp-IsAntisymmetric}
use Rattle.broker_tables.proofs.{Keyed.{IsAscending-keys_of_table, versions_by_name}, Placed.{at_versions, Placed-IsNumbered, column-texts}}
-- a truth value that can't be true is false
pub use Rattle.std.proofs.lemmas.Bool.{false_from_ne_true as false_if}

-- ---- binary-Eq_same of WHERE and ON

binary-Eq_same : {K : Type 0} {R : K → K → Ordering} (code : K → Value) (o : IsTotalOrder R) (exact : IsAntisymmetric R) → ((a b : K) → is_true (binary (Compare Eq Binary) (code a) (code b)) ≡ eq_by_cmp R a b)
    → (x y : Value) (a b : K) → x ≡ code a → y ≡ code b → (is_true (binary (Compare Eq Binary) x y) ≡ true) ↔ (a ≡ b)
binary-Eq_same {R = R} code o exact tested x y a b xs ys =
    let is : is_true (binary (Compare Eq Binary) x y) ≡ eq_by_cmp R a b = (λ i. is_true (binary (Compare Eq Binary) (xs i) (ys i))) ∙ tested a b in
    (λ h. exact a b ((Equal-is (R a b)).0 (sym is ∙ h)), λ same. is ∙ ap (eq_by_cmp R a) (sym same) ∙ (eq_by_cmp_equiv o).refl a)

-- columns of whole numbers, and of texts, that are compared
pub binary-Eq_same_Int : (x y : Value) (a b : ℤ) → x ≡ Int a → y ≡ Int b → (is_true (binary (Compare Eq Binary) x y) ≡ true) ↔ (a ≡ b)
binary-Eq_same_Int = binary-Eq_same Int int_cmp_total int_cmp-IsAntisymmetric binary-Eq_Int

-- two values that are texts are equal by the test = if and only if the texts are the same
pub binary-Eq_same_Text : (x y : Value) (a b : Words) → x ≡ Text a → y ≡ Text b → (is_true (binary (Compare Eq Binary) x y) ≡ true) ↔ (a ≡ b)
binary-Eq_same_Text = binary-Eq_same Text nat_list_cmp_total text_cmp-antisymmetric binary-Eq_Text

-- three binary-Eq_same joined by AND hold if and only if each of them does
pub and-three : (a b c : Bool) → ((a && (b && (c && true))) ≡ true) ↔ ((a ≡ true) × (b ≡ true) × (c ≡ true))
and-three a b c = (
  λ h. let one = and_parts a _ h in let two = and_parts b _ one.1 in (one.0, two.0, (and_parts c true two.1).0),
  λ h. and_from a _ h.0 (and_from b _ h.1 (and_from c true h.2 refl)),
)

-- ---- rows by their keys

-- two rows with one key are one
pub IsAscending-one_row : {K : Type 0} {R : K → K → Ordering} (o : IsTotalOrder R) (key : Row → K) (rows : List Row) → IsAscending (λ a b. eq_by_cmp R (key a) (key b) ≡ false) rows → (a b : Row) → Has rows a → Has rows b → key a ≡ key b → a ≡ b
IsAscending-one_row {R = R} o key rows keys a b ha hb same = elim (IsAscending-same_or_apart _ rows a b keys ha hb) [
  | inl is ↦ is
  | inr (inl apart) ↦ absurd (true≢false (sym (ap (eq_by_cmp R (key a)) (sym same) ∙ (eq_by_cmp_equiv o).refl (key a)) ∙ apart))
  | inr (inr apart) ↦ absurd (true≢false (sym (ap (eq_by_cmp R (key b)) same ∙ (eq_by_cmp_equiv o).refl (key b)) ∙ apart))
]

-- what is looked up by a version's number
pub option_and_then-Some : (o : Option ℕ) (f : ℕ → Option ℤ) (z : ℤ) → option_and_then f o ≡ Some z → (k : ℕ) × (o ≡ Some k) × (f k ≡ Some z)
option_and_then-Some None f z h = absurd cc
option_and_then-Some (Some k) f z h = (k, refl, h)

pub option_map-pos_Some : (z : ℤ) (o : Option ℕ) → Some z ≡ option_map pos o → (k : ℕ) × (o ≡ Some k) × (z ≡ pos k)
option_map-pos_Some z None h = absurd cc
option_map-pos_Some z (Some k) h = (k, refl, cc)

module _ (db : Database) (broker : IsBroker db) where
  pub IsNumbered-versions : IsNumbered (db.trees in_versions.tree)
  IsNumbered-versions = Placed-IsNumbered at_versions db broker

  -- the number in a row of versions is a whole number
  pub version_number : (v : Row) → Has (db.trees in_versions.tree) v → column v in_versions.number ≡ Int (whole_at in_versions.number v)
  version_number v has = int_is (rowid v) (at_has _ (db.trees in_versions.tree) v IsNumbered-versions.1 has)

  -- the pacticipant in a row of versions is a text
  pub column-version_pacticipant : (v : Row) → Has (db.trees in_versions.tree) v → column v in_versions.pacticipant ≡ Text (text in_versions.pacticipant v)
  column-version_pacticipant v has = column-texts at_versions db broker in_versions.pacticipant refl v has

  -- the version's name in a row of versions is a text
  pub names : (v : Row) → Has (db.trees in_versions.tree) v → column v in_versions.version ≡ Text (text in_versions.version v)
  names v has = column-texts at_versions db broker in_versions.version refl v has

  -- rows of one version's names are one
  pub versions-unique_names : (v w : Row) → Has (db.trees in_versions.tree) v → Has (db.trees in_versions.tree) w
      → text in_versions.pacticipant v ≡ text in_versions.pacticipant w → text in_versions.version v ≡ text in_versions.version w → v ≡ w
  versions-unique_names v w hv hw owner name = IsAscending-one_row pair_cmp-IsTotalOrder (λ r. (text in_versions.pacticipant r, text in_versions.version r)) (db.trees in_versions.tree) (IsAscending-keys_of_table versions_by_name db broker) v w hv hw (λ i. (owner i, name i))

  -- the number that a row has is that of its version
  pub number_of-version_row : (vs : List Version) → AreVersions vs (db.trees in_versions.tree) → (v : Row) → Has (db.trees in_versions.tree) v → (k : ℕ) × (number_of vs (version (text in_versions.pacticipant v) (text in_versions.version v)) ≡ Some k) × (whole_at in_versions.number v ≡ pos k)
  number_of-version_row vs are v has =
      option_map-pos_Some (whole_at in_versions.number v) (number_of vs (version (text in_versions.pacticipant v) (text in_versions.version v)))
      (sym (find-of_row pair_cmp-IsTotalOrder pair_cmp-IsAntisymmetric (λ r. (text in_versions.pacticipant r, text in_versions.version r)) (whole_at in_versions.number) (db.trees in_versions.tree) v (IsAscending-keys_of_table versions_by_name db broker) has) ∙ value_at-version_row (db.trees in_versions.tree) vs (text in_versions.pacticipant v) (text in_versions.version v) are)

  -- the row of a version that has a number
  pub number_of-has_row : (vs : List Version) (v : Version) (k : ℕ) → AreVersions vs (db.trees in_versions.tree) → number_of vs v ≡ Some k → (r : Row) × Has (db.trees in_versions.tree) r × (text in_versions.pacticipant r ≡ v.pacticipant) × (text in_versions.version r ≡ v.name) × (whole_at in_versions.number r ≡ pos k)
  number_of-has_row vs v k are known =
      let it = find-has_row pair_cmp-IsTotalOrder pair_cmp-IsAntisymmetric (λ r. (text in_versions.pacticipant r, text in_versions.version r)) (whole_at in_versions.number) (v.pacticipant, v.name) (pos k) (db.trees in_versions.tree) (value_at-version_row (db.trees in_versions.tree) vs v.pacticipant v.name are ∙ ap (option_map pos) known) in
      (it.0, it.1, sym (ap (λ x. x.0) it.2), sym (ap (λ x. x.1) it.2), it.3)
