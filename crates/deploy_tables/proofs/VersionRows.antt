-- What is read of the rows that a query shows, in any order; and rows of a table that name an environment and a
-- version, with their JOIN with the versions.
use Rattle.std.specs.{Prelude.{Contains, ◌↔◌}, Ordering.{ordering_then}}
use Rattle.std.proofs.Common.{◌≡◌, ◌∙◌, ℕ, pos, codes, List, [], ◌∷◌, true, refl, sym, Some, Ordering, Less, Equal, map, filter, subst}
use Rattle.std.proofs.lemmas.List.Sorted.{Contains-permutation}
use Rattle.sqlite_value.proofs.OrderLemmas.{value_cmp-Text, then-Equal}
use Rattle.sqlite_rules.specs.Lists.{Has}
use Rattle.broker_tables.specs.{Schema.{in_versions, in_deployed, to}, Numbers.{number_of}, Holds.{IsBroker, Holds}}
use Rattle.broker_tables.proofs.VersionRows.{binary-Eq_same_Int, binary-Eq_same_Text, number_of-version_row, number_of-has_row, version_number}
use Rattle.broker_tables.proofs.{Listed.{AreRead-sound, AreRead-complete}, References.{references-version}}
use Rattle.contract_tables.proofs.ItemLists.{and-two_tests, and-true_test}
use Rattle.sqlite.specs.{declared.types.Value.{Value}, declared.types.Value.TheVariants.{Int, Text}, Order.{Row, column, value_cmp}}
use Rattle.sqlite.specs.{Term.{Term, col, op2, holds}, Table.{Table}, Collation.TheVariants.{Binary}, Effect.{Database, Answers}}
use Rattle.sqlite_sql.specs.{declared.ops.BinaryOp.TheVariants.{Compare}, declared.ops.CompareOp.TheVariants.{Eq}}
use Rattle.table_access.specs.{Columns.{text, whole_at, pair_cmp}, Statements.{keeps_both, pairs_kept, from_table, keeps, shows}, Reading.{AreRead}}
use Rattle.table_access.proofs.Members.{pairs-complete, pairs-sound, contains_has, has_contains, has_map, map_has, has_filter, filter_has}
use Rattle.table_access.proofs.{Steps.{IsPermutation-kept_rows}, Answered.{IsPermutation-has_each}}
use Rattle.broker_core.specs.{declared.command.Version.{Version}, Text.{Text as Words, version}, State.{State as Broker}}

module _ {Y : Type 0} (db : Database) (params : Row) (terms project : List Term) (reads : Row → Y → Type 0) (rows : List Row) (items : List Y)
    (read : AreRead reads rows items) where
  module _ (t : ℕ) (h : Answers db (record { lets = []; body = from_table t terms project [] }) params rows) where
    abbrev all : List Row
    all = map (shows project params) (filter (keeps terms params) (db.trees t))

    -- the items are those that meet Q: each row that WHERE keeps reads as such, and each such item is read of one
    pub rows_returned : (Q : Y → Type 0) → ((r : Row) (x : Y) → Has (db.trees t) r → keeps terms params r ≡ true → reads (shows project params r) x → Q x)
        → ((x : Y) → Q x → (r : Row) × Has (db.trees t) r × (keeps terms params r ≡ true) × ((y : Y) → reads (shows project params r) y → y ≡ x))
        → (x : Y) → Contains items x ↔ Q x
    rows_returned Q sound complete x = (
      λ c.
          let row = AreRead-sound reads rows items x read c in
          let one = map_has (shows project params) (filter (keeps terms params) (db.trees t)) row.0
          (IsPermutation-has_each all rows row.0 (IsPermutation-kept_rows db params t terms project [] rows h) row.1) in
          let it = filter_has (keeps terms params) (db.trees t) one.0 one.1 in
          sound one.0 x it.0 it.1 (subst (λ y. reads y x) one.2 row.2),
      λ is.
          let r = complete x is in
          let kept = has_filter (keeps terms params) (db.trees t) r.0 r.1 r.2 in
          let there = has_map (shows project params) (filter (keeps terms params) (db.trees t)) r.0 kept in
          let y = AreRead-complete reads rows items (shows project params r.0) read (contains_has rows _
          (Contains-permutation all rows _ (IsPermutation-kept_rows db params t terms project [] rows h) (has_contains all _ there))) in
          subst (Contains items) (r.3 y.0 y.2) y.1,
    )

-- ---- rows that name an environment and a version

-- ON v.number = the number at this place
abbrev pub on_number : ℕ → Term
on_number place = op2 (Compare Eq Binary) (col 2 0) (col 1 place)

-- WHERE environment = ?1. The column is at the same place in deployed and in released
abbrev pub in_environment : List Term
in_environment = op2 (Compare Eq Binary) (col 1 in_deployed.environment) (col 0 0) ∷ []

abbrev pub joined_by : ℕ → List Term
joined_by place = on_number place ∷ in_environment

pub pos-injective : (m n : ℕ) → pos m ≡ pos n → m ≡ n
pos-injective m n h = cc

pub ordering_then-still_less : (x y z : Ordering) → ordering_then x y ≡ Less → ordering_then x (ordering_then y z) ≡ Less
ordering_then-still_less Less y z h = refl
ordering_then-still_less Equal Less z h = refl
ordering_then-still_less _ _ z h = absurd cc

-- two columns of texts are sorted as the pairs of these texts
pub value_cmp-two_texts : (x y z w : Value) (a b c d : Words) → x ≡ Text a → y ≡ Text b → z ≡ Text c → w ≡ Text d
    → ordering_then (value_cmp x y) (ordering_then (value_cmp z w) Equal) ≡ pair_cmp (a, c) (b, d)
value_cmp-two_texts x y z w a b c d one two three four =
    (λ i. ordering_then (value_cmp (one i) (two i)) (then-Equal (value_cmp (three i) (four i)) i))
    ∙ (λ i. ordering_then (value_cmp-Text a b i) (value_cmp-Text c d i))

-- The rows of the table that name this environment name those versions that are such.
pub record Names (db : Database) (s : Broker) (t place : ℕ) (e : Words) (Is : Version → Type 0) : Type 0 where
  pub environments : (r : Row) → Has (db.trees t) r → column r in_deployed.environment ≡ Text (text in_deployed.environment r)
  pub numbers : (r : Row) → Has (db.trees t) r → column r place ≡ Int (whole_at place r)
  pub row_is : (r : Row) (w : Version) (n : ℕ) → Has (db.trees t) r → text in_deployed.environment r ≡ e → number_of s.versions w ≡ Some n
      → whole_at place r ≡ pos n → Is w
  pub is_row : (w : Version) (n : ℕ) → number_of s.versions w ≡ Some n → Is w
      → (r : Row) × Has (db.trees t) r × (text in_deployed.environment r ≡ e) × (whole_at place r ≡ pos n)

module _ (db : Database) (broker : IsBroker db) (t place : ℕ) (environments : (r : Row) → Has (db.trees t) r → column r in_deployed.environment ≡ Text (text in_deployed.environment r))
    (numbers : (r : Row) → Has (db.trees t) r → column r place ≡ Int (whole_at place r)) (e : Words) where
  -- each row names a version, if the table has a reference for it
  pub references-named_version : (table : Table) → Has db.schema.tables table → table.tree ≡ t → Has table.references (to place (codes "versions") (codes "number"))
      → (r : Row) → Has (db.trees t) r → (v : Row) × Has (db.trees in_versions.tree) v × (holds ((Text e ∷ []) ∷ r ∷ v ∷ []) (on_number place) ≡ true)
  references-named_version table listed here among r has =
      let v = references-version db broker table listed place among r (subst (λ n. Has (db.trees n) r) (sym here) has) (numbers r has) in
      (v.0, v.1, (binary-Eq_same_Int (column v.0 0) (column r place) (whole_at 0 v.0) (whole_at place r) (version_number db broker v.0 v.1) (numbers r has)).1 v.2)

  -- a row of the environment, and its version
  abbrev pub IsOf : Row → Row → Type 0
  IsOf d v = (whole_at 0 v ≡ whole_at place d) × (text in_deployed.environment d ≡ e)

  -- what ON and WHERE test
  pub keeps_both-joined_by : (d v : Row) → Has (db.trees t) d → Has (db.trees in_versions.tree) v → (keeps_both (joined_by place) (Text e ∷ []) d v ≡ true) ↔ IsOf d v
  keeps_both-joined_by d v hd hv =
      and-two_tests (binary-Eq_same_Int (column v 0) (column d place) (whole_at 0 v) (whole_at place d) (version_number db broker v hv) (numbers d hd))
      (and-true_test (binary-Eq_same_Text (column d in_deployed.environment) (Text e) (text in_deployed.environment d) e (environments d hd) refl))

  -- the pairs of a row of the environment and its version
  abbrev pub kept : List (Row × Row)
  kept = pairs_kept (joined_by place) (Text e ∷ []) (db.trees t) (db.trees in_versions.tree)

  abbrev pub AreJoined : Row × Row → Type 0
  AreJoined q = Has (db.trees t) q.0 × Has (db.trees in_versions.tree) q.1 × IsOf q.0 q.1

  pub kept-AreJoined : (q : Row × Row) → Has kept q → AreJoined q
  kept-AreJoined q h =
      let it = pairs-sound (keeps_both (joined_by place) (Text e ∷ [])) (db.trees in_versions.tree) (db.trees t) q h in
      (it.0, it.1, (keeps_both-joined_by q.0 q.1 it.0 it.1).0 it.2)

  pub AreJoined-kept : (q : Row × Row) → AreJoined q → Has kept q
  AreJoined-kept q it = pairs-complete (keeps_both (joined_by place) (Text e ∷ [])) (db.trees in_versions.tree) (db.trees t) q.0 q.1 it.0 it.1 ((keeps_both-joined_by q.0 q.1 it.0 it.1).1 it.2)

module _ (db : Database) (s : Broker) (held : Holds db s) (t place : ℕ) (e : Words) (Is : Version → Type 0) (names : Names db s t place e Is) where
  -- each pair is that of a version that meets Is
  pub AreJoined-of_version : (q : Row × Row) → AreJoined db held.broker t place names.environments names.numbers e q
      → (k : ℕ) × (number_of s.versions (version (text in_versions.pacticipant q.1) (text in_versions.version q.1)) ≡ Some k) × (whole_at place q.0 ≡ pos k)
      × Is (version (text in_versions.pacticipant q.1) (text in_versions.version q.1))
  AreJoined-of_version q it =
      let known = number_of-version_row db held.broker s.versions held.versions q.1 it.1 in
      let number = sym it.2.0 ∙ known.2 in
      (known.0, known.1, number, names.row_is q.0 (version (text in_versions.pacticipant q.1) (text in_versions.version q.1)) known.0 it.0 it.2.1 known.1 number)

  -- and each version that meets Is has a pair
  pub AreJoined-has_version : (w : Version) (n : ℕ) → number_of s.versions w ≡ Some n → Is w
      → (q : Row × Row) × AreJoined db held.broker t place names.environments names.numbers e q
      × (text in_versions.pacticipant q.1 ≡ w.pacticipant) × (text in_versions.version q.1 ≡ w.name) × (whole_at place q.0 ≡ pos n)
  AreJoined-has_version w n known is =
      let d = names.is_row w n known is in
      let v = number_of-has_row db held.broker s.versions w n held.versions known in
      ((d.0, v.0), (d.1, v.1, (v.4 ∙ sym d.3, d.2)), v.2, v.3, d.3)
