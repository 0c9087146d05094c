-- The rows of the latest results: by their keys, and the versions of a provider that have one for a content, listed.
use Rattle.std.specs.{Prelude.{option_map, option_and_then, ◌↔◌}, Ordering.{int_cmp}}
use Rattle.std.proofs.Common.{◌≡◌, ℕ, pos, codes, List, [], ◌∷◌, true, refl, sym, ap, ◌∙◌, Some, None, Option}
use Rattle.sqlite.specs.{Edit.{id_in}, declared.types.Value.TheVariants.{Int, Text}, Order.{Row, column}, Term.{Term, col, op2}, Collation.TheVariants.{Binary}}
use Rattle.sqlite.specs.{Effect.{Database}, Listing.{understood}}
use Rattle.sqlite_sql.specs.{declared.ops.BinaryOp.TheVariants.{Compare}, declared.ops.CompareOp.TheVariants.{Eq}}
use Rattle.sqlite_value.specs.Keys.{ascending}
use Rattle.sqlite_rules.specs.Lists.{Has}
use Rattle.sqlite_tied.specs.Compute.{everything}
use Rattle.table_access.specs.{Columns.{text, whole_at, by_both}, Sound.{text_in, whole}, Statements.{from_both, keeps_both}, Reading.{AreRead}}
use Rattle.table_access.proofs.Maps.{find-has_row, find-of_row}
use Rattle.broker_core.specs.{declared.command.Version.{Version}, Listing.{Lists}, Text.{Text as Words, version}}
use Rattle.broker_core.specs.State.{State as Broker, Verification, latest_result}
use Rattle.broker_tables.{specs.{Schema.{in_versions, in_latest}, Rows.{value_at}, Numbers.{number_of}, Holds.{Holds}}, proofs.TableQuery.{TableQuery, IsShown}}
use Rattle.broker_tables.proofs.VersionRows.{binary-Eq_same_Int, binary-Eq_same_Text, option_and_then-Some, version_number, IsNumbered-versions, column-version_pacticipant, names, versions-unique_names, number_of-version_row, number_of-has_row, IsAscending-one_row}
use Rattle.broker_tables.proofs.Orders.{text_cmp-antisymmetric, by_both-total_int_int, by_both-exact_int_int}
use Rattle.broker_tables.proofs.Keyed.{IsAscending-keys_of_table, latest_by_key}
use Rattle.contract_tables.specs.{declared.listings.NumberedName.{NumberedName}, ResultsByVersion.{named_cmp}, Listings.{IsNumberedName}, Verified.{latest_at}}
use Rattle.contract_tables.proofs.ItemLists.{and-two_tests, and-true_test, value_cmp-last_Text, IsShown-Answers, Lists-of_pairs}
use Rattle.contract_tables.proofs.ResultRows.{key, contents, versions, IsNumbered-latest}

-- a result from what is said of it
pub option_map-Some_sound : {A B : Type 0} (f : A → B) (o : Option A) (b : B) → option_map f o ≡ Some b → (e : A) × (o ≡ Some e) × (f e ≡ b)
option_map-Some_sound f None b h = absurd cc
option_map-Some_sound f (Some e) b h = (e, refl, cc)

module _ (db : Database) (s : Broker) (held : Holds db s) (v : Version) (n : ℕ) (is : number_of s.versions v ≡ Some n) where
  -- what the state has is what the row has
  latest_at-latest_result : (content : ℕ) → latest_at (db.trees in_latest.tree) content n ≡ option_map (λ e. pos e.0) (latest_result s content v)
  latest_at-latest_result content = sym (ap (option_and_then (λ k. latest_at (db.trees in_latest.tree) content k)) is) ∙ held.latest content v

  -- a row of the version says which result is the latest for its content
  pub latest_result-of_row : (l : Row) (content : ℕ) → Has (db.trees in_latest.tree) l → whole_at in_latest.content l ≡ pos content
      → whole_at in_latest.provider_version l ≡ pos n
      → (e : ℕ × Verification) × (latest_result s content v ≡ Some e) × (whole_at in_latest.result l ≡ pos e.0)
  latest_result-of_row l content has one two =
      let value = find-of_row by_both-total_int_int by_both-exact_int_int key (whole_at in_latest.result) (db.trees in_latest.tree) l (IsAscending-keys_of_table latest_by_key db held.broker) has in
      let e = option_map-Some_sound (λ e. pos e.0) (latest_result s content v) (whole_at in_latest.result l)
      (sym (latest_at-latest_result content) ∙ ap (value_at (by_both int_cmp int_cmp) key (whole_at in_latest.result) (db.trees in_latest.tree)) (λ i. (sym one i, sym two i)) ∙ value) in
      (e.0, e.1, sym e.2)

  -- and the version has a row for the latest result for a content
  pub latest_result-has_row : (content : ℕ) (e : ℕ × Verification) → latest_result s content v ≡ Some e
      → (l : Row) × Has (db.trees in_latest.tree) l × (whole_at in_latest.content l ≡ pos content) × (whole_at in_latest.provider_version l ≡ pos n) × (whole_at in_latest.result l ≡ pos e.0)
  latest_result-has_row content e found =
      let value = latest_at-latest_result content ∙ ap (option_map (λ (e : ℕ × Verification). pos e.0)) found in
      let l = find-has_row by_both-total_int_int by_both-exact_int_int key (whole_at in_latest.result) (pos content, pos n) (pos e.0) (db.trees in_latest.tree) value in
      (l.0, l.1, sym (ap (λ k. k.0) l.2), sym (ap (λ k. k.1) l.2), l.3)

-- ---- the versions of a provider

abbrev terms : List Term
terms = op2 (Compare Eq Binary) (col 2 0) (col 1 in_latest.provider_version) ∷ op2 (Compare Eq Binary) (col 1 in_latest.content) (col 0 0)
    ∷ op2 (Compare Eq Binary) (col 2 in_versions.pacticipant) (col 0 1) ∷ []

abbrev pub project : List Term
project = col 1 in_latest.result ∷ col 2 in_versions.version ∷ []

pub verifiers : (c : ℕ) (p : List ℕ)
    → TableQuery (codes "SELECT l.result, v.version FROM latest l JOIN versions v ON v.number = l.provider_version WHERE l.content = ?1 AND v.pacticipant = ?2 ORDER BY v.version")
    (Int (pos c) ∷ Text p ∷ []) (from_both in_latest.tree in_versions.tree terms project ((col 2 in_versions.version, ascending Binary) ∷ []))
unfolding understood everything
verifiers c p = record { names = _; means = record { is = refl; plain = (refl, refl); unlisted = refl }; runs = record { whole = refl; typed = refl; sumless = refl } }

module _ (db : Database) (s : Broker) (held : Holds db s) (content : ℕ) (p : Words) where
  abbrev IsKept : Row → Row → Type 0
  IsKept l v = (whole_at 0 v ≡ whole_at in_latest.provider_version l) × ((whole_at in_latest.content l ≡ pos content) × (text in_versions.pacticipant v ≡ p))

  -- what ON and WHERE test
  keeps_both-verifiers_terms : (l v : Row) → Has (db.trees in_latest.tree) l → Has (db.trees in_versions.tree) v
      → (keeps_both terms (Int (pos content) ∷ Text p ∷ []) l v ≡ true) ↔ IsKept l v
  keeps_both-verifiers_terms l v hl hv =
      and-two_tests (binary-Eq_same_Int (column v 0) (column l in_latest.provider_version) (whole_at 0 v) (whole_at in_latest.provider_version l)
      (version_number db held.broker v hv) (versions db held.broker l hl))
      (and-two_tests (binary-Eq_same_Int (column l in_latest.content) (Int (pos content)) (whole_at in_latest.content l) (pos content) (contents db held.broker l hl) refl)
      (and-true_test (binary-Eq_same_Text (column v in_versions.pacticipant) (Text p) (text in_versions.pacticipant v) p (column-version_pacticipant db held.broker v hv) refl)))

  abbrev Is : NumberedName → Type 0
  Is x = (option_map (λ e. e.0) (latest_result s content (version p x.name)) ≡ Some x.number)

  pub Lists-verifiers : (rows : List Row) (items : List NumberedName) → IsShown (verifiers content p) db rows → AreRead IsNumberedName rows items → Lists named_cmp Is items
  Lists-verifiers = Lists-of_pairs db IsNumberedName named_cmp Is text_cmp-antisymmetric (λ x. x.name) (λ x y less. less)
      (IsShown-Answers (verifiers content p) db) IsKept (IsNumbered-latest db held.broker) (IsNumbered-versions db held.broker) keeps_both-verifiers_terms (record {
        key = λ q. text in_versions.version q.1;
        sorted = λ a b one two. value_cmp-last_Text (column a.1 in_versions.version) (column b.1 in_versions.version) (text in_versions.version a.1) (text in_versions.version b.1)
            (names db held.broker a.1 one.1) (names db held.broker b.1 two.1);
        one = λ a b one two same.
            let second : a.1 ≡ b.1 = versions-unique_names db held.broker a.1 b.1 one.1 two.1 (one.2.1.1 ∙ sym two.2.1.1) same in
            let number : whole_at in_latest.provider_version a.0 ≡ whole_at in_latest.provider_version b.0 = sym one.2.0 ∙ ap (whole_at 0) second ∙ two.2.0 in
            let keyed : key a.0 ≡ key b.0 = λ i. ((one.2.1.0 ∙ sym two.2.1.0) i, number i) in
            λ i. (IsAscending-one_row by_both-total_int_int key (db.trees in_latest.tree) (IsAscending-keys_of_table latest_by_key db held.broker) a.0 b.0 one.0 two.0 keyed i, second i);
        read = λ q x read. ap text_in read.1;
        sound = λ q x it read.
            let known = number_of-version_row db held.broker s.versions held.versions q.1 it.1 in
            let named : number_of s.versions (version p x.name) ≡ Some known.0 =
            (λ i. number_of s.versions (version (sym it.2.1.1 i) (text_in (sym read.1 i)))) ∙ known.1 in
            let e = latest_result-of_row db s held (version p x.name) known.0 named q.0 content it.0 it.2.1.0 (sym it.2.0 ∙ known.2) in
            ap (option_map (λ (e : ℕ × Verification). e.0)) e.1 ∙ (λ i. Some (whole ((sym e.2 ∙ ap id_in read.0) i)));
        complete = λ x there.
            let w = version p x.name in
            let e = option_map-Some_sound (λ e. e.0) (latest_result s content w) x.number there in
            let number = held.latest content w ∙ ap (option_map (λ (e : ℕ × Verification). pos e.0)) e.1 in
            let at = option_and_then-Some (number_of s.versions w) (λ k. latest_at (db.trees in_latest.tree) content k) (pos e.0.0) number in
            let l = latest_result-has_row db s held w at.0 at.1 content e.0 e.1 in
            let v = number_of-has_row db held.broker s.versions w at.0 held.versions at.1 in (
              (l.0, v.0),
              (l.1, v.1, (v.4 ∙ sym l.3, (l.2, v.2))),
              λ y read i. record { name = (sym (ap text_in read.1) ∙ v.3) i; number = whole ((sym (ap id_in read.0) ∙ l.4 ∙ ap pos e.2) i) },
            );
      })
