-- The rows of a state that can be read back: numbers are low, names are names, and marks are 0 or 1.
use Rattle.std.specs.{Prelude.{IsUtf8}, Cmp.Lexicographic.{nat_list_cmp_total}}
use Rattle.std.proofs.{Common.{◌≡◌, ◌∙◌, ◌<◌, ◌≤◌, ◌^◌, ℕ, ℤ, pos, List, map, length, true, refl, sym, ap, subst, codes, arith}, lemmas.List.{length-map}}
use Rattle.std.proofs.lemmas.List.Elements.{All-contains}
use Rattle.sqlite.specs.{declared.types.Value.TheVariants.{Int, Text as SqlText}, Order.{Row, column}, Table.{Table}, Effect.{Database}}
use Rattle.sqlite_rules.specs.Lists.{Has}
use Rattle.sqlite_keyed.proofs.RuleLemmas.{first_of_both}
use Rattle.table_access.{specs.{Columns.{text, whole_at}, Reading.{IsNumberAt}}, proofs.{Maps.{find-of_row}, Members.{map_has, has_contains}}}
use Rattle.table_access.proofs.SoundLemmas.{IsDatabase-passes_checks}
use Rattle.broker_core.specs.{declared.command.Version.{Version}, Limit.{limit}, Text.{Text, version}, State.{State as Broker}}
use Rattle.broker_tables.specs.{Schema.{to, in_pacticipants, in_versions, in_contents, in_results, in_checked_results}, Rows.{IsTruthAt}, Names.{IsNameAt}}
use Rattle.broker_tables.specs.{Numbers.{numbered}, Holds.{Holds, with_digest, result_in, result_of}, Readable.{IsReadable, IsNamed, AreFew}}
use Rattle.broker_tables.proofs.{Orders.{text_cmp-antisymmetric}, Keyed.{pacticipants_by_name, IsAscending-keys_of_table}}
use Rattle.broker_tables.proofs.Placed.{results, at_results, listed, column-whole_numbers}
use Rattle.broker_tables.proofs.References.{enumerate_from-row_number, enumerate_from-row_entry, references-version, references-content, references-result, references-pacticipant}
use Rattle.broker_tables.proofs.TruthLemmas.{is_truth-bounds}

-- it is a number below 2^32
abbrev pub IsLow : ℤ → Type 0
IsLow z = (n : ℕ) × (z ≡ pos n) × (n < 2 ^ 32)

-- ---- a column of a row that is shown

pub IsNumberAt-of_column : (row : Row) (at : ℕ) (z : ℤ) → at < length row → column row at ≡ Int z → IsLow z → IsNumberAt at row
IsNumberAt-of_column row at z there is low = (there, (low.0, is ∙ ap Int low.1, low.2))

pub IsNameAt-of_column : (row : Row) (at : ℕ) (name : Text) → at < length row → column row at ≡ SqlText name → IsNamed name → IsNameAt at row
IsNameAt-of_column row at name there is named = (there, (name, is, named.0, named.1))

pub IsTruthAt-of_column : (row : Row) (at : ℕ) (z : ℤ) → at < length row → column row at ≡ Int z → ((n : ℕ) × (z ≡ pos n) × (n ≤ 1)) → IsTruthAt at row
IsTruthAt-of_column row at z there is low = (there, (low.0, is ∙ ap Int low.1, low.2))

-- ---- the rows of the tables

IsLow-of_AreFew : {X : Type 0} (f : Row → X) (rows : List Row) (xs : List X) → map {B = ℤ × X} (λ r. (whole_at 0 r, f r)) rows ≡ numbered xs → AreFew xs → (r : Row) → Has rows r → IsLow (whole_at 0 r)
IsLow-of_AreFew f rows xs is few r has = let n = enumerate_from-row_number f rows xs 1 is r has in (n.0, n.1, omega (arith, n.2, few))

AreFew-map : {X Y : Type 0} (f : X → Y) (xs : List X) → AreFew xs → AreFew (map f xs)
AreFew-map f xs few = subst (λ n. n ≤ limit) (sym (length-map xs f)) few

module _ (db : Database) (s : Broker) (held : Holds db s) (readable : IsReadable s) where
  pub IsLow-version : (r : Row) → Has (db.trees in_versions.tree) r → IsLow (whole_at in_versions.number r)
  IsLow-version = IsLow-of_AreFew (λ r. version (text in_versions.pacticipant r) (text in_versions.version r)) (db.trees in_versions.tree) s.versions held.versions readable.few_versions

  pub IsLow-content : (r : Row) → Has (db.trees in_contents.tree) r → IsLow (whole_at in_contents.number r)
  IsLow-content = IsLow-of_AreFew (λ r. (text in_contents.digest r, text in_contents.body r)) (db.trees in_contents.tree) (map with_digest s.contents) held.contents (AreFew-map with_digest s.contents readable.few_contents)

  pub IsLow-result : (r : Row) → Has (db.trees in_results.tree) r → IsLow (whole_at in_results.number r)
  IsLow-result = IsLow-of_AreFew (result_in (db.trees in_checked_results.tree)) (db.trees in_results.tree) (map (result_of s.versions) s.results) held.results (AreFew-map (result_of s.versions) s.results readable.few_results)

  -- a number that refers to one of these
  module _ (t : Table) (listed : Has db.schema.tables t) (p : ℕ) (r : Row) (has : Has (db.trees t.tree) r) (typed : column r p ≡ Int (whole_at p r)) where
    pub to_version_low : Has t.references (to p (codes "versions") (codes "number")) → IsLow (whole_at p r)
    to_version_low among = let x = references-version db held.broker t listed p among r has typed in subst IsLow x.2 (IsLow-version x.0 x.1)

    pub to_content_low : Has t.references (to p (codes "contents") (codes "number")) → IsLow (whole_at p r)
    to_content_low among = let x = references-content db held.broker t listed p among r has typed in subst IsLow x.2 (IsLow-content x.0 x.1)

    pub to_result_low : Has t.references (to p (codes "results") (codes "number")) → IsLow (whole_at p r)
    to_result_low among = let x = references-result db held.broker t listed p among r has typed in subst IsLow x.2 (IsLow-result x.0 x.1)

  -- the names of a version
  pub IsNamed-version : (r : Row) → Has (db.trees in_versions.tree) r → IsNamed (text in_versions.pacticipant r) × IsNamed (text in_versions.version r)
  IsNamed-version r has =
      let one = enumerate_from-row_entry (λ x. version (text in_versions.pacticipant x) (text in_versions.version x)) (db.trees in_versions.tree) s.versions 1 held.versions r has in
      All-contains (λ (v : Version). IsNamed v.pacticipant × IsNamed v.name) s.versions (version (text in_versions.pacticipant r) (text in_versions.version r)) readable.versions (has_contains s.versions (version (text in_versions.pacticipant r) (text in_versions.version r)) one)

  -- a body is a text in UTF-8
  pub IsUtf8-body : (r : Row) → Has (db.trees in_contents.tree) r → IsUtf8 (text in_contents.body r)
  IsUtf8-body r has =
      let one = enumerate_from-row_entry (λ x. (text in_contents.digest x, text in_contents.body x)) (db.trees in_contents.tree) (map with_digest s.contents) 1 held.contents r has in
      let it = map_has with_digest s.contents (text in_contents.digest r, text in_contents.body r) one in
      let same : text in_contents.body r ≡ it.0 = ap (λ (e : Text × Text). e.1) it.2 in
      subst IsUtf8 (sym same) (All-contains IsUtf8 s.contents it.0 readable.contents (has_contains s.contents it.0 it.1))

  -- the name of a pacticipant
  pub IsNamed-pacticipant : (r : Row) → Has (db.trees in_pacticipants.tree) r → IsNamed (text in_pacticipants.name r)
  IsNamed-pacticipant r has =
      let found = find-of_row nat_list_cmp_total text_cmp-antisymmetric (text in_pacticipants.name) (text in_pacticipants.team) (db.trees in_pacticipants.tree) r (IsAscending-keys_of_table pacticipants_by_name db held.broker) has in
      (readable.pacticipants (text in_pacticipants.name r) (text in_pacticipants.team r) (sym (held.pacticipants (text in_pacticipants.name r)) ∙ found)).0

  -- a name that refers to one
  pub IsNamed-reference : (t : Table) → Has db.schema.tables t → (p : ℕ) → Has t.references (to p (codes "pacticipants") (codes "name")) → (r : Row) → Has (db.trees t.tree) r → column r p ≡ SqlText (text p r) → IsNamed (text p r)
  IsNamed-reference t listed p among r has typed =
      let x = references-pacticipant db held.broker t listed p among r has typed in subst IsNamed x.2 (IsNamed-pacticipant x.0 x.1)

  -- whether a result is a pass
  pub whole_at-pass_low : (r : Row) → Has (db.trees in_results.tree) r → (n : ℕ) × (whole_at in_results.pass r ≡ pos n) × (n ≤ 1)
  whole_at-pass_low r has =
      is_truth-bounds r in_results.pass (whole_at in_results.pass r) (column-whole_numbers at_results db held.broker in_results.pass refl r has)
      (first_of_both _ true (IsDatabase-passes_checks db held.broker.kept.sound results (listed at_results db held.broker) r has))
