-- The rows that a new row refers to by a number are there.
use Rattle.std.specs.{Prelude.{is_some}, Ordering.{eq_by_cmp, int_cmp}, Cmp.{eq_by_cmp_equiv, int_cmp_total}, FinMap.{int_cmp-IsAntisymmetric}}
use Rattle.std.specs.{FinMap.Entries.{find}, Cmp.Lexicographic.{nat_list_cmp_total}}
use Rattle.std.proofs.Common.{◌≡◌, ◌==◌, inl, ℕ, pos, ◌-◌, ◌<◌, ◌≤◌, List, [], map, length, true, refl, sym, ap, ◌∙◌, slice_get, Some, None, codes, arith, IsTrue}
use Rattle.std.proofs.{lemmas.Bool.{cond-false, ne_eqb}, lemmas.List.{length-map}, lemmas.Option.{slice_get-get_or}}
use Rattle.sqlite.specs.{declared.types.Value.TheVariants.{Int}, Order.{Row, column}, Tree.{rowid}, Effect.{Database}, Collation.TheVariants.{Binary}}
use Rattle.sqlite_schema.specs.Rules.{equal, has_parent}
use Rattle.sqlite_rules.proofs.{ListLemmas.{some_from}, TableLemmas.{int_is}}
use Rattle.table_access.{specs.Columns.{text, text_cmp, whole_at}, proofs.{Values.{binary-Eq_Int}, Maps.{find-has_row}, SoundLemmas.{at_has}}}
use Rattle.broker_core.specs.{State.{State as Broker}, declared.command.Version.{Version}}
use Rattle.broker_tables.specs.{Schema.{in_pacticipants, in_versions, in_contents, broker_schema, to}, Holds.{Holds, with_digest}, Numbers.{number_of}}
use Rattle.broker_tables.proofs.{Placed.{at_contents, versions, at_versions, listed, Placed-IsNumbered}, References.{LeadsTo, references-pacticipant}}
use Rattle.broker_tables.proofs.{Inserted.{IsThere-of_row}, Present.{value_at-is_some}}
use Rattle.broker_tables.proofs.{VersionRows.{number_of-has_row, version_number, column-version_pacticipant}, ByNumber.{find-numbered}}
use Rattle.contract_tables.specs.Verified.{HasRowWith}

-- the row is there that a reference to this number leads to
pub has_parent-number : {tree : ℕ} (parent : List ℕ) (db : Database) (made : Row) (p n : ℕ) → column made p ≡ Int (pos n) → LeadsTo p parent (codes "number") tree 0 → HasRowWith tree n db → has_parent broker_schema.tables db.trees made (to p parent (codes "number")) ≡ true
has_parent-number {tree} parent db made p n refer leads (r, has, id) =
    IsThere-of_row db made p parent (codes "number") tree 0 leads r has ((λ i. equal Binary (id i) (refer i)) ∙ binary-Eq_Int (pos n) (pos n) ∙ (eq_by_cmp_equiv int_cmp_total).refl (pos n))

module _ (db : Database) (s : Broker) (held : Holds db s) where
  -- a content of the state
  pub HasRowWith-content : (n : ℕ) → 1 ≤ n → n ≤ length s.contents → HasRowWith in_contents.tree n db
  HasRowWith-content n low high =
      let bodies = map with_digest s.contents in
      let within : n - 1 < length bodies = let few = length-map s.contents with_digest in omega (arith, low, high, few) in
      let some = cond-false (n == 0) None (slice_get bodies (n - 1)) (ne_eqb n 0 (λ none. omega (arith, low, none))) in
      let listed = ap (find int_cmp (pos n)) held.contents ∙ find-numbered bodies n ∙ some ∙ slice_get-get_or bodies (n - 1) ([], []) within in
      let it = find-has_row int_cmp_total int_cmp-IsAntisymmetric (whole_at 0) (λ r. (text in_contents.digest r, text in_contents.body r)) (pos n) _ (db.trees in_contents.tree) listed in
      let rows = Placed-IsNumbered at_contents db held.broker in
      (it.0, it.1, int_is (rowid it.0) (at_has _ (db.trees in_contents.tree) it.0 rows.1 it.1) ∙ ap Int (sym it.2))

  -- and a version
  pub HasRowWith-version : (v : Version) (n : ℕ) → number_of s.versions v ≡ Some n → HasRowWith in_versions.tree n db
  HasRowWith-version v n is = let it = number_of-has_row db held.broker s.versions v n held.versions is in (it.0, it.1, version_number db held.broker it.0 it.1 ∙ ap Int it.4)

  -- and the pacticipant of which it is one
  pub HasRowWith-owner : (v : Version) (n : ℕ) → number_of s.versions v ≡ Some n → IsTrue (is_some (s.pacticipants v.pacticipant))
  HasRowWith-owner v n is =
      let it = number_of-has_row db held.broker s.versions v n held.versions is in
      let row = references-pacticipant db held.broker versions (listed at_versions db held.broker) in_versions.pacticipant (inl refl) it.0 it.1 (column-version_pacticipant db held.broker it.0 it.1) in
      ap is_some (sym (held.pacticipants v.pacticipant))
      ∙ value_at-is_some text_cmp (text in_pacticipants.name) (text in_pacticipants.team) (db.trees in_pacticipants.tree) v.pacticipant
      ∙ some_from (λ r. eq_by_cmp text_cmp v.pacticipant (text in_pacticipants.name r)) (db.trees in_pacticipants.tree) row.0 row.1
      (ap (eq_by_cmp text_cmp v.pacticipant) (row.2 ∙ it.2) ∙ (eq_by_cmp_equiv nat_list_cmp_total).refl v.pacticipant)
