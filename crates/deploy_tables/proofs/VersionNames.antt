-- The names of a version, by its number.
use Rattle.std.{specs.Prelude.{Contains, ◌↔◌}, proofs.Common.{◌≡◌, ◌∙◌, ℕ, pos, codes, List, [], ◌∷◌, Some, true, refl, sym, ap, subst}}
use Rattle.sqlite_rules.specs.Lists.{Has}
use Rattle.sqlite_tied.specs.Compute.{everything}
use Rattle.broker_core.specs.{declared.command.Version.{Version}, Text.{version}, State.{State as Broker}}
use Rattle.broker_tables.{specs.{Schema.{in_versions}, Numbers.{number_of}, Holds.{Holds}}, proofs.TableQuery.{TableQuery, IsShown}}
use Rattle.broker_tables.proofs.{NumberLemmas.{number_of-injective}, VersionRows.{binary-Eq_same_Int, version_number, number_of-version_row, number_of-has_row}}
use Rattle.contract_tables.proofs.ItemLists.{and-true_test}
use Rattle.deploy_tables.{specs.{Listings.{IsReleasedRow}, Releases.{IsOfNumber}}, proofs.VersionRows.{pos-injective, rows_returned}}
use Rattle.sqlite.specs.{declared.types.Value.TheVariants.{Int}, Order.{Row, column}, Term.{Term, col, op2}, Collation.TheVariants.{Binary}, Effect.{Database}}
use Rattle.sqlite.specs.Listing.{understood}
use Rattle.sqlite_sql.specs.{declared.ops.BinaryOp.TheVariants.{Compare}, declared.ops.CompareOp.TheVariants.{Eq}}
use Rattle.table_access.specs.{Columns.{whole_at}, Sound.{text_in}, Statements.{from_table, keeps}, Reading.{AreRead}}

abbrev pub by_number : List Term
by_number = op2 (Compare Eq Binary) (col 1 0) (col 0 0) ∷ []

abbrev pub name_project : List Term
name_project = col 1 in_versions.pacticipant ∷ col 1 in_versions.version ∷ []

pub names_of : (n : ℕ)
    → TableQuery (codes "SELECT pacticipant, version FROM versions WHERE number = ?1") (Int (pos n) ∷ []) (from_table in_versions.tree by_number name_project [])
unfolding understood everything
names_of n = record { names = _; means = record { is = refl; plain = (refl, refl); unlisted = refl }; runs = record { whole = refl; typed = refl; sumless = refl } }

module _ (db : Database) (s : Broker) (held : Holds db s) (n : ℕ) where
  abbrev params : Row
  params = Int (pos n) ∷ []

  keeps-by_number : (r : Row) → Has (db.trees in_versions.tree) r → (keeps by_number params r ≡ true) ↔ (whole_at 0 r ≡ pos n)
  keeps-by_number r has = and-true_test (binary-Eq_same_Int (column r 0) (Int (pos n)) (whole_at 0 r) (pos n) (version_number db held.broker r has) refl)

  -- the version of this number is listed, and no other
  pub Contains-names_of_number : (rows : List Row) (items : List Version) → IsShown (names_of n) db rows → AreRead IsReleasedRow rows items → (w : Version) → Contains items w ↔ (number_of s.versions w ≡ Some n)
  Contains-names_of_number rows items h read = rows_returned db params by_number name_project IsReleasedRow rows items read in_versions.tree h
      (λ w. number_of s.versions w ≡ Some n) (λ r w has kept shown.
      let it = number_of-version_row db held.broker s.versions held.versions r has in
      let number : it.0 ≡ n = pos-injective it.0 n (sym it.2 ∙ (keeps-by_number r has).0 kept) in
      (λ i. number_of s.versions (version (sym (ap text_in shown.0) i) (sym (ap text_in shown.1) i))) ∙ it.1 ∙ ap Some number)
      (λ w known.
      let r = number_of-has_row db held.broker s.versions w n held.versions known in
      (r.0, r.1, (keeps-by_number r.0 r.1).1 r.4, λ y shown i. version ((sym (ap text_in shown.0) ∙ r.2) i) ((sym (ap text_in shown.1) ∙ r.3) i)))

-- ---- the version of a number

-- what is so of a version is so of that of its number
pub IsOfNumber-of_version : (s : Broker) (n : ℕ) (v : Version) (Is : Version → Type 0) (Otherwise : Type 0) → number_of s.versions v ≡ Some n → Is v → IsOfNumber s n Is Otherwise
IsOfNumber-of_version s n v Is Otherwise known is = (λ w also. subst Is (number_of-injective s.versions v w n known also) is, λ none. absurd (none (v, known)))
