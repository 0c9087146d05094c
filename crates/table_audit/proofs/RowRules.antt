-- Rules about the rows of one table: what a query shows of a row keeps the rule if and only if the row obeys it.
use Rattle.std.specs.Prelude.{◌↔◌, IsUtf8, is_some}
use Rattle.std.proofs.Common.{◌≡◌, ◌<◌, ◌∙◌, ℕ, ℤ, List, [], ◌∷◌, length, Option, Bool, true, inl, slice_get, refl, sym, ap, subst, arith}
use Rattle.sqlite.specs.{declared.types.Value.TheVariants.{Int, Text as SqlText}, Edit.{id_in}, Order.{Row, column}, Tree.{rowid}, Table.{Table}}
use Rattle.sqlite.specs.Effect.{Database}
use Rattle.sqlite_rules.{specs.Lists.{Has}, proofs.TableLemmas.{int_is}}
use Rattle.table_access.{specs.{Columns.{text, whole_at}, Reading.{IsTextAt}, Sound.{text_in}, Statements.{shows}}, proofs.SoundLemmas.{at_has}}
use Rattle.broker_tables.specs.{Holds.{IsBroker}, Names.{IsNameAt}, Readable.{IsNamed}}
use Rattle.broker_tables.{specs.Schema.{in_meta, in_teams, in_pacticipants, in_versions, in_contents, in_results}, proofs.TableQuery.{IsShown}}
use Rattle.broker_tables.proofs.Placed.{Placed, Placed-IsNumbered, column-texts, column-whole_numbers, at_meta, at_teams, at_pacticipants, at_versions, at_contents, at_results}
use Rattle.broker_tables.proofs.ReadableRows.{IsNameAt-of_column}
use Rattle.table_audit.specs.Audit.{IsNumberOf, IsSoundOffice, IsSoundTeam, IsSoundPacticipant, IsSoundVersion, IsSoundContent, SaysRun}
use Rattle.table_audit.specs.Shown.{FindsAmong, HasNumberOf, IsOfficeShown, IsTeamShown, HasTwoNames, IsContentShown, SaysRunShown, FindsUnder, HasOffice}
use Rattle.table_audit.proofs.{RowTexts.{with_one, with_two}, Tried.{Finds-of_table, shown-of_row, shown-has_row}}
use Rattle.table_audit.specs.declared.auditing.TableRule.TheVariants as rule
use Rattle.table_audit.proofs.RowTexts as asks

-- ---- a column that is shown

Text-injective : (t u : List ℕ) → SqlText t ≡ SqlText u → t ≡ u
Text-injective t u same = ap text_in same

-- a text that is shown is one in UTF-8 if and only if it is in UTF-8
pub IsTextAt-shown : (row : Row) (at : ℕ) (t : List ℕ) → at < length row → column row at ≡ SqlText t → IsTextAt at row ↔ IsUtf8 t
IsTextAt-shown row at t low is = (
  λ h. subst IsUtf8 (sym (Text-injective t h.1.0 (sym is ∙ h.1.1))) h.1.2,
  λ utf8. (low, (t, is, utf8)),
)

-- and a name if and only if it is a name
pub IsNameAt-shown : (row : Row) (at : ℕ) (t : List ℕ) → at < length row → column row at ≡ SqlText t → IsNameAt at row ↔ IsNamed t
IsNameAt-shown row at t low is = (
  λ h. subst IsNamed (sym (Text-injective t h.1.0 (sym is ∙ h.1.1))) (h.1.2, h.1.3),
  λ named. IsNameAt-of_column row at t low is named,
)

module _ {t : Table} (at : Placed t) (db : Database) (broker : IsBroker db) where
  -- a row's number is a number
  pub rowid-Int : (r : Row) → Has (db.trees t.tree) r → column r 0 ≡ Int (whole_at 0 r)
  rowid-Int r has = int_is (rowid r) (at_has _ (db.trees t.tree) r (Placed-IsNumbered at db broker).1 has)

-- it is that of one of so many rows if and only if what is shown first is
HasNumberOf-shown : (count : ℕ) (row r : Row) → column row 0 ≡ column r 0 → column r 0 ≡ Int (whole_at 0 r) → HasNumberOf count row ↔ IsNumberOf count r
HasNumberOf-shown count row r first is = (
  λ h. (h.0, ap id_in (sym first ∙ h.1), h.2, h.3, h.4),
  λ h. (h.0, first ∙ is ∙ ap Int h.1, h.2, h.3, h.4),
)

both : {A B C D : Type 0} → A ↔ B → C ↔ D → (A × C) ↔ (B × D)
both one two = (λ h. (one.0 h.0, two.0 h.1), λ h. (one.1 h.0, two.1 h.1))

-- ---- the rules

module _ (db : Database) (broker : IsBroker db) (rows : List Row) (found : Option ℤ) where
  pub FindsUnder-office : IsShown asks.office db rows → FindsAmong (λ count. IsOfficeShown) rows found → FindsUnder rule.Office db found
  FindsUnder-office shown = Finds-of_table asks.office db rows shown (λ count. IsOfficeShown) IsSoundOffice (λ r. refl)
      (λ r has. both
      (λ h. ap id_in h, λ h. column-whole_numbers at_meta db broker in_meta.format refl r has ∙ ap Int h)
      (IsTextAt-shown (shows (with_two in_meta.format in_meta.office_digest) [] r) 2 (text in_meta.office_digest r) (omega arith) (column-texts at_meta db broker in_meta.office_digest refl r has)))
      found

  pub FindsUnder-teams : IsShown asks.teams db rows → FindsAmong (λ count. IsTeamShown) rows found → FindsUnder rule.Team db found
  FindsUnder-teams shown = Finds-of_table asks.teams db rows shown (λ count. IsTeamShown) IsSoundTeam (λ r. refl)
      (λ r has. both
      (IsNameAt-shown (shows (with_two in_teams.name in_teams.token_digest) [] r) 1 (text in_teams.name r) (omega arith) (column-texts at_teams db broker in_teams.name refl r has))
      (IsTextAt-shown (shows (with_two in_teams.name in_teams.token_digest) [] r) 2 (text in_teams.token_digest r) (omega arith) (column-texts at_teams db broker in_teams.token_digest refl r has)))
      found

  pub FindsUnder-pacticipants : IsShown asks.pacticipants db rows → FindsAmong (λ count. HasTwoNames) rows found → FindsUnder rule.Pacticipant db found
  FindsUnder-pacticipants shown = Finds-of_table asks.pacticipants db rows shown (λ count. HasTwoNames) IsSoundPacticipant (λ r. refl)
      (λ r has. both
      (IsNameAt-shown (shows (with_two in_pacticipants.name in_pacticipants.team) [] r) 1 (text in_pacticipants.name r) (omega arith) (column-texts at_pacticipants db broker in_pacticipants.name refl r has))
      (IsNameAt-shown (shows (with_two in_pacticipants.name in_pacticipants.team) [] r) 2 (text in_pacticipants.team r) (omega arith) (column-texts at_pacticipants db broker in_pacticipants.team refl r has)))
      found

  pub FindsUnder-versions : IsShown asks.versions db rows → FindsAmong (λ count row. HasNumberOf count row × HasTwoNames row) rows found → FindsUnder rule.Version db found
  FindsUnder-versions shown = Finds-of_table asks.versions db rows shown (λ count row. HasNumberOf count row × HasTwoNames row)
      (λ r. IsNumberOf (length (db.trees in_versions.tree)) r × IsSoundVersion r) (λ r. refl)
      (λ r has. both
      (HasNumberOf-shown (length (db.trees in_versions.tree)) (shows (with_two in_versions.pacticipant in_versions.version) [] r) r refl (rowid-Int at_versions db broker r has))
      (both
      (IsNameAt-shown (shows (with_two in_versions.pacticipant in_versions.version) [] r) 1 (text in_versions.pacticipant r) (omega arith) (column-texts at_versions db broker in_versions.pacticipant refl r has))
      (IsNameAt-shown (shows (with_two in_versions.pacticipant in_versions.version) [] r) 2 (text in_versions.version r) (omega arith) (column-texts at_versions db broker in_versions.version refl r has))))
      found

  pub FindsUnder-contents : IsShown asks.contents db rows → FindsAmong (λ count row. HasNumberOf count row × IsContentShown row) rows found → FindsUnder rule.Content db found
  FindsUnder-contents shown = Finds-of_table asks.contents db rows shown (λ count row. HasNumberOf count row × IsContentShown row)
      (λ r. IsNumberOf (length (db.trees in_contents.tree)) r × IsSoundContent r) (λ r. refl)
      (λ r has. both
      (HasNumberOf-shown (length (db.trees in_contents.tree)) (shows (with_two in_contents.digest in_contents.body) [] r) r refl (rowid-Int at_contents db broker r has))
      (both
      (IsTextAt-shown (shows (with_two in_contents.digest in_contents.body) [] r) 2 (text in_contents.body r) (omega arith) (column-texts at_contents db broker in_contents.body refl r has))
      (λ h. ap text_in h, λ h. column-texts at_contents db broker in_contents.digest refl r has ∙ ap SqlText h)))
      found

  pub FindsUnder-results : IsShown asks.results db rows → FindsAmong (λ count row. HasNumberOf count row × SaysRunShown row) rows found → FindsUnder rule.Result db found
  FindsUnder-results shown = Finds-of_table asks.results db rows shown (λ count row. HasNumberOf count row × SaysRunShown row)
      (λ r. IsNumberOf (length (db.trees in_results.tree)) r × SaysRun r) (λ r. refl)
      (λ r has. both
      (HasNumberOf-shown (length (db.trees in_results.tree)) (shows (with_one in_results.run) [] r) r refl (rowid-Int at_results db broker r has))
      (λ h. h, λ h. h))
      found

-- ---- meta

any-from_Has : (rows : List Row) (row : Row) → Has rows row → is_some (slice_get rows 0) ≡ true
any-from_Has [] row has = absurd has
any-from_Has (r ∷ rows) row has = refl

Has-from_any : (rows : List Row) → is_some (slice_get rows 0) ≡ true → (row : Row) × Has rows row
Has-from_any [] some = absurd (let e = some in cc)
Has-from_any (r ∷ rows) some = (r, inl refl)

-- a row is shown if and only if meta has one
pub HasOffice-shown : (db : Database) (rows : List Row) (has : Bool) → IsShown asks.any_office db rows → has ≡ is_some (slice_get rows 0) → HasOffice has db
HasOffice-shown db rows has shown is = (
  λ yes.
      let row = Has-from_any rows (sym is ∙ yes) in
      let r = shown-of_row asks.any_office db rows shown row.0 row.1 in (r.0, r.1),
  λ one. is ∙ any-from_Has rows _ (shown-has_row asks.any_office db rows shown one.0 one.1),
)
