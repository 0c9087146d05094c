-- In tables that hold a state that can be read back, each row obeys the rules about itself.
use Rattle.std.specs.{Prelude.{IsUtf8, is_some}, Cmp.Lexicographic.{nat_list_cmp_total}}
use Rattle.std.proofs.Common.{◌≡◌, ◌∙◌, refl, inl, inr, ℤ, pos, List, sym, ap, subst}
use Rattle.sqlite.specs.{Order.{Row}, Effect.{Database}}
use Rattle.sqlite_rules.specs.Lists.{Has}
use Rattle.sha2.specs.Sha256.{sha256}
use Rattle.hex.specs.Hex.{encode_lower}
use Rattle.table_access.{specs.Columns.{text, whole_at}, proofs.{Maps.{find-of_row}, Members.{has_map, map_has}}}
use Rattle.broker_core.specs.{State.{State as Broker}, Text.{Text, version}}
use Rattle.broker_tables.specs.Schema.{in_meta, in_teams, in_pacticipants, in_versions, in_contents, in_results, in_checked_results}
use Rattle.broker_tables.specs.{Holds.{Holds, format, with_digest, ResultRow, result_in, result_of}, Readable.{IsReadable}}
use Rattle.broker_tables.proofs.{ReadableRows.{IsNamed-version, IsUtf8-body}, Orders.{text_cmp-antisymmetric}}
use Rattle.broker_tables.proofs.Keyed.{teams_by_name, pacticipants_by_name, IsAscending-keys_of_table}
use Rattle.table_audit.{specs.Audit.{EachOf, Obeys, rows_under}, proofs.Entries.{IsNumberOf-of_numbered, IsNumberOf-of_mapped, numbered-mapped_entry_of_row}}
use Rattle.table_audit.specs.declared.auditing.TableRule.TheVariants as rule

-- what meta has of a state, one row
abbrev office_cells : Row → ℤ × ℤ × Text
office_cells r = (whole_at in_meta.one r, whole_at in_meta.format r, text in_meta.office_digest r)

module _ (db : Database) (s : Broker) (held : Holds db s) (readable : IsReadable s) where
  -- meta has a row
  pub meta-has_row : (r : Row) × Has (db.trees in_meta.tree) r
  meta-has_row =
      let cells : ℤ × ℤ × Text = (pos 1, pos format, s.office) in
      let it = map_has office_cells (db.trees in_meta.tree) cells (subst (λ (es : List (ℤ × ℤ × Text)). Has es cells) (sym held.meta) (inl refl)) in
      (it.0, it.1)

  -- and each says the format and the office's digest
  pub Office-of_state : EachOf (rows_under rule.Office db) (Obeys rule.Office db)
  Office-of_state r has = elim (subst (λ (es : List (ℤ × ℤ × Text)). Has es (office_cells r)) held.meta (has_map office_cells (db.trees in_meta.tree) r has)) [
    | inl same ↦ (ap (λ (c : ℤ × ℤ × Text). c.1) same, subst IsUtf8 (sym (ap (λ (c : ℤ × ℤ × Text). c.2) same)) readable.office)
    | inr none ↦ absurd none
  ]

  -- a team's row has what the state has of the team
  pub Team-of_state : EachOf (rows_under rule.Team db) (Obeys rule.Team db)
  Team-of_state r has =
      let found = find-of_row nat_list_cmp_total text_cmp-antisymmetric (text in_teams.name) (text in_teams.token_digest) (db.trees in_teams.tree) r (IsAscending-keys_of_table teams_by_name db held.broker) has in
      readable.teams (text in_teams.name r) (text in_teams.token_digest r) (sym (held.teams (text in_teams.name r)) ∙ found)

  -- and so has that of a pacticipant
  pub Pacticipant-of_state : EachOf (rows_under rule.Pacticipant db) (Obeys rule.Pacticipant db)
  Pacticipant-of_state r has =
      let found = find-of_row nat_list_cmp_total text_cmp-antisymmetric (text in_pacticipants.name) (text in_pacticipants.team) (db.trees in_pacticipants.tree) r (IsAscending-keys_of_table pacticipants_by_name db held.broker) has in
      readable.pacticipants (text in_pacticipants.name r) (text in_pacticipants.team r) (sym (held.pacticipants (text in_pacticipants.name r)) ∙ found)

  -- a version's row is numbered, and has two names
  pub Version-of_state : EachOf (rows_under rule.Version db) (Obeys rule.Version db)
  Version-of_state r has = (
    IsNumberOf-of_numbered (λ x. version (text in_versions.pacticipant x) (text in_versions.version x)) (db.trees in_versions.tree) s.versions held.versions readable.few_versions r has,
    IsNamed-version db s held readable r has,
  )

  -- a content's row has the digest of its body
  digest-of_body : (r : Row) → Has (db.trees in_contents.tree) r → text in_contents.digest r ≡ encode_lower (sha256 (text in_contents.body r))
  digest-of_body r has =
      let it = numbered-mapped_entry_of_row (λ x. (text in_contents.digest x, text in_contents.body x)) (db.trees in_contents.tree) with_digest s.contents held.contents r has in
      ap (λ (c : Text × Text). c.0) it.3 ∙ ap (λ body. encode_lower (sha256 body)) (sym (ap (λ (c : Text × Text). c.1) it.3))

  pub Content-of_state : EachOf (rows_under rule.Content db) (Obeys rule.Content db)
  Content-of_state r has = (
    IsNumberOf-of_mapped (λ x. (text in_contents.digest x, text in_contents.body x)) (db.trees in_contents.tree) with_digest s.contents held.contents readable.few_contents r has,
    (IsUtf8-body db s held readable r has, digest-of_body r has),
  )

  -- a result's row is numbered, and says the run that the state has of it
  pub Result-of_state : EachOf (rows_under rule.Result db) (Obeys rule.Result db)
  Result-of_state r has = (
    IsNumberOf-of_mapped (result_in (db.trees in_checked_results.tree)) (db.trees in_results.tree) (result_of s.versions) s.results held.results readable.few_results r has,
    ap (λ (x : ResultRow). is_some x.run) (numbered-mapped_entry_of_row (result_in (db.trees in_checked_results.tree)) (db.trees in_results.tree) (result_of s.versions) s.results held.results r has).3,
  )
