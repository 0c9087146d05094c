-- In tables that hold a state that can be read back, each row obeys the rules about it and a row of another table.
use Rattle.std.{specs.{Prelude.{option_map}, List.{enumerate_from}}, proofs.Common.{◌≡◌, ◌∙◌, ◌==◌, ◌&&◌, inl, ℕ, pos, refl, sym, ap, Some}}
use Rattle.std.proofs.lemmas.Bool.{eq-eqb, and_from}
use Rattle.sqlite.specs.{Order.{Row}, Effect.{Database}}
use Rattle.sqlite_rules.specs.Lists.{Has}
use Rattle.table_access.{specs.Columns.{text, whole_at}, proofs.Maps.{find-of_row}}
use Rattle.broker_core.specs.{declared.command.Version.{Version}, State.{State as Broker, Verification}, Text.{Text, same_version, version}}
use Rattle.broker_core.proofs.Judgement.{same_version-refl}
use Rattle.broker_tables.specs.Schema.{in_versions, in_results, in_latest, in_deployed, in_checked_results}
use Rattle.broker_tables.specs.{Holds.{Holds, ResultRow, result_in, result_of, number_at_place, number_named}, Numbers.{number_of}, Readable.{IsReadable}}
use Rattle.broker_tables.proofs.{ReadableRows.{to_content_low}, NumberLemmas.{number_of-injective}, VersionRows.{number_of-version_row, option_map-pos_Some}}
use Rattle.broker_tables.proofs.{Orders.{by_both-total_texts, by_both-exact_texts}, Keyed.{deployed_by_place, IsAscending-keys_of_table}}
use Rattle.broker_tables.proofs.Placed.{latest, at_latest, listed}
use Rattle.contract_tables.proofs.{ResultRows.{contents as latest_contents}, VerifiedList.{option_map-Some_sound, latest_result-has_row}}
use Rattle.contract_tables.proofs.VersionResults.{latest-pair_of_its_result}
use Rattle.table_audit.{specs.Audit.{EachOf, Obeys, rows_under}, proofs.Entries.{numbered-mapped_entry_of_row, last_row-not_before}}
use Rattle.table_audit.specs.declared.auditing.TableRule.TheVariants as rule

module _ (db : Database) (s : Broker) (held : Holds db s) where
  -- the row with the number of a version is that of this version
  version-of_number : (v : Row) → Has (db.trees in_versions.tree) v → (w : Version) (k : ℕ) → number_of s.versions w ≡ Some k → whole_at in_versions.number v ≡ pos k
      → version (text in_versions.pacticipant v) (text in_versions.version v) ≡ w
  version-of_number v has w k known is =
      let it = number_of-version_row db held.broker s.versions held.versions v has in
      let numbers : pos it.0 ≡ pos k = sym it.2 ∙ is in
      let same : it.0 ≡ k = cc in
      number_of-injective s.versions (version (text in_versions.pacticipant v) (text in_versions.version v)) w k (it.1 ∙ ap Some same) known

  -- a result's row is that of a result of the state, whose version has a number
  result-of_row : (r : Row) → Has (db.trees in_results.tree) r
      → (e : ℕ × Verification) × Has (enumerate_from 1 s.results) e × (whole_at in_results.number r ≡ pos e.0) × (result_in (db.trees in_checked_results.tree) r ≡ result_of s.versions e.1)
      × ((k : ℕ) × (number_of s.versions e.1.version ≡ Some k) × (whole_at in_results.provider_version r ≡ pos k))
  result-of_row r has =
      let it = numbered-mapped_entry_of_row (result_in (db.trees in_checked_results.tree)) (db.trees in_results.tree) (result_of s.versions) s.results held.results r has in
      (it.0, it.1, it.2, it.3, option_map-pos_Some (whole_at in_results.provider_version r) (number_of s.versions it.0.1.version) (ap (λ (x : ResultRow). x.version) it.3))

  -- its provider is the pacticipant of that version
  pub Provider-of_state : EachOf (rows_under rule.Provider db) (Obeys rule.Provider db)
  Provider-of_state r has v there same =
      let it = result-of_row r has in
      let one = version-of_number v there it.0.1.version it.4.0 it.4.1 (same ∙ it.4.2) in
      ap (λ (w : Version). w.pacticipant) one ∙ sym (ap (λ (x : ResultRow). x.provider) it.3)

  -- the latest result for a content and a version isn't before a result for them, and has a row
  pub Newest-of_state : EachOf (rows_under rule.Newest db) (Obeys rule.Newest db)
  Newest-of_state r has =
      let it = result-of_row r has in
      let q : Verification = it.0.1 in
      let passes = and_from (q.content == q.content) (same_version q.version q.version) (eq-eqb q.content q.content refl) (same_version-refl q.version) in
      let last = last_row-not_before (λ (x : Verification). x.content == q.content && same_version x.version q.version) s.results it.0 it.1 passes in
      let l = latest_result-has_row db s held q.version it.4.0 it.4.1 q.content last.0 last.1 in
      (l.0, l.1, l.2 ∙ sym (ap (λ (x : ResultRow). x.content) it.3), l.3 ∙ sym it.4.2, (it.0.0, last.0.0, it.2, l.4, last.2))

  -- a row of deployed has the number of the version that is deployed at its place
  deployed-of_row : (d : Row) → Has (db.trees in_deployed.tree) d
      → (name : Text) × (s.deployed (text in_deployed.environment d, text in_deployed.pacticipant d, text in_deployed.instance d) ≡ Some name)
      × ((k : ℕ) × (number_of s.versions (version (text in_deployed.pacticipant d) name) ≡ Some k) × (whole_at in_deployed.version_number d ≡ pos k))
  deployed-of_row d has =
      let e = text in_deployed.environment d in
      let p = text in_deployed.pacticipant d in
      let instance = text in_deployed.instance d in
      let number = whole_at in_deployed.version_number d in
      let found : number_at_place (db.trees in_deployed.tree) (e, (p, instance)) ≡ Some number =
      find-of_row by_both-total_texts by_both-exact_texts (λ r. (text in_deployed.environment r, (text in_deployed.pacticipant r, text in_deployed.instance r))) (whole_at in_deployed.version_number) (db.trees in_deployed.tree) d (IsAscending-keys_of_table deployed_by_place db held.broker) has in
      let name = option_map-Some_sound (number_named s.versions p) (s.deployed (e, p, instance)) (Some number) (sym (held.deployed e p instance) ∙ ap (option_map Some) found) in
      (name.0, name.1, option_map-pos_Some number (number_of s.versions (version p name.0)) (sym name.2))

module _ (db : Database) (s : Broker) (held : Holds db s) (readable : IsReadable s) where
  -- a row of latest names the latest result, which is one for its content and its version
  pub Named-of_state : EachOf (rows_under rule.Named db) (Obeys rule.Named db)
  Named-of_state l has r there same =
      let content = to_content_low db s held readable latest (listed at_latest db held.broker) in_latest.content l has (latest_contents db held.broker l has) (inl refl) in
      latest-pair_of_its_result db s held l r has there content.0 content.1 same

  -- what is deployed is a version of the row's pacticipant
  pub Deployed-of_state : EachOf (rows_under rule.Deployed db) (Obeys rule.Deployed db)
  Deployed-of_state d has =
      let it = deployed-of_row db s held d has in (
        λ v there same. ap (λ (w : Version). w.pacticipant) (version-of_number db s held v there (version (text in_deployed.pacticipant d) it.0) it.2.0 it.2.1 (same ∙ it.2.2)),
        readable.instances (text in_deployed.environment d) (text in_deployed.pacticipant d) (text in_deployed.instance d) it.0 it.1,
      )
