-- Rows that obey the rules hold a state of the broker that can be read back: the one that each table says.
use Rattle.std.specs.{Prelude.{Option, option_map, IsUtf8, All}, Cmp.Lexicographic.{nat_list_cmp_total}}
use Rattle.std.proofs.{Common.{◌≡◌, ◌≤◌, ℤ, List, map, length, Some, None, refl, sym, subst}, lemmas.List.{length-map}}
use Rattle.std.proofs.lemmas.List.Elements.{All-from_recursion}
use Rattle.sqlite.specs.{Order.{Row}, Effect.{Database}}
use Rattle.table_access.{specs.Columns.{text}, proofs.{Maps.{find-has_row}, Members.{map_has}, SoundLemmas.{all_of}}}
use Rattle.broker_core.specs.{declared.command.Version.{Version}, Limit.{limit}, Text.{Text}}
use Rattle.broker_tables.specs.Schema.{in_meta, in_teams, in_pacticipants, in_versions, in_contents, in_results, in_deployed}
use Rattle.broker_tables.{specs.{Holds.{IsBroker, Holds, number_at_place}, Readable.{IsReadable, IsNamed, AreFew}}, proofs.Orders.{text_cmp-antisymmetric}}
use Rattle.broker_tables.proofs.Placed.{Placed-IsNumbered, at_versions, at_contents, at_results}
use Rattle.table_audit.specs.Audit.{HoldsAState, IsAudited, EachOf}
use Rattle.table_audit.proofs.StateRows.{version_in, version_at, verification_in, state_in, IsMeta-of_rules, AreVersions-of_rules, AreContents-of_rules, AreContracts-of_rules, AreResults-of_rules, AreDeployed-of_rules, row-at_place}
use Rattle.table_audit.proofs.{Counted.{length-of_numbers}, LatestRows.{latest_result-of_rules}}
use Rattle.table_audit.specs.declared.auditing.TableRule.TheVariants as rule

-- what is so of each row is so of each element that is made of a row
All-map : {X : Type 0} (P : X → Type 0) (f : Row → X) (rows : List Row) → EachOf rows (λ r. P (f r)) → All P (map f rows)
All-map P f rows each = All-from_recursion P (map f rows) (all_of P (map f rows) (λ x has. let r = map_has f rows x has in subst P (sym r.2) (each r.0 r.1)))

-- as many are made of rows as there are rows
AreFew-map : {X : Type 0} (f : Row → X) (rows : List Row) → length rows ≤ limit → AreFew (map f rows)
AreFew-map f rows few = subst (λ n. n ≤ limit) (sym (length-map rows f)) few

module _ (db : Database) (broker : IsBroker db) (audited : IsAudited db) where
  -- the digest of the office's token
  abbrev office : Text
  office = text in_meta.office_digest audited.office.0

  -- an instance at which something is deployed is in UTF-8
  IsUtf8-instance : (e p instance name : Text) → (state_in db office).deployed (e, p, instance) ≡ Some name → IsUtf8 instance
  IsUtf8-instance e p instance name is = go (number_at_place (db.trees in_deployed.tree) (e, (p, instance))) refl is
    where
      go : (o : Option ℤ) → number_at_place (db.trees in_deployed.tree) (e, (p, instance)) ≡ o → option_map (λ number. (version_at db number).name) o ≡ Some name → IsUtf8 instance
      go None at is = absurd cc
      go (Some z) at is = let d = row-at_place db broker audited e p instance z at in subst IsUtf8 (sym d.3) (audited.each rule.Deployed d.0 d.1).1

  -- the tables hold the state
  Holds-of_rules : Holds db (state_in db office)
  Holds-of_rules = record {
    broker = broker;
    meta = IsMeta-of_rules db broker audited;
    teams = λ team. refl;
    pacticipants = λ p. refl;
    versions = AreVersions-of_rules db broker audited;
    branches = λ v branch. refl;
    environments = λ e. refl;
    grants = λ team e. refl;
    contents = AreContents-of_rules db broker audited;
    contracts = AreContracts-of_rules db broker audited;
    results = AreResults-of_rules db broker audited;
    latest = latest_result-of_rules db broker audited;
    deployed = AreDeployed-of_rules db broker audited;
    released = λ e v. refl;
  }

  -- and it can be read back
  IsReadable-of_rules : IsReadable (state_in db office)
  IsReadable-of_rules = record {
    office = (audited.each rule.Office audited.office.0 audited.office.1).1;
    teams = λ team digest is.
        let r = find-has_row nat_list_cmp_total text_cmp-antisymmetric (text in_teams.name) (text in_teams.token_digest) team digest (db.trees in_teams.tree) is in
        let it = audited.each rule.Team r.0 r.1 in
        (subst IsNamed (sym r.2) it.0, subst IsUtf8 r.3 it.1);
    pacticipants = λ p team is.
        let r = find-has_row nat_list_cmp_total text_cmp-antisymmetric (text in_pacticipants.name) (text in_pacticipants.team) p team (db.trees in_pacticipants.tree) is in
        let it = audited.each rule.Pacticipant r.0 r.1 in
        (subst IsNamed (sym r.2) it.0, subst IsNamed r.3 it.1);
    versions = All-map (λ (v : Version). IsNamed v.pacticipant × IsNamed v.name) version_in (db.trees in_versions.tree) (λ r has. (audited.each rule.Version r has).1);
    contents = All-map IsUtf8 (text in_contents.body) (db.trees in_contents.tree) (λ r has. (audited.each rule.Content r has).1.0);
    instances = IsUtf8-instance;
    few_versions = AreFew-map version_in (db.trees in_versions.tree) (length-of_numbers (db.trees in_versions.tree) (Placed-IsNumbered at_versions db broker) (λ r has. (audited.each rule.Version r has).0));
    few_contents = AreFew-map (text in_contents.body) (db.trees in_contents.tree) (length-of_numbers (db.trees in_contents.tree) (Placed-IsNumbered at_contents db broker) (λ r has. (audited.each rule.Content r has).0));
    few_results = AreFew-map (verification_in db) (db.trees in_results.tree) (length-of_numbers (db.trees in_results.tree) (Placed-IsNumbered at_results db broker) (λ r has. (audited.each rule.Result r has).0));
  }

-- so rows that obey the rules hold a state that can be read back
pub HoldsAState-of_rules : (db : Database) → IsBroker db → IsAudited db → HoldsAState db
HoldsAState-of_rules db broker audited = (state_in db (office db broker audited), Holds-of_rules db broker audited, IsReadable-of_rules db broker audited)
