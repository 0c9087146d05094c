-- A table of the broker by one of its keys, as a value: what a SELECT by the key shows, and which keys are free.
use Rattle.std.specs.{Prelude.{option_map, is_some}, List.{AllByRecursion}, Ordering.{eq_by_cmp, int_cmp}, Cmp.{eq_by_cmp_equiv}}
use Rattle.std.proofs.{Common.{◌≡◌, ℕ, List, [], ◌∷◌, true, false, Ordering, Some, inl, inr, slice_get, refl, sym, ap, ◌∙◌}, lemmas.Bool.{false_from_ne_true}}
use Rattle.sqlite.specs.{Order.{Row}, Table.{Table}, Term.{Term}, Tree.{IsAscending}, Effect.{Database, Answers}}
use Rattle.sqlite_schema.specs.Rules.{agree}
use Rattle.sqlite_value.specs.Keys.{plain}
use Rattle.sqlite_rules.{specs.Lists.{Has}, proofs.ListLemmas.{some_from}}
use Rattle.sqlite_keyed.proofs.SliceLemmas.{is_some-map}
use Rattle.table_access.specs.{Columns.{by_both, pair_cmp, text, text_cmp, whole_at}, Statements.{from_table, keeps, shows}}
use Rattle.table_access.proofs.Keys.{Key, HasCells, agree-keys_tie, are_params, keeps-one_key, IsAscending-keys_unique, params_for, text_and, text_key, whole_and, whole_key}
use Rattle.table_access.proofs.{Maps.{find-first_shown}, SoundLemmas.{all_of}, Steps.{IsPermutation-kept_rows}}
use Rattle.broker_tables.specs.{Holds.{IsBroker}, Rows.{has_row_at, value_at}}
use Rattle.broker_tables.specs.Schema.{numbers, texts, in_branches, in_contracts, in_deployed, in_environments, in_grants, in_latest, in_pacticipants, in_released, in_strict_environments, in_teams, in_versions}
use Rattle.broker_tables.proofs.Present.{value_at-is_some}
use Rattle.broker_tables.proofs.Placed.{Placed, column_at, uniques-keys_apart, column-texts, column-whole_numbers, at_branches, at_contracts, at_deployed, at_environments, at_grants, at_latest, at_pacticipants, at_released, at_strict_environments, at_teams, at_versions}

-- columns of a table, as a key: each row of it has the values of one there
pub record Columns {t : Table} (at : Placed t) {K : Type 0} (R : K → K → Ordering) (places : List ℕ) (key : Row → K) : Type 0 where
  pub of : Key R places key
  pub typed : (db : Database) → IsBroker db → (r : Row) → Has (db.trees t.tree) r → HasCells of r

module _ {t : Table} (at : Placed t) (place : ℕ) {name : List ℕ} where
  -- a column of texts, and one of whole numbers
  abbrev pub texts_key : column_at t place ≡ Some (texts name) → Columns at text_cmp (place ∷ []) (text place)
  texts_key is = record { of = text_key place; typed = λ db broker r has i. column-texts at db broker place is r has i ∷ [] }

  abbrev pub wholes_key : column_at t place ≡ Some (numbers name) → Columns at int_cmp (place ∷ []) (whole_at place)
  wholes_key is = record { of = whole_key place; typed = λ db broker r has i. column-whole_numbers at db broker place is r has i ∷ [] }

  module _ {K : Type 0} {S : K → K → Ordering} {places : List ℕ} {key : Row → K} where
    -- and then others
    abbrev pub texts_and : column_at t place ≡ Some (texts name) → Columns at S places key → Columns at (by_both text_cmp S) (place ∷ places) (λ r. (text place r, key r))
    texts_and is rest = record { of = text_and place rest.of; typed = λ db broker r has i. column-texts at db broker place is r has i ∷ rest.typed db broker r has i }

    abbrev pub wholes_and : column_at t place ≡ Some (numbers name) → Columns at S places key → Columns at (by_both int_cmp S) (place ∷ places) (λ r. (whole_at place r, key r))
    wholes_and is rest = record { of = whole_and place rest.of; typed = λ db broker r has i. column-whole_numbers at db broker place is r has i ∷ rest.typed db broker r has i }

-- the table, and columns that are one of its keys
pub record Keyed {K : Type 0} (R : K → K → Ordering) (key : Row → K) : Type 0 where
  pub table : Table
  pub at : Placed table
  pub places : List ℕ
  pub columns : Columns at R places key
  pub unique : Has table.uniques places

-- no row has the values of this one at these places
abbrev pub IsFree : List Row → Row → List ℕ → Type 0
IsFree rows made places = (r : Row) → Has rows r → agree plain places r places made ≡ false

module _ {K : Type 0} {R : K → K → Ordering} {key : Row → K} (t : Keyed R key) (db : Database) (broker : IsBroker db) where
  abbrev rows : List Row
  rows = db.trees t.table.tree

  -- no two rows have one key
  pub IsAscending-keys_of_table : IsAscending (λ a b. eq_by_cmp R (key a) (key b) ≡ false) rows
  IsAscending-keys_of_table = IsAscending-keys_unique t.columns.of rows (t.columns.typed db broker) (uniques-keys_apart t.at db broker t.places t.unique)

  -- a made row is free if no row has its key
  pub IsFree-of_has_row_at : (made : Row) → HasCells t.columns.of made → has_row_at R key rows (key made) ≡ false → IsFree rows made t.places
  IsFree-of_has_row_at made cells none r has =
      agree-keys_tie t.columns.of r made (t.columns.typed db broker r has) cells ∙ (eq_by_cmp_equiv t.columns.of.total).symm (key r) (key made)
      ∙ false_from_ne_true _ (λ hit. let clash : true ≡ false = sym (some_from (λ x. eq_by_cmp R (key made) (key x)) rows r has hit) ∙ none in cc)

  -- WHERE the columns of the key are these parameters
  module _ (params : Row) (k : K) (given : params_for t.places 0 params ≡ t.columns.of.cells k) where
    pub kept_by : AllByRecursion (λ r. keeps (are_params t.places 0) params r ≡ eq_by_cmp R k (key r)) rows
    kept_by = all_of _ rows (λ r has. keeps-one_key t.columns.of 0 params k given r (t.columns.typed db broker r has))

    -- what is read of the first row is the value that the key has
    pub finds : {V : Type 0} {project : List Term} (value read : Row → V) → ((r : Row) → read (shows project params r) ≡ value r) → (out : List Row)
        → Answers db (record { lets = []; body = from_table t.table.tree (are_params t.places 0) project [] }) params out
        → option_map read (slice_get out 0) ≡ value_at R key value rows k
    finds {project = project} value read same out h =
        find-first_shown t.columns.of.total t.columns.of.exact key value (shows project params) read same k (keeps (are_params t.places 0) params) rows out kept_by IsAscending-keys_of_table
        (IsPermutation-kept_rows db params t.table.tree (are_params t.places 0) project [] out h)

    -- and a row is found if and only if some row has the key
    pub finds_row : {project : List Term} (out : List Row) → Answers db (record { lets = []; body = from_table t.table.tree (are_params t.places 0) project [] }) params out
        → is_some (slice_get out 0) ≡ has_row_at R key rows k
    finds_row out h =
        sym (is_some-map (λ r. tt {0}) (slice_get out 0)) ∙ ap is_some (finds (λ r. tt {0}) (λ r. tt {0}) (λ r. refl) out h) ∙ value_at-is_some R key (λ r. tt {0}) rows k

-- ---- the tables

abbrev keyed : {t : Table} {K : Type 0} {R : K → K → Ordering} {places : List ℕ} {key : Row → K} (at : Placed t) → Columns at R places key → Has t.uniques places → Keyed R key
keyed {t = t} {places = places} at columns unique = record { table = t; at = at; places = places; columns = columns; unique = unique }

abbrev pub teams_by_name : Keyed text_cmp (text in_teams.name)
teams_by_name = keyed at_teams (texts_key at_teams in_teams.name refl) (inl refl)

abbrev pub teams_by_digest : Keyed text_cmp (text in_teams.token_digest)
teams_by_digest = keyed at_teams (texts_key at_teams in_teams.token_digest refl) (inr (inl refl))

abbrev pub pacticipants_by_name : Keyed text_cmp (text in_pacticipants.name)
pacticipants_by_name = keyed at_pacticipants (texts_key at_pacticipants in_pacticipants.name refl) (inl refl)

abbrev pub versions_by_name : Keyed pair_cmp (λ r. (text in_versions.pacticipant r, text in_versions.version r))
versions_by_name = keyed at_versions (texts_and at_versions in_versions.pacticipant refl (texts_key at_versions in_versions.version refl)) (inl refl)

abbrev pub branches_by_key : Keyed (by_both int_cmp text_cmp) (λ r. (whole_at in_branches.version_number r, text in_branches.branch r))
branches_by_key = keyed at_branches (wholes_and at_branches in_branches.version_number refl (texts_key at_branches in_branches.branch refl)) (inl refl)

abbrev pub environments_by_name : Keyed text_cmp (text in_environments.name)
environments_by_name = keyed at_environments (texts_key at_environments in_environments.name refl) (inl refl)

abbrev pub strict_by_name : Keyed text_cmp (text in_strict_environments.environment)
strict_by_name = keyed at_strict_environments (texts_key at_strict_environments in_strict_environments.environment refl) (inl refl)

abbrev pub grants_by_key : Keyed pair_cmp (λ r. (text in_grants.team r, text in_grants.environment r))
grants_by_key = keyed at_grants (texts_and at_grants in_grants.team refl (texts_key at_grants in_grants.environment refl)) (inl refl)

abbrev pub contracts_by_key : Keyed (by_both int_cmp text_cmp) (λ r. (whole_at in_contracts.version_number r, text in_contracts.provider r))
contracts_by_key = keyed at_contracts (wholes_and at_contracts in_contracts.version_number refl (texts_key at_contracts in_contracts.provider refl)) (inl refl)

abbrev pub latest_by_key : Keyed (by_both int_cmp int_cmp) (λ r. (whole_at in_latest.content r, whole_at in_latest.provider_version r))
latest_by_key = keyed at_latest (wholes_and at_latest in_latest.content refl (wholes_key at_latest in_latest.provider_version refl)) (inl refl)

abbrev pub deployed_by_place : Keyed (by_both text_cmp pair_cmp) (λ r. (text in_deployed.environment r, (text in_deployed.pacticipant r, text in_deployed.instance r)))
deployed_by_place = keyed at_deployed (texts_and at_deployed in_deployed.environment refl (texts_and at_deployed in_deployed.pacticipant refl (texts_key at_deployed in_deployed.instance refl))) (inl refl)

abbrev pub released_by_key : Keyed (by_both text_cmp int_cmp) (λ r. (text in_released.environment r, whole_at in_released.version_number r))
released_by_key = keyed at_released (texts_and at_released in_released.environment refl (wholes_key at_released in_released.version_number refl)) (inl refl)
