-- Each table at its place in the schema, and what its columns hold.
use Rattle.std.specs.List.{AllByRecursion, enumerate_from, list_all}
use Rattle.std.proofs.Common.{◌≡◌, ℕ, zero, suc, ◌+◌, List, [], ◌∷◌, map, filter, Bool, true, false, ap, refl, sym, subst, ◌∙◌, slice_get, Option, Some, None, codes, cond, add-one}
use Rattle.sqlite.specs.{declared.types.Value.TheVariants.{Int, Text}, Order.{Row, column}, Schema.{Schema}, Table.{Table}, Tree.{IsAscending}}
use Rattle.sqlite.specs.Effect.{Database}
use Rattle.sqlite_schema.specs.{declared.schema.Column.{Column}, Names.{is_key}, Rules.{agree, guards, is_key_of}}
use Rattle.sqlite_value.specs.{declared.keys.Order.{Order}, Keys.{plain}}
use Rattle.sqlite_rules.specs.Lists.{Has}
use Rattle.sqlite_tied.specs.Compute.{everything}
use Rattle.table_access.specs.{Columns.{text, whole_at}, Sound.{IsNumbered}, Statements.{HasNoActions, plain_table}}
use Rattle.table_access.proofs.{SoundLemmas.{at_has, has_place, column-Text, column-Int}, Keys.{IsKept-unique_index_apart}}
use Rattle.table_access.proofs.{Members.{has_map, map_has, filter_has}, UpsertRefused.{key_of}}
use Rattle.broker_tables.specs.{Holds.{IsBroker}, Rows.{tree_of}}
use Rattle.broker_tables.specs.Schema.{in_meta, in_teams, in_pacticipants, in_versions, in_branches, in_environments, in_grants, in_contents, in_contracts, in_results, in_latest, in_deployed, in_released, in_checked_results, in_strict_environments}
use Rattle.broker_tables.proofs.Frames.{is_among}
use Rattle.broker_tables.specs.Schema as schema

-- each table with its tree
abbrev pub meta : Table
meta = record schema.meta { tree = in_meta.tree }

abbrev pub teams : Table
teams = record schema.teams { tree = in_teams.tree }

abbrev pub pacticipants : Table
pacticipants = record schema.pacticipants { tree = in_pacticipants.tree }

abbrev pub versions : Table
versions = record schema.versions { tree = in_versions.tree }

abbrev pub branches : Table
branches = record schema.branches { tree = in_branches.tree }

abbrev pub environments : Table
environments = record schema.environments { tree = in_environments.tree }

abbrev pub grants : Table
grants = record schema.grants { tree = in_grants.tree }

abbrev pub contents : Table
contents = record schema.contents { tree = in_contents.tree }

abbrev pub contracts : Table
contracts = record schema.contracts { tree = in_contracts.tree }

abbrev pub results : Table
results = record schema.results { tree = in_results.tree }

abbrev pub latest : Table
latest = record schema.latest { tree = in_latest.tree }

abbrev pub deployed : Table
deployed = record schema.deployed { tree = in_deployed.tree }

abbrev pub released : Table
released = record schema.released { tree = in_released.tree }

abbrev pub checked_results : Table
checked_results = record schema.checked_results { tree = in_checked_results.tree }

abbrev pub strict_environments : Table
strict_environments = record schema.strict_environments { tree = in_strict_environments.tree }

-- the columns of a table: the place of each, which is 0 if it is the row's number, and its name
abbrev columns_of : Table → List (ℕ × List ℕ)
columns_of t = map (λ e. (cond (is_key t.key e.0) 0 (e.0 + 1), e.1.name)) (enumerate_from 0 t.columns)

-- each name of a tree and of a column is that of the broker's schema, and names the column that is called so
broker_schema-names : map {B = List ℕ × ℕ × List (ℕ × List ℕ)} (λ t. (t.name, t.tree, columns_of t)) schema.broker_schema.tables
    ≡ (codes "meta", in_meta.tree, (in_meta.one, codes "one") ∷ (in_meta.format, codes "format") ∷ (in_meta.office_digest, codes "office_digest") ∷ [])
    ∷ (codes "teams", in_teams.tree, (in_teams.name, codes "name") ∷ (in_teams.token_digest, codes "token_digest") ∷ [])
    ∷ (codes "pacticipants", in_pacticipants.tree, (in_pacticipants.name, codes "name") ∷ (in_pacticipants.team, codes "team") ∷ [])
    ∷ (
      codes "versions",
      in_versions.tree,
      (in_versions.number, codes "number") ∷ (in_versions.pacticipant, codes "pacticipant")
          ∷ (in_versions.version, codes "version") ∷ [],
    )
    ∷ (codes "branches", in_branches.tree, (in_branches.version_number, codes "version_number") ∷ (in_branches.branch, codes "branch") ∷ [])
    ∷ (codes "environments", in_environments.tree, (in_environments.name, codes "name") ∷ (in_environments.gated, codes "gated") ∷ [])
    ∷ (codes "grants", in_grants.tree, (in_grants.team, codes "team") ∷ (in_grants.environment, codes "environment") ∷ [])
    ∷ (codes "contents", in_contents.tree, (in_contents.number, codes "number") ∷ (in_contents.digest, codes "digest") ∷ (in_contents.body, codes "body") ∷ [])
    ∷ (
      codes "contracts",
      in_contracts.tree,
      (in_contracts.version_number, codes "version_number") ∷ (in_contracts.provider, codes "provider")
          ∷ (in_contracts.content, codes "content") ∷ [],
    )
    ∷ (
      codes "results",
      in_results.tree,
      (in_results.number, codes "number") ∷ (in_results.content, codes "content") ∷ (in_results.provider, codes "provider")
          ∷ (in_results.provider_version, codes "provider_version") ∷ (in_results.pass, codes "pass") ∷ (in_results.run, codes "run") ∷ [],
    )
    ∷ (
      codes "latest",
      in_latest.tree,
      (in_latest.content, codes "content") ∷ (in_latest.provider_version, codes "provider_version")
          ∷ (in_latest.result, codes "result") ∷ [],
    )
    ∷ (
      codes "deployed",
      in_deployed.tree,
      (in_deployed.environment, codes "environment") ∷ (in_deployed.pacticipant, codes "pacticipant")
          ∷ (in_deployed.instance, codes "instance") ∷ (in_deployed.version_number, codes "version_number") ∷ [],
    )
    ∷ (codes "released", in_released.tree, (in_released.environment, codes "environment") ∷ (in_released.version_number, codes "version_number") ∷ [])
    ∷ (codes "checked_results", in_checked_results.tree, (in_checked_results.result, codes "result") ∷ [])
    ∷ (codes "strict_environments", in_strict_environments.tree, (in_strict_environments.environment, codes "environment") ∷ []) ∷ []
broker_schema-names = refl

-- no foreign key acts on a change of its parent
pub broker_schema-HasNoActions : HasNoActions schema.broker_schema.tables
broker_schema-HasNoActions =
    (tt, (tt, (((refl, refl), tt), (((refl, refl), tt), (((refl, refl), tt), (tt, (((refl, refl), ((refl, refl), tt)), (tt, (((refl, refl), ((refl, refl), ((refl, refl), tt))), (((refl, refl), ((refl, refl), ((refl, refl), tt))), (((refl, refl), ((refl, refl), ((refl, refl), tt))), (((refl, refl), ((refl, refl), ((refl, refl), tt))), (((refl, refl), ((refl, refl), tt)), (((refl, refl), tt), (((refl, refl), tt), tt)))))))))))))))

-- ---- where each table is

-- The place of a table in the broker's schema, counted from 0. The table is found by its name, and no other has its tree.
pub record Placed (t : Table) : Type 0 where
  pub place : ℕ
  pub placed : slice_get schema.broker_schema.tables place ≡ Some t
  pub named : tree_of t.name ≡ Some t.tree
  pub alone : is_among (t.name ∷ []) t.tree ≡ true

abbrev pub at_meta : Placed meta
at_meta = record { place = 0; placed = refl; named = refl; alone = refl }

abbrev pub at_teams : Placed teams
at_teams = record { place = 1; placed = refl; named = refl; alone = refl }

abbrev pub at_pacticipants : Placed pacticipants
at_pacticipants = record { place = 2; placed = refl; named = refl; alone = refl }

abbrev pub at_versions : Placed versions
at_versions = record { place = 3; placed = refl; named = refl; alone = refl }

abbrev pub at_branches : Placed branches
at_branches = record { place = 4; placed = refl; named = refl; alone = refl }

abbrev pub at_environments : Placed environments
at_environments = record { place = 5; placed = refl; named = refl; alone = refl }

abbrev pub at_grants : Placed grants
at_grants = record { place = 6; placed = refl; named = refl; alone = refl }

abbrev pub at_contents : Placed contents
at_contents = record { place = 7; placed = refl; named = refl; alone = refl }

abbrev pub at_contracts : Placed contracts
at_contracts = record { place = 8; placed = refl; named = refl; alone = refl }

abbrev pub at_results : Placed results
at_results = record { place = 9; placed = refl; named = refl; alone = refl }

abbrev pub at_latest : Placed latest
at_latest = record { place = 10; placed = refl; named = refl; alone = refl }

abbrev pub at_deployed : Placed deployed
at_deployed = record { place = 11; placed = refl; named = refl; alone = refl }

abbrev pub at_released : Placed released
at_released = record { place = 12; placed = refl; named = refl; alone = refl }

abbrev pub at_checked_results : Placed checked_results
at_checked_results = record { place = 13; placed = refl; named = refl; alone = refl }

abbrev pub at_strict_environments : Placed strict_environments
at_strict_environments = record { place = 14; placed = refl; named = refl; alone = refl }

-- a table without AUTOINCREMENT and computed defaults
abbrev pub plainly : Table → Table
plainly t = plain_table t.name t.tree t.columns t.key t.primary t.uniques t.orders t.checks t.references

-- what an INSERT needs of a table: it is such a table, the unique indexes on it are its keys, and each of its
-- references points to a key
abbrev pub Need : Type 0
Need = Table × List (Order × List ℕ) × Bool

abbrev needed : Schema → Table → Need
needed schema t = (plainly t, map key_of (filter (λ i. guards i t) schema.indexes), list_all (is_key_of schema) t.references)

abbrev pub IsReady : Schema → Table → Type 0
IsReady schema t = needed schema t ≡ (t, map (λ places. (plain, places)) t.uniques, true)

broker_schema-IsReady : AllByRecursion (IsReady schema.broker_schema) schema.broker_schema.tables
unfolding everything
broker_schema-IsReady = (refl, (refl, (refl, (refl, (refl, (refl, (refl, (refl, (refl, (refl, (refl, (refl, (refl, (refl, (refl, tt)))))))))))))))

pub IsBroker-IsReady : (db : Database) → IsBroker db → (t : Table) → Has db.schema.tables t → IsReady db.schema t
IsBroker-IsReady db broker t listed = at_has _ db.schema.tables t (subst (λ (s : Schema). AllByRecursion (IsReady s) s.tables) (sym broker.schema) broker_schema-IsReady) listed

-- no foreign key acts on a change of its parent
pub no_actions : (db : Database) → IsBroker db → HasNoActions db.schema.tables
no_actions db broker = subst (λ (s : Schema). HasNoActions s.tables) (sym broker.schema) broker_schema-HasNoActions

-- the column at this place, if it isn't the row's number
abbrev pub column_at : Table → ℕ → Option Column
column_at t zero = None
column_at t (suc at) = cond (is_key t.key at) None (slice_get t.columns at)

cond-Some : {A : Type 0} (key : Bool) (found : Option A) (a : A) → cond key None found ≡ Some a → (key ≡ false) × (found ≡ Some a)
cond-Some true found a is = absurd cc
cond-Some false found a is = (refl, is)

module _ {t : Table} (at : Placed t) (db : Database) (broker : IsBroker db) where
  -- each broker's database has the table slice_get-Placed_table
  pub slice_get-Placed_table : slice_get db.schema.tables at.place ≡ Some t
  slice_get-Placed_table = ap (λ (s : Schema). slice_get s.tables at.place) broker.schema ∙ at.placed

  pub listed : Has db.schema.tables t
  listed = has_place _ at.place t slice_get-Placed_table

  -- which is such a plain table
  pub plainly-same : plainly t ≡ t
  plainly-same = ap (λ (x : Need). x.0) (IsBroker-IsReady db broker t listed)

  pub slice_get-Placed_plainly : slice_get db.schema.tables at.place ≡ Some (plainly t)
  slice_get-Placed_plainly = slice_get-Placed_table ∙ ap Some (sym plainly-same)

  -- its rows rise by their numbers
  pub Placed-IsNumbered : IsNumbered (db.trees t.tree)
  Placed-IsNumbered = at_has _ db.schema.tables t broker.kept.numbered listed

  -- a column of texts has a text in each row, and one of whole numbers a whole number
  pub column-texts : (place : ℕ) {name : List ℕ} → column_at t place ≡ Some (schema.texts name) → (r : Row) → Has (db.trees t.tree) r → column r place ≡ Text (text place r)
  column-texts zero is r has = absurd cc
  column-texts (suc p) {name} is r has =
      let it = cond-Some (is_key t.key p) (slice_get t.columns p) (schema.texts name) is in
      subst (λ n. column r n ≡ Text (text n r)) (add-one p) (column-Text db broker.kept.sound t listed r has p (schema.texts name) it.1 it.0 refl refl refl)

  pub column-whole_numbers : (place : ℕ) {name : List ℕ} → column_at t place ≡ Some (schema.numbers name) → (r : Row) → Has (db.trees t.tree) r → column r place ≡ Int (whole_at place r)
  column-whole_numbers zero is r has = absurd cc
  column-whole_numbers (suc p) {name} is r has =
      let it = cond-Some (is_key t.key p) (slice_get t.columns p) (schema.numbers name) is in
      subst (λ n. column r n ≡ Int (whole_at n r)) (add-one p) (column-Int db broker.kept.sound t listed r has p (schema.numbers name) it.1 it.0 refl refl refl)

  -- no two rows have one key of the table
  pub uniques-keys_apart : (places : List ℕ) → Has t.uniques places → IsAscending (λ a b. agree plain places a places b ≡ false) (db.trees t.tree)
  uniques-keys_apart places among =
      let keys = ap (λ (x : Need). x.1) (IsBroker-IsReady db broker t listed) in
      let i = map_has key_of _ (plain, places) (subst (λ ks. Has ks (plain, places)) (sym keys) (has_map (λ ps. (plain, ps)) t.uniques places among)) in
      let known = filter_has (λ j. guards j t) db.schema.indexes i.0 i.1 in
      subst (λ (k : Order × List ℕ). IsAscending (λ a b. agree k.0 k.1 a k.1 b ≡ false) (db.trees t.tree)) (sym i.2) (IsKept-unique_index_apart db broker.kept t listed i.0 known.0 known.1)
