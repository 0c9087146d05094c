-- A database of format 1, as it becomes one of format 2.
use Rattle.std.specs.{List.{AllByRecursion, enumerate_from}, Cmp.Lexicographic.{nat_list_cmp_total}}
use Rattle.std.proofs.Common.{◌≡◌, ◌≢◌, ◌+◌, ◌≤◌, ◌^◌, ℕ, ℤ, pos, List, [], ◌∷◌, ◌++◌, map, length, slice_get, false, Some, codes, refl, sym, ap, subst, subst₂, ◌∙◌, arith}
use Rattle.std.proofs.{lemmas.Bool.{and_parts, leb-true}, lemmas.List.Elements.{All-contains}}
use Rattle.hex.{specs.Hex.{encode_lower, lower_digits}, proofs.HexLemmas.{length-encode_with}}
use Rattle.sha2.{specs.Sha256.{sha256}, proofs.Facts256.{length-sha256}}
use Rattle.sqlite.specs.{Table.{Table}, Tree.{Trees, rowid}, Schema.{Schema}, Order.{Row, column}, Change.{created, next_tree, KeepsRows}, Effect.{Database}}
use Rattle.sqlite_sql.specs.Catalog.{entry_of}
use Rattle.sqlite_schema.specs.declared.schema.Index.{Index}
use Rattle.sqlite_rules.{specs.Lists.{Has}, proofs.TableLemmas.{int_is}}
use Rattle.table_access.specs.{Columns.{text, whole_at, Words}, Sound.{IsKept, IsShortValue}, Statements.{Creates, MakesIndexes, indexed_by}}
use Rattle.table_access.proofs.{Creation.{Makes-IsKept, AllByRecursion-front}, Indexing.{MakesIndexes-schema, MakesIndexes-KeepsRows, MakesIndexes-IsKept}}
use Rattle.table_access.proofs.{Maps.{find-has_row}, Members.{map_has, has_contains}, SoundLemmas.{at_has, all_of, has_place, column-Text, column-Int}}
use Rattle.sqlite_keyed.proofs.ListLemmas.{all_weaker}
use Rattle.broker_names.specs.Name.{is_name}
use Rattle.broker_core.specs.{declared.command.Marks.{Marks}, declared.command.Version.{Version}, State.{State as Broker, Verification}, Text.{version}}
use Rattle.broker_tables.specs.Schema.{schema_of, all_tables, all_indexes, checked_results, strict_environments, in_meta, in_versions, in_environments, in_contents, in_results, in_checked_results, in_strict_environments, contents_by_digest, contracts_by_content, latest_by_provider_version, versions_by_pacticipant}
use Rattle.broker_tables.specs.{Making.{AreShortKeys, HasShortKeys}, Readable.{IsReadable, IsNamed}, Rows.{rows_of}}
use Rattle.broker_tables.specs.Holds.{Holds, IsMeta, format, AreTeams, ArePacticipants, AreVersions, AreBranches, AreEnvironments, AreGrants, AreContents, AreContracts, AreResults, AreLatest, AreDeployed, AreReleased, ResultRow, result_in, result_of, marks_in, with_digest}
use Rattle.broker_tables.{specs.Format1.{HoldsUnmarked, IsUnmarked, format_1_tables, added_tables}, proofs.Orders.{text_cmp-antisymmetric}}
use Rattle.broker_tables.proofs.References.{enumerate_from-row_entry}

-- ---- the tables of format 1 keep their rows

-- the table has the rows that it had, unless it is meta
abbrev pub KeepsOthers : Trees → Trees → Table → Type 0
KeepsOthers old new t = t.tree ≢ in_meta.tree → new t.tree ≡ old t.tree

KeepsRows-KeepsOthers : (old new : Trees) (ts : List Table) → KeepsRows ts old new → AllByRecursion (KeepsOthers old new) ts
KeepsRows-KeepsOthers old new = all_weaker (λ t. new t.tree ≡ old t.tree) (KeepsOthers old new) (λ t same _. same)

-- The tables but meta have the rows that they had, meta has its row, and the tables that are added have none.
pub HoldsUnmarked-kept : (n m : ℕ) (more next : List Table) (old new : Database) (s : Broker) → HoldsUnmarked n more old s
    → AllByRecursion (KeepsOthers old.trees new.trees) (schema_of format_1_tables).tables → IsMeta m s.office (new.trees in_meta.tree)
    → new.schema ≡ schema_of (format_1_tables ++ next) → IsKept new → AllByRecursion (λ t. rows_of new t.name ≡ []) next → HoldsUnmarked m next new s
HoldsUnmarked-kept n m more next old new s held same meta schema kept empty = record {
  schema = schema;
  kept = kept;
  empty = empty;
  meta = meta;
  teams = subst (AreTeams s.teams) (sym (same.1.0 (omega arith))) held.teams;
  pacticipants = subst (ArePacticipants s.pacticipants) (sym (same.1.1.0 (omega arith))) held.pacticipants;
  versions = subst (AreVersions s.versions) (sym (same.1.1.1.0 (omega arith))) held.versions;
  branches = subst (AreBranches s.versions s.branches) (sym (same.1.1.1.1.0 (omega arith))) held.branches;
  environments = subst (λ rows. AreEnvironments s.environments rows []) (sym (same.1.1.1.1.1.0 (omega arith))) held.environments;
  grants = subst (AreGrants s.grants) (sym (same.1.1.1.1.1.1.0 (omega arith))) held.grants;
  contents = subst (AreContents s.contents) (sym (same.1.1.1.1.1.1.1.0 (omega arith))) held.contents;
  contracts = subst (AreContracts s.versions s.contracts) (sym (same.1.1.1.1.1.1.1.1.0 (omega arith))) held.contracts;
  results = subst (λ rows. AreResults s.versions s.results rows []) (sym (same.1.1.1.1.1.1.1.1.1.0 (omega arith))) held.results;
  latest = subst (AreLatest s) (sym (same.1.1.1.1.1.1.1.1.1.1.0 (omega arith))) held.latest;
  deployed = subst (AreDeployed s.versions s.deployed) (sym (same.1.1.1.1.1.1.1.1.1.1.1.0 (omega arith))) held.deployed;
  released = subst (AreReleased s.versions s.released) (sym (same.1.1.1.1.1.1.1.1.1.1.1.1.0 (omega arith))) held.released;
}

module _ (n : ℕ) (old new : Database) (s : Broker) where
  -- the table of checked results is made
  pub HoldsUnmarked-checked_results : HoldsUnmarked n [] old s → Creates old new checked_results → HoldsUnmarked n (checked_results ∷ []) new s
  HoldsUnmarked-checked_results held made =
      let keeps : KeepsRows (schema_of format_1_tables).tables old.trees new.trees = subst (λ (c : Schema). KeepsRows c.tables old.trees new.trees) held.schema made.others in
      HoldsUnmarked-kept n n [] (checked_results ∷ []) old new s held (KeepsRows-KeepsOthers old.trees new.trees (schema_of format_1_tables).tables keeps) (subst (IsMeta n s.office) (sym keeps.0) held.meta)
      (made.schema ∙ ap (λ c. created c checked_results) held.schema) (Makes-IsKept (checked_results ∷ []) old new (new, made, refl) held.kept)
      (subst (λ c. new.trees (next_tree c) ≡ []) held.schema made.empty, tt)

  -- the table of strict environments is made
  pub HoldsUnmarked-strict_environments : HoldsUnmarked n (checked_results ∷ []) old s → Creates old new strict_environments → HoldsUnmarked n added_tables new s
  HoldsUnmarked-strict_environments held made =
      let before = format_1_tables ++ checked_results ∷ [] in
      let keeps : KeepsRows (schema_of before).tables old.trees new.trees = subst (λ (c : Schema). KeepsRows c.tables old.trees new.trees) held.schema made.others in
      let front = AllByRecursion-front (λ t. new.trees t.tree ≡ old.trees t.tree) (schema_of format_1_tables).tables (record checked_results { tree = in_checked_results.tree } ∷ []) keeps in
      HoldsUnmarked-kept n n (checked_results ∷ []) added_tables old new s held (KeepsRows-KeepsOthers old.trees new.trees (schema_of format_1_tables).tables front) (subst (IsMeta n s.office) (sym keeps.0) held.meta)
      (made.schema ∙ ap (λ c. created c strict_environments) held.schema) (Makes-IsKept (strict_environments ∷ []) old new (new, made, refl) held.kept)
      (keeps.1.1.1.1.1.1.1.1.1.1.1.1.1.0 ∙ held.empty.0, (subst (λ c. new.trees (next_tree c) ≡ []) held.schema made.empty, tt))

  -- meta gets another format
  pub HoldsUnmarked-set_format : (m : ℕ) → HoldsUnmarked n added_tables old s → new.schema ≡ old.schema → IsKept new → AllByRecursion (KeepsOthers old.trees new.trees) (schema_of all_tables).tables → IsMeta m s.office (new.trees in_meta.tree) → HoldsUnmarked m added_tables new s
  HoldsUnmarked-set_format m held same kept others meta =
      let front = AllByRecursion-front (KeepsOthers old.trees new.trees) (schema_of format_1_tables).tables (record checked_results { tree = in_checked_results.tree } ∷ record strict_environments { tree = in_strict_environments.tree } ∷ []) others in
      HoldsUnmarked-kept n m added_tables added_tables old new s held front meta (same ∙ held.schema) kept
      (others.1.1.1.1.1.1.1.1.1.1.1.1.1.0 (omega arith) ∙ held.empty.0, (others.1.1.1.1.1.1.1.1.1.1.1.1.1.1.0 (omega arith) ∙ held.empty.1.0, tt))

-- then the indexes are made: the database holds the state as a new broker's does
pub HoldsUnmarked-Holds : (old new : Database) (s : Broker) → HoldsUnmarked format added_tables old s → MakesIndexes all_indexes old new → Holds new s
HoldsUnmarked-Holds old new s held makes =
    let k : KeepsRows (schema_of all_tables).tables old.trees new.trees = subst (λ (c : Schema). KeepsRows c.tables old.trees new.trees) held.schema (MakesIndexes-KeepsRows all_indexes old new makes) in
    let none = k.1.1.1.1.1.1.1.1.1.1.1.1.1.0 ∙ held.empty.0 in
    let lenient = k.1.1.1.1.1.1.1.1.1.1.1.1.1.1.0 ∙ held.empty.1.0 in
    record {
      broker = record { schema = MakesIndexes-schema all_indexes old new makes ∙ ap (λ c. indexed_by c all_indexes) held.schema; kept = MakesIndexes-IsKept all_indexes old new makes held.kept };
      meta = subst (IsMeta format s.office) (sym k.0) held.meta;
      teams = subst (AreTeams s.teams) (sym k.1.0) held.teams;
      pacticipants = subst (ArePacticipants s.pacticipants) (sym k.1.1.0) held.pacticipants;
      versions = subst (AreVersions s.versions) (sym k.1.1.1.0) held.versions;
      branches = subst (AreBranches s.versions s.branches) (sym k.1.1.1.1.0) held.branches;
      environments = subst₂ (AreEnvironments s.environments) (sym k.1.1.1.1.1.0) (sym lenient) held.environments;
      grants = subst (AreGrants s.grants) (sym k.1.1.1.1.1.1.0) held.grants;
      contents = subst (AreContents s.contents) (sym k.1.1.1.1.1.1.1.0) held.contents;
      contracts = subst (AreContracts s.versions s.contracts) (sym k.1.1.1.1.1.1.1.1.0) held.contracts;
      results = subst₂ (AreResults s.versions s.results) (sym k.1.1.1.1.1.1.1.1.1.0) (sym none) held.results;
      latest = subst (AreLatest s) (sym k.1.1.1.1.1.1.1.1.1.1.0) held.latest;
      deployed = subst (AreDeployed s.versions s.deployed) (sym k.1.1.1.1.1.1.1.1.1.1.1.0) held.deployed;
      released = subst (AreReleased s.versions s.released) (sym k.1.1.1.1.1.1.1.1.1.1.1.1.0) held.released;
    }

-- ---- every result is claimed, and no environment is strict

result_of-not_checked : (versions : List Version) (m : ℕ) (rows : List Row) (results : List Verification)
    → map {B = ℤ × ResultRow} (λ r. (whole_at in_results.number r, result_in [] r)) rows ≡ map {B = ℤ × ResultRow} (λ e. (pos e.0, e.1)) (enumerate_from m (map (result_of versions) results)) → AllByRecursion (λ r. r.checked ≡ false) results
result_of-not_checked versions m rows [] e = tt
result_of-not_checked versions m [] (r ∷ results) e = absurd cc
result_of-not_checked versions m (row ∷ rows) (r ∷ results) e =
    let pair : ◌≡◌ {A = ℤ × ResultRow} (whole_at in_results.number row, result_in [] row) (pos m, result_of versions r) = cc in
    let later : map {B = ℤ × ResultRow} (λ x. (whole_at in_results.number x, result_in [] x)) rows ≡ map {B = ℤ × ResultRow} (λ x. (pos x.0, x.1)) (enumerate_from (m + 1) (map (result_of versions) results)) = cc in
    (sym (ap (λ (x : ℤ × ResultRow). x.1.checked) pair), result_of-not_checked versions (m + 1) rows results later)

-- a state that is held without the added tables' rows: every result is claimed, and no environment is strict
pub unmarked : (n : ℕ) (more : List Table) (db : Database) (s : Broker) → HoldsUnmarked n more db s → IsUnmarked s
unmarked n more db s held = record {
  claimed = result_of-not_checked s.versions 1 (rows_of db (codes "results")) s.results held.results;
  lenient = λ e marks is.
      let row = find-has_row nat_list_cmp_total text_cmp-antisymmetric (text in_environments.name) (marks_in []) e marks (rows_of db (codes "environments")) (held.environments e ∙ is) in
      sym (ap (λ (m : Marks). m.strict) row.3);
}

-- ---- the entries of the indexes

module _ (n : ℕ) (db : Database) (s : Broker) (readable : IsReadable s) (held : HoldsUnmarked n added_tables db s) where
  -- the keys of an index are short if the row's number and the columns that it takes are
  AreShortKeys-of_index : (at : ℕ) (one : Table × Index) → slice_get (schema_of (format_1_tables ++ added_tables)).tables at ≡ Some one.0
      → (Has db.schema.tables one.0 → (r : Row) → Has (db.trees one.0.tree) r → IsShortValue (column r 0) → AllByRecursion IsShortValue (entry_of one.1.columns r))
      → AreShortKeys db.trees one
  AreShortKeys-of_index at one there short =
      let known = has_place db.schema.tables at one.0 (ap (λ (c : Schema). slice_get c.tables at) held.schema ∙ there) in
      let ids = (at_has _ db.schema.tables one.0 held.kept.numbered known).1 in
      all_of _ (db.trees one.0.tree) (λ r has. short known r has (subst IsShortValue (sym (int_is (rowid r) (at_has _ (db.trees one.0.tree) r ids has))) tt))

  length-digest : (r : Row) → Has (db.trees in_contents.tree) r → length (text in_contents.digest r) ≤ 10 ^ 7
  length-digest r has =
      let one = enumerate_from-row_entry (λ x. (text in_contents.digest x, text in_contents.body x)) (db.trees in_contents.tree) _ 1 held.contents r has in
      let it = map_has with_digest s.contents (text in_contents.digest r, text in_contents.body r) one in
      let same : text in_contents.digest r ≡ encode_lower (sha256 it.0) = ap (λ (e : Words × Words). e.0) it.2 in
      omega (arith, ap length same, length-encode_with lower_digits (sha256 it.0), length-sha256 it.0)

  length-version_pacticipant : (r : Row) → Has (db.trees in_versions.tree) r → length (text in_versions.pacticipant r) ≤ 10 ^ 7
  unfolding is_name
  length-version_pacticipant r has =
      let one = enumerate_from-row_entry (λ x. version (text in_versions.pacticipant x) (text in_versions.version x)) (db.trees in_versions.tree) s.versions 1 held.versions r has in
      let both = All-contains (λ (v : Version). IsNamed v.pacticipant × IsNamed v.name) s.versions _ readable.versions (has_contains s.versions _ one) in
      omega (arith, leb-true (length (text in_versions.pacticipant r)) 100 (and_parts _ _ (and_parts _ _ both.0.1).0).1)

  -- the keys of the indexes to be made are short: they are numbers, digests, and names that can be read back
  pub HoldsUnmarked-HasShortKeys : HasShortKeys db
  HoldsUnmarked-HasShortKeys =
      let sound = held.kept.sound in
      let digests = AreShortKeys-of_index 7 contents_by_digest refl
      (λ known r has id. (subst IsShortValue (sym (column-Text db sound _ known r has 1 _ refl refl refl refl refl)) (length-digest r has), (id, tt))) in
      let contents = AreShortKeys-of_index 8 contracts_by_content refl
      (λ known r has id. (subst IsShortValue (sym (column-Int db sound _ known r has 2 _ refl refl refl refl refl)) tt, (id, tt))) in
      let providers = AreShortKeys-of_index 10 latest_by_provider_version refl
      (λ known r has id. (subst IsShortValue (sym (column-Int db sound _ known r has 1 _ refl refl refl refl refl)) tt, (id, tt))) in
      let names = AreShortKeys-of_index 3 versions_by_pacticipant refl
      (λ known r has id. (subst IsShortValue (sym (column-Text db sound _ known r has 1 _ refl refl refl refl refl)) (length-version_pacticipant r has), (id, (id, tt)))) in
      record { kept = held.kept; short = (digests, (contents, (providers, (names, tt)))) }
