-- What the tables that were made hold.
use Rattle.std.{specs.List.{AllByRecursion}, proofs.Common.{◌≡◌, ℕ, List, [], ◌∷◌, ◌++◌, fold, false, refl, sym, ap, subst, subst₂, ◌∙◌, codes}}
use Rattle.std.proofs.lemmas.List.Sums.{fold-append}
use Rattle.sqlite.specs.{Table.{Table}, Schema.{Schema}, Order.{Row}, Tree.{Trees}, Change.{created, next_tree, KeepsRows}, Effect.{Database}}
use Rattle.sqlite_rules.specs.Lists.{Has}
use Rattle.sqlite_keyed.proofs.ListLemmas.{all-append, all_both}
use Rattle.table_access.specs.{Statements.{Makes, new_trees, MakesIndexes, indexed_by}, Sound.{IsKept, IsNumbered}}
use Rattle.table_access.proofs.Creation.{Makes-schema, Makes-KeepsRows, Makes-new_tables_empty, Makes-IsKept}
use Rattle.table_access.proofs.{Indexing.{MakesIndexes-schema, MakesIndexes-KeepsRows, MakesIndexes-IsKept}, SoundLemmas.{at_has}}
use Rattle.broker_core.specs.{Text.{Text, same_text}, State.{opening}}
use Rattle.broker_tables.specs.{Schema.{schema_of, all_tables, all_indexes, in_meta}, Room.{LeaveNumbers, HasAllNumbers}, Making.{IsBlank, HasTables, HasAll}}
use Rattle.broker_tables.specs.Holds.{Holds, IsMeta, format, AreTeams, ArePacticipants, AreVersions, AreBranches, AreEnvironments, AreGrants, AreContents, AreContracts, AreResults, AreLatest, AreDeployed, AreReleased}
use Rattle.broker_tables.proofs.Placed.{meta}
use Rattle.broker_tables.specs.Schema as schema

-- a database without tables is kept: it is sound, and there are no rows whose numbers could be amiss
pub IsBlank-IsKept : (db : Database) → IsBlank db → IsKept db
IsBlank-IsKept db blank = record { sound = blank.sound; numbered = subst (λ (s : Schema). AllByRecursion (λ t. IsNumbered (db.trees t.tree)) s.tables) (sym blank.schema) tt }

abbrev pub IsEmpty : Trees → Table → Type 0
IsEmpty trees t = same_text t.name (codes "meta") ≡ false → trees t.tree ≡ []

-- tables that were empty, and new ones
IsEmpty-created : (trees : Trees) (s : Schema) (part : List Table) → AllByRecursion (IsEmpty trees) s.tables → AllByRecursion (λ n. trees n ≡ []) (new_trees s part) → AllByRecursion (IsEmpty trees) (fold created s part).tables
IsEmpty-created trees s [] one two = one
IsEmpty-created trees s (t ∷ part) one two = IsEmpty-created trees (created s t) part (all-append (IsEmpty trees) s.tables (record t { tree = next_tree s } ∷ []) one ((λ _. two.0), tt)) two.1

pub IsEmpty-KeepsRows : (old new : Trees) (ts : List Table) → KeepsRows ts old new → AllByRecursion (IsEmpty old) ts → AllByRecursion (IsEmpty new) ts
IsEmpty-KeepsRows old new = all_both (λ t. new t.tree ≡ old t.tree) (IsEmpty old) (IsEmpty new) (λ t same was other. same ∙ was other)

-- more tables are made, after these
pub HasTables-append : (before part : List Table) (n : ℕ) (office : Text) (old new : Database) → Has (schema_of before).tables meta → HasTables before n office old → Makes part old new → HasTables (before ++ part) n office new
HasTables-append before part n office old new among has makes =
    let keeps : KeepsRows (schema_of before).tables old.trees new.trees = subst (λ (s : Schema). KeepsRows s.tables old.trees new.trees) has.schema (Makes-KeepsRows part old new makes) in
    let rows : new.trees in_meta.tree ≡ old.trees in_meta.tree = at_has (λ t. new.trees t.tree ≡ old.trees t.tree) (schema_of before).tables meta keeps among in
    let is : fold created (schema_of before) part ≡ schema_of (before ++ part) = sym (fold-append created schema.no_schema before part) in
    record {
      schema = Makes-schema part old new makes ∙ ap (λ s. fold created s part) has.schema ∙ is;
      kept = Makes-IsKept part old new makes has.kept;
      meta = subst (IsMeta n office) (sym rows) has.meta;
      empty = subst (λ (s : Schema). AllByRecursion (IsEmpty new.trees) s.tables) is (IsEmpty-created new.trees (schema_of before) part (IsEmpty-KeepsRows old.trees new.trees (schema_of before).tables keeps has.empty)
          (subst (λ s. AllByRecursion (λ m. new.trees m ≡ []) (new_trees s part)) has.schema (Makes-new_tables_empty part old new makes)));
    }

-- then the indexes
pub HasTables-HasAll : (n : ℕ) (office : Text) (old new : Database) → HasTables all_tables n office old → MakesIndexes all_indexes old new → HasAll n office new
HasTables-HasAll n office old new has makes =
    let keeps : KeepsRows (schema_of all_tables).tables old.trees new.trees = subst (λ (s : Schema). KeepsRows s.tables old.trees new.trees) has.schema (MakesIndexes-KeepsRows all_indexes old new makes) in record {
      schema = MakesIndexes-schema all_indexes old new makes ∙ ap (λ s. indexed_by s all_indexes) has.schema;
      kept = MakesIndexes-IsKept all_indexes old new makes has.kept;
      meta = subst (IsMeta n office) (sym keeps.0) has.meta;
      empty = IsEmpty-KeepsRows old.trees new.trees (schema_of all_tables).tables keeps has.empty;
    }

-- once all is made, the database holds the state of a new broker
pub HasAll-Holds_opening : (office : Text) (db : Database) → HasAll format office db → Holds db (opening office)
HasAll-Holds_opening office db has = let e = has.empty in record {
  broker = record { schema = has.schema; kept = has.kept };
  meta = has.meta;
  teams = subst (AreTeams (opening office).teams) (sym (e.1.0 refl)) (λ t. refl);
  pacticipants = subst (ArePacticipants (opening office).pacticipants) (sym (e.1.1.0 refl)) (λ p. refl);
  versions = subst (AreVersions []) (sym (e.1.1.1.0 refl)) refl;
  branches = subst (AreBranches [] (opening office).branches) (sym (e.1.1.1.1.0 refl)) (λ v b. refl);
  environments = subst₂ (AreEnvironments (opening office).environments) (sym (e.1.1.1.1.1.0 refl)) (sym (e.1.1.1.1.1.1.1.1.1.1.1.1.1.1.0 refl)) (λ q. refl);
  grants = subst (AreGrants (opening office).grants) (sym (e.1.1.1.1.1.1.0 refl)) (λ t q. refl);
  contents = subst (AreContents []) (sym (e.1.1.1.1.1.1.1.0 refl)) refl;
  contracts = subst (AreContracts [] (opening office).contracts) (sym (e.1.1.1.1.1.1.1.1.0 refl)) (λ v p. refl);
  results = subst₂ (AreResults [] []) (sym (e.1.1.1.1.1.1.1.1.1.0 refl)) (sym (e.1.1.1.1.1.1.1.1.1.1.1.1.1.0 refl)) refl;
  latest = subst (AreLatest (opening office)) (sym (e.1.1.1.1.1.1.1.1.1.1.0 refl)) (λ c v. refl);
  deployed = subst (AreDeployed [] (opening office).deployed) (sym (e.1.1.1.1.1.1.1.1.1.1.1.0 refl)) (λ q p i. refl);
  released = subst (AreReleased [] (opening office).released) (sym (e.1.1.1.1.1.1.1.1.1.1.1.1.0 refl)) (λ q v. refl);
}

-- and each table has room for as many rows as SQLite has numbers
pub HasAll-HasAllNumbers : (n : ℕ) (office : Text) (db : Database) → HasAll n office db → HasAllNumbers db
HasAll-HasAllNumbers n office db has more few =
    let e = has.empty in
    (none (e.1.0 refl), (none (e.1.1.0 refl), (none (e.1.1.1.1.0 refl), (none (e.1.1.1.1.1.0 refl), (none (e.1.1.1.1.1.1.1.1.1.1.1.1.1.1.0 refl), (none (e.1.1.1.1.1.1.0 refl), (none (e.1.1.1.1.1.1.1.1.0 refl), (none (e.1.1.1.1.1.1.1.1.1.1.0 refl), (none (e.1.1.1.1.1.1.1.1.1.1.1.0 refl), (none (e.1.1.1.1.1.1.1.1.1.1.1.1.0 refl), tt))))))))))
  where
    none : {rows : List Row} → rows ≡ [] → LeaveNumbers more rows
    none is = subst (LeaveNumbers more) (sym is) (few, tt)
