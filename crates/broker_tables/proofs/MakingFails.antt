-- Texts that make tables or indexes fail only as the store fails, if they are those that come next.
use Rattle.std.specs.List.{AllByRecursion}
use Rattle.std.proofs.Common.{Ok, Result, arith, ◌≡◌, inl, inr, ℕ, List, [], ◌∷◌, ◌++◌, take, drop, refl, sym, ap, subst, ◌∙◌, Err}
use Rattle.std.proofs.{lemmas.List.{append_assoc, take-append-drop, take-map}, lemmas.Result.{IfErr-weaker}}
use Rattle.sqlite.specs.{Table.{Table}, Schema.{Schema}, declared.error.Error.{Error}, Change.{created, KeepsRows}, Order.{Row}, Effect.{Database}}
use Rattle.sqlite.specs.State.{State, Executes, Fails, HasCleanDisk}
use Rattle.sqlite_schema.specs.declared.schema.Index.{Index}
use Rattle.table_access.specs.{Calls.{CallsStoreBetween, HasFailed, FailsToRun, fault_of}, declared.StoreFault.{StoreFault}}
use Rattle.table_access.{specs.Statements.{Creates, IndexesTable, MakesIndexes, with_index, indexed_by}, proofs.CallLemmas.{EndsBy-later_call}}
use Rattle.table_access.proofs.{Indexing.{MakesIndexes-KeepsRows, MakesIndexes-IsKept}, SoundLemmas.{at_has}}
use Rattle.sqlite_keyed.proofs.ListLemmas.{all_weaker, all_both}
use Rattle.broker_tables.specs.Schema.{no_schema, schema_of, all_tables, all_indexes}
use Rattle.broker_tables.specs.Making.{Maker, makes_of, AreNext, CanMake, MakesTexts, HasTables, AreShortKeys, HasShortKeys, FailsByStoreOverBetween, table_texts, index_texts}
use Rattle.broker_tables.proofs.CreationRefused.{DefinesTable, DefinesIndex, Executes-table_fails, Executes-index_fails}
use Rattle.broker_tables.proofs.{Definitions.{AreDefinedTables-table_texts, AreDefinedIndexes-index_texts}, Opening.{IsEmpty}}
use Rattle.broker_tables.proofs.Written.{MakesPart-next, Creates-schema, DefinesTable-Creates, IndexesTable-schema, DefinesIndex-IndexesTable}

-- the first of such texts are next too
AreNext-take : {X : Type 0} (next : Schema → X → Schema) (start : Schema) (all : List (Maker X)) (texts : List (List ℕ)) (n : ℕ) (schema : Schema)
    → AreNext next start all texts schema → AreNext next start all (take n texts) schema
AreNext-take {X} next start all texts n schema (before, part, after, is, text, there) = (
  before,
  take n part,
  drop n part ++ after,
  is ∙ ap (λ xs. (before ++ xs) ++ after) (sym (take-append-drop n part)) ∙ ap (λ xs. xs ++ after) (sym (append_assoc before (take n part) (drop n part)))
      ∙ append_assoc (before ++ take n part) (drop n part) after,
  ap (take n) text ∙ take-map (λ (maker : Maker X). maker.0) n part,
  there,
)

-- ---- the entries of the indexes

indexed_by-tables : (more : List (Table × Index)) (schema : Schema) → (indexed_by schema more).tables ≡ schema.tables
indexed_by-tables [] schema = refl
indexed_by-tables (one ∷ more) schema = indexed_by-tables more (with_index schema one)

-- the tables that have indexes are among all tables
AllByRecursion-indexed_tables : (P : Table → Type 0) → AllByRecursion P (schema_of all_tables).tables → AllByRecursion (λ (one : Table × Index). P one.0) all_indexes
AllByRecursion-indexed_tables P each = (each.1.1.1.1.1.1.1.0, (each.1.1.1.1.1.1.1.1.0, (each.1.1.1.1.1.1.1.1.1.1.0, (each.1.1.1.0, tt))))

-- rows keep their entries while indexes are made
pub HasShortKeys-kept : (before more : List (Table × Index)) (old new : Database) → old.schema ≡ indexed_by (schema_of all_tables) before → MakesIndexes more old new
    → HasShortKeys old → HasShortKeys new
HasShortKeys-kept before more old new is made keys =
    let same : old.schema.tables ≡ (schema_of all_tables).tables = ap (λ (s : Schema). s.tables) is ∙ indexed_by-tables before (schema_of all_tables) in
    let keeps = subst (λ ts. KeepsRows ts old.trees new.trees) same (MakesIndexes-KeepsRows more old new made) in record {
      kept = MakesIndexes-IsKept more old new made keys.kept;
      short = all_both (λ (one : Table × Index). new.trees one.0.tree ≡ old.trees one.0.tree) (AreShortKeys old.trees) (AreShortKeys new.trees)
          (λ one stay. subst (λ rows. AreShortKeys (λ _. rows) one) (sym stay)) all_indexes (AllByRecursion-indexed_tables (λ t. new.trees t.tree ≡ old.trees t.tree) keeps) keys.short;
    }

-- and tables without rows have none
pub HasTables-HasShortKeys : (n : ℕ) (office : List ℕ) (db : Database) → HasTables all_tables n office db → HasShortKeys db
HasTables-HasShortKeys n office db has =
    let e = AllByRecursion-indexed_tables (IsEmpty db.trees) has.empty in record {
      kept = has.kept;
      short = all_weaker (λ (one : Table × Index). db.trees one.0.tree ≡ []) (AreShortKeys db.trees)
          (λ one none. subst (λ rows. AreShortKeys (λ _. rows) one) (sym none) tt) all_indexes (e.0 refl, (e.1.0 refl, (e.1.1.0 refl, (e.1.1.1.0 refl, tt))));
    }

-- ---- the text that fails

-- a refusal that is one of the store
pub FailsToRun-HasFailed : (sql : List ℕ) (params : Row) (old new : State) (fault : StoreFault) → FailsToRun sql params old new fault → ((e : Error) → Executes sql params old new (Err e) → Fails old new ⊥ e) → HasFailed old new fault
FailsToRun-HasFailed sql params old new fault (e, is, ran) fails =
    let it = fails e ran in record { cause = it.0; fault_is = is ∙ ap fault_of it.1; has = it.2; over = it.3.autocommit; blamed = it.4 }

-- the text after these fails only so
pub FailsToRun-next_text : (texts front : List (List ℕ)) (n : ℕ) (sql : List ℕ) (old : Database) (mid new : State) (fault : StoreFault) → take n texts ≡ front ++ sql ∷ [] → CanMake texts old → MakesTexts front old mid.now
    → FailsToRun sql [] mid new fault → HasFailed mid new fault
FailsToRun-next_text texts front n sql old mid new fault more (inl next) made ran =
    let first = AreNext-take created no_schema table_texts texts n old.schema next in
    let it = MakesPart-next Creates created DefinesTable Creates-schema DefinesTable-Creates no_schema table_texts AreDefinedTables-table_texts front sql old mid.now made.0 first.0 first.1 first.2 first.3 (sym more ∙ first.4) first.5 in
    FailsToRun-HasFailed sql [] mid new fault ran (Executes-table_fails sql mid new it.1.1 it.4)
FailsToRun-next_text texts front n sql old mid new fault more (inr (next, keys)) made ran =
    let first = AreNext-take with_index (schema_of all_tables) index_texts texts n old.schema next in
    let it = MakesPart-next IndexesTable with_index DefinesIndex IndexesTable-schema DefinesIndex-IndexesTable (schema_of all_tables) index_texts AreDefinedIndexes-index_texts front sql old mid.now made.1 first.0 first.1 first.2 first.3 (sym more ∙ first.4) first.5 in
    let now = HasShortKeys-kept (makes_of first.0) _ old mid.now first.5 it.3 keys in
    FailsToRun-HasFailed sql [] mid new fault ran (Executes-index_fails sql mid new it.1.1 it.4 now.kept.sound (at_has (AreShortKeys mid.now.trees) all_indexes it.1.1 now.short it.4.known))

-- ---- one call after another

-- two calls fail only if the store failed, if the first leaves what the second needs
pub FailsByStoreOverBetween-then : {A B : Type 0} (One Two : Database → Type 0) (old mid new : State) (a : A) (r : Result B StoreFault) (P : A → Type 0) (Q : B → Type 0)
    → CallsStoreBetween old mid (Ok a) P → CallsStoreBetween mid new r Q → FailsByStoreOverBetween Two mid new r → (P a → One old.now → Two mid.now) → FailsByStoreOverBetween One old new r
FailsByStoreOverBetween-then One Two old mid new a r P Q one two failure next clean inside unlimited before =
    let mid_clean : HasCleanDisk mid = omega (arith, two.survives.clean, clean) in
    let on = one.goes_on mid_clean inside in
    IfErr-weaker r _ _ (λ fault failed. EndsBy-later_call old mid new fault on one.survives.counts failed) (failure clean on.0 (one.survives.limit ∙ unlimited) (next (one.ok mid_clean) before))
