-- What CREATE INDEX leaves.
use Rattle.std.{specs.List.{AllByRecursion}, proofs.Common.{◌≡◌, ◌∷◌, ◌++◌, ℕ, List, [], Ok, Some, None, slice_get, refl, sym, ap, subst, ◌∙◌}}
use Rattle.sqlite_schema.specs.declared.schema.Index.{Index}
use Rattle.sqlite.specs.{Table.{Table}, Schema.{Schema}, Command.TheVariants.{CreateIndex}, Change.{indexed, KeepsRows}, Effect.{Database}}
use Rattle.sqlite.specs.{Does.{Tally, AtPlace, Defines, MakesIndex}, State.{State, Executes, Writes, mode_of}, Listing.{understood}}
use Rattle.sqlite.proofs.Callers.{statement_of, runs_as}
use Rattle.sqlite_resolve.specs.Compile.{index_defined_by}
use Rattle.table_access.specs.{Statements.{Indexes, IndexesTable, MakesIndexes, with_index, indexed_by}, Sound.{IsNumbered, IsKept}}
use Rattle.table_access.proofs.Creation.{KeepsRows-IsNumbered, MakesEach-KeepsRows, MakesEach-append, MakesEach-schema}
use Rattle.table_access.proofs.Steps.{Means, Ok-not_stopped, Ok-injective}

pub Executes-Indexes : (sql : List ℕ) (old new : State) (at : ℕ) (table : Table) (index : Index) (count : ℕ) → Means old.now.schema sql (CreateIndex at) → statement_of sql (understood old.now.schema sql) ≡ sql
    → slice_get old.now.schema.tables at ≡ Some table → index_defined_by table sql ≡ Ok index → Executes sql [] old new (Ok count) → Indexes old.now new.now table index
Executes-Indexes sql old new at table index count means whole there defined h =
    let w = subst (λ t. Writes old new None (CreateIndex at) t [] count) whole (runs_as sql [] old new old.now.schema refl (CreateIndex at) means.is means.plain count h) in
    let done = Ok-not_stopped (subst (λ o. AtPlace (λ t. Defines (mode_of old) (MakesIndex sql old.now t)) o (Ok (w.tally, new.now))) there w.changed) in
    let made = done.1 in
    let both : Ok made.index ≡ Ok index = sym made.defined ∙ defined in
    let same : made.index ≡ index = cc in
    let now : new.now ≡ done.0 = ap (λ (p : Tally × Database). p.1) (Ok-injective done.2) in
    record {
      schema = ap (λ (d : Database). d.schema) now ∙ made.is ∙ ap (indexed old.now.schema table) same;
      others = subst (λ (d : Database). KeepsRows old.now.schema.tables old.now.trees d.trees) (sym now) made.rows;
      sound = w.sound;
    }

-- all tables obey the schema still, and their rows are in the order of their numbers
pub Indexes-IsKept : (old new : Database) (table : Table) (index : Index) → Indexes old new table index → IsKept old → IsKept new
Indexes-IsKept old new table index h kept = record {
  sound = h.sound;
  numbered = subst (λ (s : Schema). AllByRecursion (λ t. IsNumbered (new.trees t.tree)) s.tables) (sym h.schema) (KeepsRows-IsNumbered old.schema.tables old.trees new.trees h.others kept.numbered);
}

-- one index by its text, over a schema that is written out: each premise but the last two is `refl`
pub Executes-Indexes_of_text : (sql : List ℕ) (schema : Schema) (at : ℕ) (table : Table) (index : Index) → Means schema sql (CreateIndex at) → statement_of sql (understood schema sql) ≡ sql → slice_get schema.tables at ≡ Some table → index_defined_by table sql ≡ Ok index
    → (old new : State) (count : ℕ) → old.now.schema ≡ schema → Executes sql [] old new (Ok count) → Indexes old.now new.now table index
Executes-Indexes_of_text sql schema at table index means whole there defined old new count is h =
    Executes-Indexes sql old new at table index count (subst (λ s. Means s sql (CreateIndex at)) (sym is) means) (subst (λ s. statement_of sql (understood s sql) ≡ sql) (sym is) whole) (subst (λ (s : Schema). slice_get s.tables at ≡ Some table) (sym is) there) defined h

-- ---- what Executes-Indexes that are made leave

-- more Executes-Indexes are made, after these
pub MakesIndexes-append : (front back : List (Table × Index)) (old mid new : Database) → MakesIndexes front old mid → MakesIndexes back mid new → MakesIndexes (front ++ back) old new
MakesIndexes-append = MakesEach-append IndexesTable

-- the schema that they leave is the old one with the Executes-Indexes added one after another
pub MakesIndexes-schema : (more : List (Table × Index)) (old new : Database) → MakesIndexes more old new → new.schema ≡ indexed_by old.schema more
MakesIndexes-schema = MakesEach-schema IndexesTable with_index (λ old new one made. made.schema)

-- the tables keep their rows
pub MakesIndexes-KeepsRows : (more : List (Table × Index)) (old new : Database) → MakesIndexes more old new → KeepsRows old.schema.tables old.trees new.trees
MakesIndexes-KeepsRows = MakesEach-KeepsRows IndexesTable (λ old new one made. made.others) (λ old new one made later. subst (λ (s : Schema). KeepsRows s.tables new.trees later) made.schema)

-- all tables still obey the schema after them, and their rows are in the order of their numbers
pub MakesIndexes-IsKept : (more : List (Table × Index)) (old new : Database) → MakesIndexes more old new → IsKept old → IsKept new
MakesIndexes-IsKept [] old new h kept = subst IsKept (sym h) kept
MakesIndexes-IsKept (one ∷ more) old new h kept = MakesIndexes-IsKept more h.0 new h.2 (Indexes-IsKept old h.0 one.0 one.1 h.1 kept)
