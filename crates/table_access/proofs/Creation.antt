-- What CREATE TABLE leaves.
use Rattle.std.{specs.List.{AllByRecursion}, proofs.Common.{◌≡◌, ℕ, List, [], ◌∷◌, ◌++◌, fold, false, Ok, None, refl, sym, ap, subst, ◌∙◌}}
use Rattle.sqlite.specs.{Table.{Table}, Schema.{Schema}, Tree.{Trees}, Command.TheVariants.{CreateTable}, Compile.{table_defined_by}}
use Rattle.sqlite.specs.{Change.{created, next_tree, KeepsRows}, Effect.{Database}, Does.{Tally, lacks_sequence}, State.{State, Executes, Writes}}
use Rattle.sqlite.{specs.Listing.{understood}, proofs.Callers.{statement_of, runs_as}}
use Rattle.sqlite_keyed.proofs.ListLemmas.{all-append, all_both}
use Rattle.table_access.specs.{Statements.{Creates, Makes, MakesEach, new_trees}, Sound.{IsNumbered, IsKept}}
use Rattle.table_access.proofs.{Steps.{Means, Ok-not_stopped, Ok-injective}, SoundLemmas.{all_of}}

pub Executes-Creates : (sql : List ℕ) (old new : State) (table : Table) (count : ℕ) → Means old.now.schema sql CreateTable → statement_of sql (understood old.now.schema sql) ≡ sql → table_defined_by sql ≡ Ok table
    → lacks_sequence (created old.now.schema table) ≡ false → Executes sql [] old new (Ok count) → Creates old.now new.now table
Executes-Creates sql old new table count means whole defined uncounted h =
    let w = subst (λ t. Writes old new None CreateTable t [] count) whole (runs_as sql [] old new old.now.schema refl CreateTable means.is means.plain count h) in
    let all = Ok-not_stopped w.changed in
    let first = Ok-not_stopped all.1 in
    let made = first.1 in
    let both : Ok made.table ≡ Ok table = sym made.defined ∙ defined in
    let same : made.table ≡ table = cc in
    let schema : first.0.schema ≡ created old.now.schema table = made.is ∙ ap (created old.now.schema) same in
    let plain : lacks_sequence first.0.schema ≡ false = ap lacks_sequence schema ∙ uncounted in
    let now : new.now ≡ first.0 = ap (λ (p : Tally × Database). p.1) (Ok-injective all.2) ∙ Ok-injective (rw plain at first.2) in
    record {
      schema = ap (λ (d : Database). d.schema) now ∙ schema;
      empty = ap (λ (d : Database). d.trees (next_tree old.now.schema)) now ∙ made.empty;
      others = subst (λ (d : Database). KeepsRows old.now.schema.tables old.now.trees d.trees) (sym now) made.others;
      sound = w.sound;
    }

-- ---- what tables that are made leave

pub AllByRecursion-front : {X : Type 0} (P : X → Type 0) (xs ys : List X) → AllByRecursion P (xs ++ ys) → AllByRecursion P xs
AllByRecursion-front P [] ys all = tt
AllByRecursion-front P (x ∷ xs) ys all = (all.0, AllByRecursion-front P xs ys all.1)

AllByRecursion-back : {X : Type 0} (P : X → Type 0) (xs ys : List X) → AllByRecursion P (xs ++ ys) → AllByRecursion P ys
AllByRecursion-back P [] ys all = all
AllByRecursion-back P (x ∷ xs) ys all = AllByRecursion-back P xs ys all.1

-- one after another
pub MakesEach-append : {X : Type 0} (One : Database → Database → X → Type 0) (front back : List X) (old mid new : Database) → MakesEach One front old mid → MakesEach One back mid new → MakesEach One (front ++ back) old new
MakesEach-append One [] back old mid new one two = subst (λ db. MakesEach One back db new) one two
MakesEach-append One (x ∷ front) back old mid new one two = (one.0, one.1, MakesEach-append One front back one.0 mid new one.2 two)

-- a single one
pub MakesEach-single : {X : Type 0} (One : Database → Database → X → Type 0) (x : X) (old new : Database) → MakesEach One (x ∷ []) old new → One old new x
MakesEach-single One x old new h = subst (λ db. One old db x) (sym h.2) h.1

-- the schema that they leave
pub MakesEach-schema : {X : Type 0} (One : Database → Database → X → Type 0) (next : Schema → X → Schema) → ((old new : Database) (x : X) → One old new x → new.schema ≡ next old.schema x)
    → (xs : List X) (old new : Database) → MakesEach One xs old new → new.schema ≡ fold next old.schema xs
MakesEach-schema One next law [] old new h = ap (λ (db : Database). db.schema) h
MakesEach-schema One next law (x ∷ xs) old new h = MakesEach-schema One next law xs h.0 new h.2 ∙ ap (λ schema. fold next schema xs) (law old h.0 x h.1)

-- if tables are made, the new schema is the old one with each of them created, one after another
pub Makes-schema : (tables : List Table) (old new : Database) → Makes tables old new → new.schema ≡ fold created old.schema tables
Makes-schema = MakesEach-schema Creates created (λ old new table made. made.schema)

-- the tables that were there keep their rows, if each change keeps them and none takes a table away
pub MakesEach-KeepsRows : {X : Type 0} (One : Database → Database → X → Type 0) → ((old new : Database) (x : X) → One old new x → KeepsRows old.schema.tables old.trees new.trees)
    → ((old new : Database) (x : X) → One old new x → (later : Trees) → KeepsRows new.schema.tables new.trees later → KeepsRows old.schema.tables new.trees later)
    → (xs : List X) (old new : Database) → MakesEach One xs old new → KeepsRows old.schema.tables old.trees new.trees
MakesEach-KeepsRows One keeps back [] old new h = all_of _ old.schema.tables (λ t has. ap (λ (db : Database). db.trees t.tree) h)
MakesEach-KeepsRows One keeps back (x ∷ xs) old new h =
    all_both (λ t. h.0.trees t.tree ≡ old.trees t.tree) (λ t. new.trees t.tree ≡ h.0.trees t.tree) (λ t. new.trees t.tree ≡ old.trees t.tree)
    (λ t one two. two ∙ one) old.schema.tables (keeps old h.0 x h.1) (back old h.0 x h.1 new.trees (MakesEach-KeepsRows One keeps back xs h.0 new h.2))

pub Makes-KeepsRows : (tables : List Table) (old new : Database) → Makes tables old new → KeepsRows old.schema.tables old.trees new.trees
Makes-KeepsRows = MakesEach-KeepsRows Creates (λ old new table made. made.others) (λ old new table made later rows.
    AllByRecursion-front _ old.schema.tables (record table { tree = next_tree old.schema } ∷ []) (subst (λ (s : Schema). KeepsRows s.tables new.trees later) made.schema rows))

-- and the new ones have none
pub Makes-new_tables_empty : (tables : List Table) (old new : Database) → Makes tables old new → AllByRecursion (λ tree. new.trees tree ≡ []) (new_trees old.schema tables)
Makes-new_tables_empty [] old new h = tt
Makes-new_tables_empty (table ∷ tables) old new h =
    let later : KeepsRows h.0.schema.tables h.0.trees new.trees = Makes-KeepsRows tables h.0 new h.2 in
    let back = AllByRecursion-back _ old.schema.tables (record table { tree = next_tree old.schema } ∷ []) (subst (λ (s : Schema). KeepsRows s.tables h.0.trees new.trees) h.1.schema later) in
    (back.0 ∙ h.1.empty, subst (λ schema. AllByRecursion (λ tree. new.trees tree ≡ []) (new_trees schema tables)) h.1.schema (Makes-new_tables_empty tables h.0 new h.2))

pub KeepsRows-IsNumbered : (tables : List Table) (a b : Trees) → KeepsRows tables a b → AllByRecursion (λ t. IsNumbered (a t.tree)) tables → AllByRecursion (λ t. IsNumbered (b t.tree)) tables
KeepsRows-IsNumbered tables a b = all_both (λ t. b t.tree ≡ a t.tree) (λ t. IsNumbered (a t.tree)) (λ t. IsNumbered (b t.tree)) (λ t same. subst IsNumbered (sym same)) tables

-- all tables obey the schema, and their rows are in the order of their numbers
pub Makes-IsKept : (tables : List Table) (old new : Database) → Makes tables old new → IsKept old → IsKept new
Makes-IsKept [] old new h kept = subst IsKept (sym h) kept
Makes-IsKept (table ∷ tables) old new h kept = Makes-IsKept tables h.0 new h.2 (record { sound = h.1.sound; numbered = subst (λ (s : Schema). AllByRecursion (λ t. IsNumbered (h.0.trees t.tree)) s.tables) (sym h.1.schema) rows })
  where
    rows : AllByRecursion (λ t. IsNumbered (h.0.trees t.tree)) (old.schema.tables ++ record table { tree = next_tree old.schema } ∷ [])
    rows = all-append _ old.schema.tables (record table { tree = next_tree old.schema } ∷ []) (KeepsRows-IsNumbered old.schema.tables old.trees h.0.trees h.1.others kept.numbered) (subst IsNumbered (sym h.1.empty) (tt, tt), tt)

-- one table by its text, over a schema that is written out: each premise but the last two is `refl`
pub Executes-Creates_of_text : (sql : List ℕ) (schema : Schema) (table : Table) → Means schema sql CreateTable → statement_of sql (understood schema sql) ≡ sql → table_defined_by sql ≡ Ok table → lacks_sequence (created schema table) ≡ false
    → (old new : State) (count : ℕ) → old.now.schema ≡ schema → Executes sql [] old new (Ok count) → Creates old.now new.now table
Executes-Creates_of_text sql schema table means whole defined uncounted old new count is h =
    Executes-Creates sql old new table count (subst (λ s. Means s sql CreateTable) (sym is) means) (subst (λ s. statement_of sql (understood s sql) ≡ sql) (sym is) whole) defined (subst (λ s. lacks_sequence (created s table) ≡ false) (sym is) uncounted) h
