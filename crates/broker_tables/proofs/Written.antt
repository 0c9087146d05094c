-- Texts that make tables or indexes, run one after another.
use Rattle.std.specs.Prelude.{⊤}
use Rattle.std.proofs.Common.{◌≡◌, ℕ, List, [], ◌∷◌, ◌++◌, map, fold, take, length, get_or, ◌<◌, ◌+◌, Bor, Ok, refl, sym, ap, ap₂, subst, subst₂, ◌∙◌}
use Rattle.std.proofs.{lemmas.List.{map-append, append_assoc, take_more}, lemmas.List.Sums.{fold-append}}
use Rattle.sqlite.specs.{Table.{Table}, Schema.{Schema}, Change.{created}, Effect.{Database}, State.{State, Executes}}
use Rattle.sqlite_schema.specs.declared.schema.Index.{Index}
use Rattle.table_access.specs.Statements.{Creates, IndexesTable, MakesEach, with_index}
use Rattle.table_access.proofs.{Creation.{Executes-Creates_of_text, MakesEach-schema, MakesEach-append}, Indexing.{Executes-Indexes_of_text}}
use Rattle.broker_tables.specs.{Schema.{no_schema, schema_of, all_tables}, Making.{Maker, makes_of, texts_of, MakesPart, MakesTexts, table_texts, index_texts}}
use Rattle.broker_tables.proofs.CreationRefused.{DefinesTable, DefinesIndex}

-- a list of images that has a last one
map-last : {A B : Type 0} (f : A → B) (bs : List B) (b : B) (all : List A) → bs ++ b ∷ [] ≡ map f all
    → (front : List A) × (last : A) × (all ≡ front ++ last ∷ []) × (bs ≡ map f front) × (b ≡ f last)
map-last f [] b (a ∷ []) e = ([], a, refl, refl, cc)
map-last f (x ∷ bs) b (a ∷ all) e =
    let head : x ≡ f a = cc in
    let more : bs ++ b ∷ [] ≡ map f all = cc in
    let it = map-last f bs b all more in
    (a ∷ it.0, it.1, ap (λ xs. a ∷ xs) it.2, ap₂ (λ y ys. y ∷ ys) head it.3, it.4)
map-last f _ b _ e = absurd cc

-- one text more of a list of texts
pub map-take_texts : (texts : List (Bor (List ℕ))) (at : ℕ) (d : Bor (List ℕ)) → at < length texts → map (λ text. text.now) (take (at + 1) texts) ≡ map (λ text. text.now) (take at texts) ++ (get_or texts at d).now ∷ []
map-take_texts texts at d low = ap (map (λ text. text.now)) (take_more texts at d low) ∙ map-append (λ text. text.now) (take at texts) (get_or texts at d ∷ [])

module _ {X : Type 0} (One : Database → Database → X → Type 0) (next : Schema → X → Schema) (Defines : Schema → List ℕ → X → Type 0)
    (law : (old new : Database) (x : X) → One old new x → new.schema ≡ next old.schema x)
    (runs : (s : Schema) (sql : List ℕ) (x : X) → Defines s sql x → (old new : State) (count : ℕ) → old.now.schema ≡ s → Executes sql [] old new (Ok count) → One old.now new.now x) where
  -- each text defines what it makes, over the schema of those before it
  abbrev pub AreDefined : Schema → List (Maker X) → Type 0
  AreDefined s [] = ⊤
  AreDefined s (maker ∷ more) = Defines s maker.0 maker.1 × AreDefined (next s maker.1) more

  AreDefined-Defines : (s : Schema) (before after : List (Maker X)) (maker : Maker X) → AreDefined s (before ++ maker ∷ after) → Defines (fold next s (makes_of before)) maker.0 maker.1
  AreDefined-Defines s [] after maker all = all.0
  AreDefined-Defines s (first ∷ before) after maker all = AreDefined-Defines (next s first.1) before after maker all.1

  -- what these texts and one more make follows on what those before them made: the last of them defines what is made next
  pub MakesPart-next : (start : Schema) (all : List (Maker X)) → AreDefined start all → (texts : List (List ℕ)) (sql : List ℕ) (old mid : Database) → MakesPart One next start all texts old mid
      → (before part after : List (Maker X)) → all ≡ before ++ part ++ after → texts ++ sql ∷ [] ≡ texts_of part → old.schema ≡ fold next start (makes_of before)
      → (front : List (Maker X)) × (last : Maker X) × (part ≡ front ++ last ∷ []) × MakesEach One (makes_of front) old mid × Defines mid.schema sql last.1
  MakesPart-next start all defined texts sql old mid made before part after is text there =
      let it = map-last (λ maker. maker.0) texts sql part text in
      let front = it.0 in
      let last = it.1 in
      let rest : all ≡ (before ++ front) ++ last ∷ after =
      is ∙ ap (λ xs. (before ++ xs) ++ after) it.2 ∙ ap (λ xs. xs ++ after) (sym (append_assoc before front (last ∷ []))) ∙ append_assoc (before ++ front) (last ∷ []) after in
      let so_far : MakesEach One (makes_of front) old mid = made before front (last ∷ after) rest it.3 there in
      let schema : mid.schema ≡ fold next start (makes_of (before ++ front)) =
      MakesEach-schema One next law (makes_of front) old mid so_far ∙ ap (λ s. fold next s (makes_of front)) there
      ∙ sym (fold-append next start (makes_of before) (makes_of front)) ∙ ap (fold next start) (sym (map-append (λ maker. maker.1) before front)) in
      let known = AreDefined-Defines start (before ++ front) after last (subst (AreDefined start) rest defined) in
      (front, last, it.2, so_far, subst₂ (λ s t. Defines s t last.1) (sym schema) (sym it.4) known)

  -- one text more is run
  MakesPart-one_more : (start : Schema) (all : List (Maker X)) → AreDefined start all → (texts : List (List ℕ)) (sql : List ℕ) (old : Database) (mid new : State) (count : ℕ)
      → MakesPart One next start all texts old mid.now → Executes sql [] mid new (Ok count) → MakesPart One next start all (texts ++ sql ∷ []) old new.now
  MakesPart-one_more start all defined texts sql old mid new count made ran before part after is text there =
      let it = MakesPart-next start all defined texts sql old mid.now made before part after is text there in
      subst (λ xs. MakesEach One xs old new.now) (sym (ap makes_of it.2 ∙ map-append (λ maker. maker.1) it.0 (it.1 ∷ [])))
      (MakesEach-append One (makes_of it.0) (it.1.1 ∷ []) old mid.now new.now it.3 (new.now, runs mid.now.schema sql it.1.1 it.4 mid new count refl ran, refl))

  MakesPart-none : (start : Schema) (all : List (Maker X)) (db : Database) → MakesPart One next start all [] db db
  MakesPart-none start all db before [] after is text there = refl
  MakesPart-none start all db before (maker ∷ part) after is text there = absurd cc

-- ---- tables and indexes

pub Creates-schema : (old new : Database) (table : Table) → Creates old new table → new.schema ≡ created old.schema table
Creates-schema old new table made = made.schema

pub DefinesTable-Creates : (s : Schema) (sql : List ℕ) (table : Table) → DefinesTable s sql table → (old new : State) (count : ℕ) → old.now.schema ≡ s → Executes sql [] old new (Ok count) → Creates old.now new.now table
DefinesTable-Creates s sql table it = Executes-Creates_of_text sql s table it.alone.means it.alone.text it.defined it.uncounted

abbrev pub AreDefinedTables : Schema → List (Maker Table) → Type 0
AreDefinedTables = AreDefined Creates created DefinesTable Creates-schema DefinesTable-Creates

pub IndexesTable-schema : (old new : Database) (one : Table × Index) → IndexesTable old new one → new.schema ≡ with_index old.schema one
IndexesTable-schema old new one made = made.schema

pub DefinesIndex-IndexesTable : (s : Schema) (sql : List ℕ) (one : Table × Index) → DefinesIndex s sql one → (old new : State) (count : ℕ) → old.now.schema ≡ s → Executes sql [] old new (Ok count) → IndexesTable old.now new.now one
DefinesIndex-IndexesTable s sql one it = Executes-Indexes_of_text sql s it.at one.0 one.1 it.alone.means it.alone.text it.there it.defined

abbrev pub AreDefinedIndexes : Schema → List (Maker (Table × Index)) → Type 0
AreDefinedIndexes = AreDefined IndexesTable with_index DefinesIndex IndexesTable-schema DefinesIndex-IndexesTable

pub MakesTexts-none : (db : Database) → MakesTexts [] db db
MakesTexts-none db = (MakesPart-none Creates created DefinesTable Creates-schema DefinesTable-Creates no_schema table_texts db, MakesPart-none IndexesTable with_index DefinesIndex IndexesTable-schema DefinesIndex-IndexesTable (schema_of all_tables) index_texts db)

module _ (tables : AreDefinedTables no_schema table_texts) (indexes : AreDefinedIndexes (schema_of all_tables) index_texts) where
  -- one text more is run
  pub MakesTexts-one_more : (texts : List (List ℕ)) (sql : List ℕ) (old : Database) (mid new : State) (count : ℕ) → MakesTexts texts old mid.now → Executes sql [] mid new (Ok count) → MakesTexts (texts ++ sql ∷ []) old new.now
  MakesTexts-one_more texts sql old mid new count made ran = (
    MakesPart-one_more Creates created DefinesTable Creates-schema DefinesTable-Creates no_schema table_texts tables texts sql old mid new count made.0 ran,
    MakesPart-one_more IndexesTable with_index DefinesIndex IndexesTable-schema DefinesIndex-IndexesTable (schema_of all_tables) index_texts indexes texts sql old mid new count made.1 ran,
  )
