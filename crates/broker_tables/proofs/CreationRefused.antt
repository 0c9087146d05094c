-- CREATE TABLE and CREATE INDEX are refused by nothing while the store works, if the text defines what it makes, the names
-- are free and the schema has room.
use Rattle.std.specs.{Prelude.{IsUtf8}, List.{list_any, list_all}}
use Rattle.std.proofs.Common.{◌≡◌, ◌⊎◌, inl, inr, ◌≤◌, ◌<◌, ◌+◌, ◌*◌, ◌^◌, ℕ, List, [], length, slice_get, codes, true, false, not, ◌&&◌, nat_lt, Some, None, Option, Ok, Err, refl, sym, ap, subst, ◌∙◌, ◌==◌, arith}
use Rattle.std.proofs.{lemmas.Bool.{both_ways, ltb-true}, lemmas.List.Elements.{All-from_recursion}, lemmas.Str.{IsUtf8-from_ascii}}
use Rattle.std.proofs.lemmas.Str.Ascii.{IsAscii-from_all}
use Rattle.sqlite.specs.{Order.{Row}, Schema.{Schema}, Table.{Table}, Command.{Command}, Command.TheVariants.{CreateTable, CreateIndex}}
use Rattle.sqlite.specs.{Compile.{table_defined_by}, declared.error.Error.{Error}, declared.types.Value.TheVariants.{Text}}
use Rattle.sqlite.specs.{Effect.{Database, IsDatabase, is_query}, Change.{next_tree, is_used, is_reserved, automatics, created, indexed}}
use Rattle.sqlite.specs.{Does.{Does, Defines, MakesTable, MakesIndex, AtPlace, lacks_sequence}, State.{State, Executes, Fails, is_pragma, mode_of}}
use Rattle.sqlite.{specs.Listing.{understood}, proofs.Callers.{statement_of}}
use Rattle.sqlite_catalog.specs.{Listing.{is_fit, is_formed}, Calls.{RefusesTable, RefusesIndex}, declared.error.Refusal.{Refusal}}
use Rattle.sqlite_catalog.specs.declared.error.Refusal.TheVariants.{Invalid, NameTaken, BadName, TooBig, BadKey, BadText, Violates}
use Rattle.sqlite_resolve.specs.Compile.{index_defined_by}
use Rattle.sqlite_rules.{specs.Lists.{Has}, proofs.ListLemmas.{some_from, test_has, test_push}}
use Rattle.sqlite_schema.specs.{declared.schema.Index.{Index}, declared.schema.Constraint.TheVariants.{Unique}}
use Rattle.sqlite_schema.specs.Rules.{Keeps, guards, clashes, table_reals, index_reals}
use Rattle.sqlite_trees.specs.View.{IsStorable}
use Rattle.sqlite_sql.specs.Catalog.{entry_of}
use Rattle.table_access.proofs.Answered.{is_whole}
use Rattle.table_access.proofs.Refused.{EndsAs-stopped, Fails-weaken, IsMisplaced-never_anywhere, is_anywhere, Executes-change_fails, Ends}
use Rattle.table_access.proofs.{SoundLemmas.{all_of, at_has}, Steps.{Means}, Storable.{index_reals-zero, entry_of-IsStorable}}
use Rattle.broker_tables.specs.{Schema.{all_indexes}, Making.{AreShortKeys}}

-- ---- a statement whose text is known

-- the whole text is this statement without parameters
pub record IsAlone (schema : Schema) (sql : List ℕ) (command : Command) : Type 0 where
  pub means : Means schema sql command
  pub whole : is_whole sql 0 (understood schema sql) ≡ true
  pub text : statement_of sql (understood schema sql) ≡ sql

-- if nothing stops its command, it fails only as the store fails
Executes-text_fails : (sql : List ℕ) (old new : State) (command : Command) → IsAlone old.now.schema sql command → is_query command ≡ false → is_pragma command ≡ false
    → is_anywhere command ≡ true → ((stop : Option Error) → ¬ Does old.step_limit (mode_of old) [] old.now sql None command (Err stop))
    → (e : Error) → Executes sql [] old new (Err e) → Fails old new ⊥ e
Executes-text_fails sql old new command it quiet plain anywhere never e h =
    let none : (stop : Option Error) → ¬ Ends sql [] old new command (λ e. ⊥) stop =
    λ stop does. never stop (subst (λ t. Does old.step_limit (mode_of old) [] old.now t None command (Err stop)) it.text does) in
    elim (Executes-change_fails sql [] old new command (λ e. ⊥) it.means it.whole quiet plain (λ e is same. IsMisplaced-never_anywhere old command anywhere e is)
    (λ e writes. none (Some e)) e h) [
      | inl fails ↦ Fails-weaken old new e (none None) fails
      | inr is ↦ absurd is
    ]

-- ---- what a text may define

IsUtf8-ascii : (text : List ℕ) → list_all (λ c. nat_lt c 128) text ≡ true → IsUtf8 text
IsUtf8-ascii text low = IsUtf8-from_ascii text (IsAscii-from_all text (All-from_recursion _ text (all_of (λ c. c < 128) text (λ c has. ltb-true c 128 (test_has (λ c. nat_lt c 128) text c low has)))))

-- The text and the name are short and of ASCII letters, the name is free and none of SQLite's own, and the schema has room.
-- Each field is `refl` for what is written out, under `unfolding everything`.
pub record IsNew (schema : Schema) (sql name : List ℕ) (more : ℕ) : Type 0 where
  pub written : list_all (λ c. nat_lt c 128) sql ≡ true
  pub named : list_all (λ c. nat_lt c 128) name ≡ true
  pub free : is_used schema name ≡ false
  pub own : is_reserved name ≡ false
  pub room : nat_lt (next_tree schema + more) 65536 ≡ true
  pub short : nat_lt (2 * length name + length sql) 10000 ≡ true

-- The text is a statement over the schema that makes the table, and so can be run there.
pub record DefinesTable (schema : Schema) (sql : List ℕ) (table : Table) : Type 0 where
  pub alone : IsAlone schema sql CreateTable
  pub defined : table_defined_by sql ≡ Ok table
  pub uncounted : lacks_sequence (created schema table) ≡ false
  pub new : IsNew schema sql table.name (length table.uniques)
  pub keys_free : list_any (λ i. is_used schema i.name) (automatics table 0 0 table.uniques) ≡ false
  pub formed : is_formed table ≡ true
  pub fit : is_fit (Text (codes "table")) (Text table.name) (Text table.name) (Text sql) ≡ true
  pub whole_numbers : table_reals table ≡ 0

-- likewise the index of this table, which is one of the broker's and has few columns
pub record DefinesIndex (schema : Schema) (sql : List ℕ) (one : Table × Index) : Type 0 where
  pub at : ℕ
  pub alone : IsAlone schema sql (CreateIndex at)
  pub there : slice_get schema.tables at ≡ Some one.0
  pub defined : index_defined_by one.0 sql ≡ Ok one.1
  pub new : IsNew schema sql one.1.name (length one.0.name)
  pub parent : list_all (λ c. nat_lt c 128) one.0.name ≡ true
  pub fit : is_fit (Text (codes "index")) (Text one.1.name) (Text one.0.name) (Text sql) ≡ true
  pub whole_numbers : table_reals one.0 ≡ 0
  pub repeats : one.1.is_unique ≡ false
  pub known : Has all_indexes one
  pub few : nat_lt (length one.1.columns) 12 ≡ true

-- ---- CREATE TABLE

module _ (sql : List ℕ) (old new : State) (table : Table) (it : DefinesTable old.now.schema sql table) where
  -- what is refused of a table that the text defines, is refused of this one
  table_defined_by-unique : (P : Table → Type 0) → (t : Table) × (table_defined_by sql ≡ Ok t) × P t → P table
  table_defined_by-unique P (t, is, p) = let both : Ok t ≡ Ok table = sym is ∙ it.defined in let same : t ≡ table = cc in subst P same p

  RefusesTable-never : (why : Refusal) → ¬ RefusesTable old.now.schema sql why
  RefusesTable-never (Invalid e) h = let clash = sym it.defined ∙ h in cc
  RefusesTable-never NameTaken h = elim (table_defined_by-unique (λ t. (is_used old.now.schema t.name ≡ true) ⊎ ((i : Index) × Has (automatics t 0 0 t.uniques) i × (is_used old.now.schema i.name ≡ true))) h) [
    | inl used ↦ both_ways _ it.new.free used
    | inr key ↦ both_ways _ it.keys_free (some_from (λ i. is_used old.now.schema i.name) (automatics table 0 0 table.uniques) key.0 key.1 key.2)
  ]
  RefusesTable-never BadName h = elim (table_defined_by-unique (λ t. (¬ IsUtf8 t.name) ⊎ ((is_reserved t.name ≡ true) × ((length t.uniques == 0) ≡ false))) h) [
    | inl bad ↦ bad (IsUtf8-ascii table.name it.new.named)
    | inr own ↦ both_ways _ it.new.own own.0
  ]
  RefusesTable-never TooBig h = elim (table_defined_by-unique (λ t. (65536 ≤ next_tree old.now.schema + length t.uniques) ⊎ ((2 ^ 64 ≤ table_reals t) ⊎ ((key : List ℕ) × Has t.uniques key × (2 ^ 64 ≤ index_reals (table_reals t) key)))) h) [
    | inl full ↦ omega (arith, full, ltb-true (next_tree old.now.schema + length table.uniques) 65536 it.new.room)
    | inr wide ↦ elim wide [
      | inl reals ↦ omega (arith, reals, it.whole_numbers)
      | inr key ↦ omega (arith, key.2, ap (λ r. index_reals r key.0) it.whole_numbers ∙ index_reals-zero key.0)
    ]
  ]
  RefusesTable-never BadKey h = both_ways _ (table_defined_by-unique (λ t. is_formed t ≡ false) h) it.formed
  RefusesTable-never BadText h = both_ways _ (table_defined_by-unique (λ t. is_fit (Text (codes "table")) (Text t.name) (Text t.name) (Text sql) ≡ false) h) it.fit
  RefusesTable-never (Violates rule) h = h

  MakesTable-never_stops : (stop : Option Error) → ¬ MakesTable sql old.now (Err stop)
  MakesTable-never_stops None h = omega (arith, table_defined_by-unique (λ t. 10 ^ 9 ≤ 2 * length t.name + length sql + 200) h, ltb-true (2 * length table.name + length sql) 10000 it.new.short)
  MakesTable-never_stops (Some e) (inl bad) = bad.0 (IsUtf8-ascii sql it.new.written)
  MakesTable-never_stops (Some e) (inr refused) = RefusesTable-never refused.0 refused.1

  -- tables without AUTOINCREMENT need no other one
  uncounted : (after : Database) → MakesTable sql old.now (Ok after) → lacks_sequence after.schema ≡ false
  uncounted after made = table_defined_by-unique (λ t. lacks_sequence (created old.now.schema t) ≡ false → lacks_sequence after.schema ≡ false)
      (made.table, made.defined, λ none. ap lacks_sequence made.is ∙ none) it.uncounted

  pub Executes-table_fails : (e : Error) → Executes sql [] old new (Err e) → Fails old new ⊥ e
  Executes-table_fails = Executes-text_fails sql old new CreateTable it.alone refl refl refl (λ stop h. elim (EndsAs-stopped stop h) [
    | inl making ↦ elim (EndsAs-stopped stop making) [
      | inl made ↦ MakesTable-never_stops stop made
      | inr counts ↦ absurd (let plain = uncounted counts.0 counts.1 in let given = (rw plain at counts.2) in cc)
    ]
    | inr noted ↦ absurd (let given = noted.2 in cc)
  ])

-- ---- CREATE INDEX

module _ (sql : List ℕ) (old new : State) (one : Table × Index) (it : DefinesIndex old.now.schema sql one) (sound : IsDatabase old.now) (short : AreShortKeys old.now.trees one) where
  index_defined_by-unique : (P : Index → Type 0) → (i : Index) × (index_defined_by one.0 sql ≡ Ok i) × P i → P one.1
  index_defined_by-unique P (i, is, p) = let both : Ok i ≡ Ok one.1 = sym is ∙ it.defined in let same : i ≡ one.1 = cc in subst P same p

  -- an index that isn't UNIQUE asks nothing of rows
  Keeps-Unique_indexed : Keeps Unique (indexed old.now.schema one.0 one.1) old.now.trees
  Keeps-Unique_indexed = all_of _ old.now.schema.tables (λ t known. all_of _ (old.now.trees t.tree) (λ row has.
      let was = at_has _ (old.now.trees t.tree) row (at_has _ old.now.schema.tables t (sound.obeys.rules Unique) known) has in
      test_push (λ i. not (guards i t && clashes i.order i.columns (old.now.trees t.tree) row)) old.now.schema.indexes (record one.1 { tree = next_tree old.now.schema; table = one.0.tree }) was
      (ap (λ b. not ((b && (one.0.tree == t.tree)) && clashes one.1.order one.1.columns (old.now.trees t.tree) row)) it.repeats)))

  RefusesIndex-never : (why : Refusal) → ¬ RefusesIndex old.now.schema old.now.trees one.0 sql why
  RefusesIndex-never (Invalid e) h = let clash = sym it.defined ∙ h in cc
  RefusesIndex-never NameTaken h = both_ways _ it.new.free (index_defined_by-unique (λ i. is_used old.now.schema i.name ≡ true) h)
  RefusesIndex-never BadName h = elim (index_defined_by-unique (λ i. ((¬ IsUtf8 i.name) ⊎ ((is_reserved i.name ≡ true) × (false ≡ false))) ⊎ (¬ IsUtf8 one.0.name)) h) [
    | inl name ↦ elim name [ inl bad ↦ bad (IsUtf8-ascii one.1.name it.new.named) | inr own ↦ both_ways _ it.new.own own.0 ]
    | inr bad ↦ bad (IsUtf8-ascii one.0.name it.parent)
  ]
  RefusesIndex-never TooBig h = elim (index_defined_by-unique (λ i. (65536 ≤ next_tree old.now.schema) ⊎ ((2 ^ 64 ≤ table_reals one.0) ⊎ (2 ^ 64 ≤ index_reals (table_reals one.0) i.columns))) h) [
    | inl full ↦ omega (arith, full, ltb-true (next_tree old.now.schema + length one.0.name) 65536 it.new.room)
    | inr wide ↦ elim wide [
      | inl reals ↦ omega (arith, reals, it.whole_numbers)
      | inr key ↦ omega (arith, key, ap (λ r. index_reals r one.1.columns) it.whole_numbers ∙ index_reals-zero one.1.columns)
    ]
  ]
  RefusesIndex-never BadKey h = h
  RefusesIndex-never BadText h = both_ways _ (index_defined_by-unique (λ i. is_fit (Text (codes "index")) (Text i.name) (Text one.0.name) (Text sql) ≡ false) h) it.fit
  RefusesIndex-never (Violates rule) h = index_defined_by-unique (λ i. ¬ Keeps Unique (indexed old.now.schema one.0 i) old.now.trees) (h.0, h.1, h.3) Keeps-Unique_indexed

  MakesIndex-never_stops : (stop : Option Error) → ¬ MakesIndex sql old.now one.0 (Err stop)
  MakesIndex-never_stops None h = elim (index_defined_by-unique (λ i. (10 ^ 9 ≤ length i.name + length one.0.name + length sql + 200) ⊎ ((row : Row) × Has (old.now.trees one.0.tree) row × ¬ IsStorable (index_reals (table_reals one.0) i.columns) (entry_of i.columns row))) h) [
    | inl long ↦ omega (arith, long, ltb-true (2 * length one.1.name + length sql) 10000 it.new.short, ltb-true (next_tree old.now.schema + length one.0.name) 65536 it.new.room)
    | inr row ↦ row.2 (entry_of-IsStorable one.0 one.1.columns row.0 it.whole_numbers (ltb-true _ 12 it.few) (at_has _ (old.now.trees one.0.tree) row.0 short row.1))
  ]
  MakesIndex-never_stops (Some e) (inl bad) = bad.0 (IsUtf8-ascii sql it.new.written)
  MakesIndex-never_stops (Some e) (inr refused) = RefusesIndex-never refused.0 refused.1

  pub Executes-index_fails : (e : Error) → Executes sql [] old new (Err e) → Fails old new ⊥ e
  Executes-index_fails = Executes-text_fails sql old new (CreateIndex it.at) it.alone refl refl refl
      (λ stop h. elim (EndsAs-stopped stop (subst (λ o. AtPlace (λ t. Defines (mode_of old) (MakesIndex sql old.now t)) o (Err stop)) it.there h)) [
        | inl made ↦ MakesIndex-never_stops stop made
        | inr noted ↦ absurd (let given = noted.2 in cc)
      ])
