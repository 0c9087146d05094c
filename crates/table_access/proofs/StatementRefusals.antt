-- A statement that the database refuses, and that leaves the transaction open, is never out of memory.
use Rattle.std.specs.{Prelude.{MatchBool, slice_get, is_some}, Option.{option_to_list}}
use Rattle.std.proofs.Common.{inl, inr, ◌≡◌, ◌⊎◌, ℕ, ℤ, Bool, true, false, List, [], ◌∷◌, Option, Some, None, option_map, Err, refl, ap, subst, ◌∙◌}
use Rattle.sqlite_value.specs.Order.{Row}
use Rattle.sqlite_trees.specs.Tree.{Trees}
use Rattle.sqlite_schema.specs.{declared.schema.Schema.{Schema}, declared.schema.Table.{Table}, declared.schema.Keys.{Keys}, declared.program.Program.{Program}}
use Rattle.sqlite_schema.specs.{declared.command.Source.{Source}, declared.command.Conflict.{Conflict}}
use Rattle.sqlite_schema.specs.{declared.command.Conflict.TheVariants.{Abort, Ignore, Replace}, declared.command.Upsert.{Upsert}}
use Rattle.sqlite_schema.specs.{declared.command.Returning.{Returning}, declared.command.Command.{Command}}
use Rattle.sqlite_schema.specs.declared.command.Command.TheVariants.{Select, Insert, InsertOr, Update, Delete, CreateTable, CreateIndex, DropTable, DropIndex, CreateView, DropView, Rows}
use Rattle.sqlite_schema.specs.{declared.schema.Among.{Among}, Rules.{Refers}, declared.schema.Constraint.TheVariants.{ForeignKey}}
use Rattle.sqlite_rules.specs.{Edit.{Edit, edit_of}, Calls.{ids_of}, declared.error.Rowids.TheVariants.{Given}, declared.error.Refusal.{Refusal}}
use Rattle.sqlite_rules.specs.declared.error.Refusal.TheVariants.{Violates}
use Rattle.sqlite_catalog.specs.{Change.{without_index, without_view, without_table}, Calls.{RefusesToDropIndex}}
use Rattle.sqlite.specs.{declared.error.Error.{Error}, declared.error.Error.TheVariants.{SqliteFailure, InvalidQuery}, declared.run.Mode.{Mode}}
use Rattle.sqlite.specs.Effect.{Database, RefusesQuery, RefusesToRead, RefusesToAlter, IsNoText, edit_error, alter_error}
use Rattle.sqlite.specs.Rows.{Part, Gives, Refuses, Then, Queried, Sourced, Edited, Written, Task, CounterIn, Counter, CountsIn, Counts, Updates, Deletes, Inserts, Puts, Clears, Resolves, Meets, Upserts, Judged, Tries, TriesEach, InsertsOr, sequence, counting}
use Rattle.sqlite.specs.Does.{Tally, no_rows, AtPlace, MakesTable, MakesSequence, MakesIndex, MakesView, Leaves, Counted, Defines, Tested, Shows, Returns, Concludes, WritesRows, OnRows, Empties, UncountsIn, HoldWithout, Drops, OnTable, IsKeptAside, Redefines, Does}
use Rattle.table_access.specs.{Calls.{fault_of}, declared.StoreFault.TheVariants.{Store}}
use Rattle.sqlite_schema.specs.declared.command.Source.TheVariants as source
use Rattle.sqlite_catalog.specs.declared.error.Refusal as alter
use Rattle.sqlite_catalog.specs.declared.error.Refusal.TheVariants as why
use Rattle.sqlite.specs.declared.error.ErrorCode.TheVariants as code

-- each refusal of this part has the fault Store
record RefusesByStore {A : Type 0} (P : Part A) : Type 0 where
  returned : (e : Error) → P (Err (Some e)) → fault_of e ≡ Store

RefusesByStore-Gives : {A : Type 0} (a : A) → RefusesByStore (Gives a)
RefusesByStore-Gives a = record { returned = λ e h. absurd (let is = h in cc) }

RefusesByStore-Refuses : {A : Type 0} (reason : Error) → fault_of reason ≡ Store → RefusesByStore (Refuses {A = A} reason)
RefusesByStore-Refuses reason is_returned = record { returned = λ e h. let same : e ≡ reason = (let is = h in cc) in ap fault_of same ∙ is_returned }

RefusesByStore-Then : {A B : Type 0} (First : Part A) (Next : A → Part B) → RefusesByStore First → ((a : A) → RefusesByStore (Next a)) → RefusesByStore (Then First Next)
RefusesByStore-Then First Next one two = record {
  returned = λ e h. elim h [
    | inl stops ↦ let same : stops.0 ≡ Some e = (let is = stops.2 in cc) in one.returned e (subst (λ stop. First (Err stop)) same stops.1)
    | inr goes ↦ (two goes.0).returned e goes.2
  ];
}

RefusesByStore-MatchBool : {A : Type 0} (b : Bool) (P Q : Part A) → RefusesByStore P → RefusesByStore Q → RefusesByStore (λ out. MatchBool b (P out) (Q out))
RefusesByStore-MatchBool true P Q p q = record { returned = p.returned }
RefusesByStore-MatchBool false P Q p q = record { returned = q.returned }

RefusesByStore-AtPlace : {X A : Type 0} (P : X → Part A) (place : Option X) → ((x : X) → RefusesByStore (P x)) → RefusesByStore (AtPlace P place)
RefusesByStore-AtPlace P None each = RefusesByStore-Refuses InvalidQuery refl
RefusesByStore-AtPlace P (Some x) each = each x

-- ---- queries

pub RefusesQuery-Store : (limit : Option ℕ) (db : Database) (p : Program) (params : Row) (e : Error) → RefusesQuery limit db p params e → fault_of e ≡ Store
RefusesQuery-Store limit db p params e (inl h) = ap fault_of h.0
RefusesQuery-Store limit db p params e (inr (inl h)) = ap fault_of h.0
RefusesQuery-Store limit db p params e (inr (inr h)) = ap fault_of h.0

RefusesByStore-Queried : (limit : Option ℕ) (db : Database) (p : Program) (params : Row) → RefusesByStore (Queried limit db p params)
RefusesByStore-Queried limit db p params = record { returned = RefusesQuery-Store limit db p params }

RefusesByStore-Sourced : (limit : Option ℕ) (db : Database) (params : Row) (from : Source) → RefusesByStore (Sourced limit db params from)
RefusesByStore-Sourced limit db params (source.Values terms width) = record { returned = λ e h. elim h [ inl kind ↦ ap fault_of kind.0 | inr stopped ↦ ap fault_of stopped.0 ] }
RefusesByStore-Sourced limit db params (source.Query q) = record { returned = RefusesQuery-Store limit db q params }

-- a statement that shows rows
pub RefusesToRead-Store : (limit : Option ℕ) (command : Command) (db : Database) (params : Row) (e : Error) → RefusesToRead limit command db params e → fault_of e ≡ Store
RefusesToRead-Store limit (Select q names) db params e h = RefusesQuery-Store limit db q params e h
RefusesToRead-Store limit (Rows values width names) db params e h = ap fault_of h.0
RefusesToRead-Store limit _ db params e h = ap fault_of h

-- ---- rows that are written

edit_error-Store : (reason : Refusal) → fault_of (edit_error reason) ≡ Store
edit_error-Store (Violates rule) = refl
edit_error-Store _ = refl

edit_error-stop_Store : (reason : Option Refusal) (e : Error) → Some e ≡ option_map edit_error reason → fault_of e ≡ Store
edit_error-stop_Store None e is = absurd (let h = is in cc)
edit_error-stop_Store (Some reason) e is = let same : e ≡ edit_error reason = (let h = is in cc) in ap fault_of same ∙ edit_error-Store reason

RefusesByStore-Edited : (schema : Schema) (keys : Keys) (db : Trees) (edit : Edit) → RefusesByStore (Edited schema keys db edit)
RefusesByStore-Edited schema keys db edit = record { returned = λ e h. edit_error-stop_Store h.0 e h.2 }

module _ (task : Task) where
  open task use {limit, keys, schema, table, params}

  RefusesByStore-CounterIn : (db : Trees) (counters : Option Table) → RefusesByStore (CounterIn task db counters)
  RefusesByStore-CounterIn db None = RefusesByStore-Refuses InvalidQuery refl
  RefusesByStore-CounterIn db (Some counters) = RefusesByStore-Gives _

  RefusesByStore-Counter : (db : Trees) → RefusesByStore (Counter task db)
  RefusesByStore-Counter db = RefusesByStore-MatchBool table.is_counted _ _ (RefusesByStore-CounterIn db (sequence schema)) (RefusesByStore-Gives None)

  RefusesByStore-CountsIn : (db : Trees) (counter : Option Row) (top : ℤ) (counters : Option Table) → RefusesByStore (CountsIn task db counter top counters)
  RefusesByStore-CountsIn db counter top None = RefusesByStore-Refuses InvalidQuery refl
  RefusesByStore-CountsIn db counter top (Some counters) = RefusesByStore-Edited schema keys db (counting db table counters top counter)

  RefusesByStore-Counts : (db : Trees) (counter : Option Row) (top : ℤ) → RefusesByStore (Counts task db counter top)
  RefusesByStore-Counts db counter top = RefusesByStore-MatchBool _ _ _ (RefusesByStore-CountsIn db counter top (sequence schema)) (RefusesByStore-Gives db)

  RefusesByStore-Updates : (q : Program) (given : Row) (db : Trees) → RefusesByStore (Updates task q given db)
  RefusesByStore-Updates q given db = RefusesByStore-Then _ _ (RefusesByStore-Queried limit _ q given) (λ rows. RefusesByStore-Then _ _ (RefusesByStore-Edited schema keys db _) (λ next. RefusesByStore-Gives _))

  RefusesByStore-Deletes : (q : Program) (db : Trees) → RefusesByStore (Deletes task q db)
  RefusesByStore-Deletes q db = RefusesByStore-Then _ _ (RefusesByStore-Queried limit _ q params) (λ rows. RefusesByStore-Then _ _ (RefusesByStore-Edited schema keys db _) (λ next. RefusesByStore-Gives _))

  RefusesByStore-Inserts : (from : Source) (db : Trees) → RefusesByStore (Inserts task from db)
  RefusesByStore-Inserts from db = RefusesByStore-Then _ _ (RefusesByStore-Sourced limit _ _ from) (λ rows. RefusesByStore-Then _ _ (RefusesByStore-Counter db) (λ counter.
      RefusesByStore-Then _ _ (RefusesByStore-Edited schema keys db _) (λ mid. RefusesByStore-Then _ _ (RefusesByStore-Counts mid counter _) (λ next. RefusesByStore-Gives _))))

  RefusesByStore-Puts : (new : Row) (db : Trees) → RefusesByStore (Puts task new db)
  RefusesByStore-Puts new db = RefusesByStore-Then _ _ (RefusesByStore-Edited schema keys db _) (λ next. RefusesByStore-Gives _)

  RefusesByStore-Clears : (way : Conflict) (new : Row) (db : Trees) (found : List Row) → RefusesByStore (Clears task way new db found)
  RefusesByStore-Clears Ignore new db (x ∷ more) = RefusesByStore-Gives _
  RefusesByStore-Clears Replace new db (x ∷ more) = RefusesByStore-Then _ _ (RefusesByStore-Edited schema keys db _) (λ next. RefusesByStore-Puts new next)
  RefusesByStore-Clears Abort new db [] = RefusesByStore-Puts new db
  RefusesByStore-Clears _ new db _ = RefusesByStore-Puts new db

  RefusesByStore-Resolves : (new : Row) (db : Trees) (there : Row) (update : Option Program) → RefusesByStore (Resolves task new db there update)
  RefusesByStore-Resolves new db there None = RefusesByStore-Gives _
  RefusesByStore-Resolves new db there (Some q) = RefusesByStore-Updates q _ db

  RefusesByStore-Meets : (Otherwise : Part Written) (new : Row) (db : Trees) (clause : Upsert) (found : List Row) → RefusesByStore Otherwise → RefusesByStore (Meets task Otherwise new db clause found)
  RefusesByStore-Meets Otherwise new db clause [] other = other
  RefusesByStore-Meets Otherwise new db clause (there ∷ more) other = RefusesByStore-Resolves new db there clause.update

  RefusesByStore-Upserts : (way : Conflict) (new : Row) (db : Trees) (clauses : List Upsert) → RefusesByStore (Upserts task way new db clauses)
  RefusesByStore-Upserts way new db [] = record { returned = λ e h. (RefusesByStore-Clears way new db h.0).returned e h.2 }
  RefusesByStore-Upserts way new db (clause ∷ more) = record { returned = λ e h. (RefusesByStore-Meets (Upserts task way new db more) new db clause h.0 (RefusesByStore-Upserts way new db more)).returned e h.2 }

  RefusesByStore-Judged : (way : Conflict) (clauses : List Upsert) (new : Row) (db : Trees) (verdict : Option Refusal) → RefusesByStore (Judged task way clauses new db verdict)
  RefusesByStore-Judged way clauses new db None = RefusesByStore-Upserts way new db clauses
  RefusesByStore-Judged way clauses new db (Some reason) = RefusesByStore-MatchBool _ _ _ (RefusesByStore-Gives _) (RefusesByStore-Refuses (edit_error reason) (edit_error-Store reason))

  RefusesByStore-Tries : (way : Conflict) (clauses : List Upsert) (new : Row) (db : Trees) → RefusesByStore (Tries task way clauses new db)
  RefusesByStore-Tries way clauses new db = record {
    returned = λ e h. elim h [
      | inl full ↦ let same : e ≡ SqliteFailure code.NoRowid = (let is = full.1 in cc) in ap fault_of same
      | inr judged ↦ (RefusesByStore-Judged way clauses new db judged.0).returned e judged.2
    ];
  }

  RefusesByStore-TriesEach : (way : Conflict) (clauses : List Upsert) (rows : List Row) (top : ℤ) (done : Written) → RefusesByStore (TriesEach task way clauses rows top done)
  RefusesByStore-TriesEach way clauses [] top done = RefusesByStore-Gives _
  RefusesByStore-TriesEach way clauses (source ∷ more) top done = RefusesByStore-Then _ _ (RefusesByStore-Tries way clauses _ done.trees) (λ one. RefusesByStore-TriesEach way clauses more _ _)

  RefusesByStore-InsertsOr : (way : Conflict) (clauses : List Upsert) (from : Source) (db : Trees) → RefusesByStore (InsertsOr task way clauses from db)
  RefusesByStore-InsertsOr way clauses from db = RefusesByStore-Then _ _ (RefusesByStore-Sourced limit _ _ from) (λ rows. RefusesByStore-Then _ _ (RefusesByStore-Counter db) (λ counter.
      RefusesByStore-Then _ _ (RefusesByStore-TriesEach way clauses rows _ _) (λ done. RefusesByStore-Then _ _ (RefusesByStore-Counts done.0.trees counter done.1) (λ next. RefusesByStore-Gives _))))

  -- ---- the end of a statement on rows

  RefusesByStore-Tested : (mode : Mode) (Holds : Among → Type 0) → RefusesByStore (Tested mode Holds)
  RefusesByStore-Tested mode Holds = record { returned = λ e h. let same : e ≡ SqliteFailure (code.ConstraintViolation ForeignKey) = (let is = h.1 in cc) in ap fault_of same }

  RefusesByStore-Counted : (rows : List Row) → RefusesByStore (Counted limit rows)
  RefusesByStore-Counted rows = record { returned = λ e h. let same : e ≡ SqliteFailure code.OperationInterrupted = (let is = h.1 in cc) in ap fault_of same }

  RefusesByStore-Shows : (what : Returning) (now : Trees) (rows : List Row) → RefusesByStore (Shows task what now rows)
  RefusesByStore-Shows what now [] = RefusesByStore-Gives []
  RefusesByStore-Shows what now (row ∷ more) = RefusesByStore-Then _ _ (RefusesByStore-Sourced limit _ _ what.row) (λ first. RefusesByStore-Then _ _ (RefusesByStore-Shows what now more) (λ others. RefusesByStore-Gives _))

  RefusesByStore-Returns : (w : Written) (returning : Option Returning) → RefusesByStore (Returns task w returning)
  RefusesByStore-Returns w None = RefusesByStore-Gives []
  RefusesByStore-Returns w (Some what) = RefusesByStore-Then _ _ (RefusesByStore-Shows what w.trees w.rows) (λ rows. RefusesByStore-Then _ _ (RefusesByStore-Counted rows) (λ u. RefusesByStore-Gives rows))

  RefusesByStore-Concludes : (mode : Mode) (returning : Option Returning) (w : Written) → RefusesByStore (Concludes task mode returning w)
  RefusesByStore-Concludes mode returning w = RefusesByStore-Then _ _ (RefusesByStore-Tested mode (λ among. Refers among schema w.trees)) (λ in_doubt. RefusesByStore-Then _ _ (RefusesByStore-Returns w returning) (λ rows. RefusesByStore-Gives _))

  RefusesByStore-Empties : (db : Trees) → RefusesByStore (Empties task db)
  RefusesByStore-Empties db = RefusesByStore-MatchBool _ _ _ (RefusesByStore-Edited schema keys db (edit_of db table (ids_of (db table.tree)) Given 0 [])) (RefusesByStore-Gives db)

  RefusesByStore-UncountsIn : (db : Trees) (counters : Option Table) → RefusesByStore (UncountsIn task db counters)
  RefusesByStore-UncountsIn db None = RefusesByStore-Gives db
  RefusesByStore-UncountsIn db (Some counters) = RefusesByStore-Then _ _ (RefusesByStore-Counter db) (λ counter. RefusesByStore-Edited schema keys db (edit_of db counters (ids_of (option_to_list counter)) Given 0 []))

  RefusesByStore-Drops : (mode : Mode) (db : Trees) → RefusesByStore (Drops task mode db)
  RefusesByStore-Drops mode db = RefusesByStore-Then _ _ (RefusesByStore-Empties db) (λ emptied. RefusesByStore-Then _ _ (RefusesByStore-UncountsIn emptied _) (λ now. RefusesByStore-Then _ _ (RefusesByStore-Tested mode (HoldWithout task now)) (λ in_doubt.
      RefusesByStore-Then (Leaves (without_table schema table.tree) now (λ _. ⊥)) _ (record { returned = λ e none. absurd none }) (λ after. RefusesByStore-Gives _))))

-- ---- the schema

alter_error-Store : (reason : alter.Refusal) → fault_of (alter_error reason) ≡ Store
alter_error-Store (why.Invalid e) = refl
alter_error-Store _ = refl

RefusesToAlter-Store : (Refuses : alter.Refusal → Type 0) (e : Error) → RefusesToAlter Refuses e → fault_of e ≡ Store
RefusesToAlter-Store Refuses e h = ap fault_of h.2 ∙ alter_error-Store h.0

RefusesToAlter-Store_or_no_text : (text : List ℕ) (Refuses : alter.Refusal → Type 0) (e : Error) → IsNoText text e ⊎ RefusesToAlter Refuses e → fault_of e ≡ Store
RefusesToAlter-Store_or_no_text text Refuses e (inl h) = ap fault_of h.1
RefusesToAlter-Store_or_no_text text Refuses e (inr h) = RefusesToAlter-Store Refuses e h

RefusesByStore-MakesTable : (text : List ℕ) (db : Database) → RefusesByStore (MakesTable text db)
RefusesByStore-MakesTable text db = record { returned = RefusesToAlter-Store_or_no_text text _ }

RefusesByStore-MakesSequence : (db : Database) → RefusesByStore (MakesSequence db)
RefusesByStore-MakesSequence db = RefusesByStore-MatchBool _ _ _ (RefusesByStore-MakesTable _ db) (RefusesByStore-Gives db)

RefusesByStore-Defines : (mode : Mode) (Makes : Part Database) → RefusesByStore Makes → RefusesByStore (Defines mode Makes)
RefusesByStore-Defines mode Makes makes = RefusesByStore-Then Makes (λ after. Gives (no_rows mode.in_doubt, after)) makes (λ after. RefusesByStore-Gives (no_rows mode.in_doubt, after))

-- ---- a whole command

RefusesByStore-WritesRows : (task : Task) (db : Trees) (command : Command) → RefusesByStore (WritesRows task db command)
RefusesByStore-WritesRows task db (Insert at from) = RefusesByStore-Inserts task from db
RefusesByStore-WritesRows task db (InsertOr at way from clauses) = RefusesByStore-InsertsOr task way clauses from db
RefusesByStore-WritesRows task db (Update at q) = RefusesByStore-Updates task q task.params db
RefusesByStore-WritesRows task db (Delete at q) = RefusesByStore-Deletes task q db
RefusesByStore-WritesRows task db _ = RefusesByStore-Refuses InvalidQuery refl

module _ (limit : Option ℕ) (mode : Mode) (params : Row) (db : Database) where
  RefusesByStore-OnTable : (at : ℕ) (P : Task → Part (Tally × Database)) → ((task : Task) → RefusesByStore (P task)) → RefusesByStore (OnTable limit mode params db at P)
  RefusesByStore-OnTable at P each = RefusesByStore-AtPlace _ (slice_get db.schema.tables at) (λ table. each _)

  RefusesByStore-OnRows : (at : ℕ) (returning : Option Returning) (command : Command) → RefusesByStore (OnTable limit mode params db at (λ task. OnRows task mode returning command db.trees))
  RefusesByStore-OnRows at returning command = RefusesByStore-OnTable at _ (λ task. RefusesByStore-Then _ _ (RefusesByStore-WritesRows task db.trees command) (RefusesByStore-Concludes task mode returning))

  RefusesByStore-Redefines : (text : List ℕ) (command : Command) → RefusesByStore (Redefines limit mode params db text command)
  RefusesByStore-Redefines text CreateTable = RefusesByStore-Defines mode _ (RefusesByStore-Then _ _ (RefusesByStore-MakesTable text db) RefusesByStore-MakesSequence)
  RefusesByStore-Redefines text (CreateIndex at) = RefusesByStore-OnTable at _ (λ task. RefusesByStore-Defines mode (MakesIndex text db task.table) (record { returned = λ e h. RefusesToAlter-Store_or_no_text text _ e h }))
  RefusesByStore-Redefines text CreateView = RefusesByStore-Defines mode (MakesView text db) (record { returned = λ e h. RefusesToAlter-Store_or_no_text text _ e h })
  RefusesByStore-Redefines text (DropTable at) = RefusesByStore-OnTable at _ (λ task. RefusesByStore-Drops task mode db.trees)
  RefusesByStore-Redefines text (DropIndex at) = RefusesByStore-AtPlace _ (slice_get db.schema.indexes at) (λ index. RefusesByStore-Defines mode (Leaves (without_index db.schema index.tree) db.trees (RefusesToAlter (RefusesToDropIndex index))) (record { returned = RefusesToAlter-Store (RefusesToDropIndex index) }))
  RefusesByStore-Redefines text (DropView at) = RefusesByStore-AtPlace _ (slice_get db.schema.views at) (λ view. RefusesByStore-Defines mode (Leaves (without_view db.schema view.tree) db.trees (IsKeptAside view)) (record { returned = λ e h. ap fault_of h.1 }))
  RefusesByStore-Redefines text _ = RefusesByStore-Refuses InvalidQuery refl

  pub Does-Store : (text : List ℕ) (returning : Option Returning) (command : Command) (e : Error) → Does limit mode params db text returning command (Err (Some e)) → fault_of e ≡ Store
  Does-Store text returning (Insert at from) e h = (RefusesByStore-OnRows at returning (Insert at from)).returned e h
  Does-Store text returning (InsertOr at way from clauses) e h = (RefusesByStore-OnRows at returning (InsertOr at way from clauses)).returned e h
  Does-Store text returning (Update at q) e h = (RefusesByStore-OnRows at returning (Update at q)).returned e h
  Does-Store text returning (Delete at q) e h = (RefusesByStore-OnRows at returning (Delete at q)).returned e h
  Does-Store text returning command e h = (RefusesByStore-MatchBool (is_some returning) _ _ (RefusesByStore-Refuses InvalidQuery refl) (RefusesByStore-Redefines text command)).returned e h
