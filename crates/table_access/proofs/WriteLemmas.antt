-- With any schema, a text that writes rows or makes a table or an index commits nothing inside a transaction.
use Rattle.std.specs.Option.{option_or}
use Rattle.std.proofs.Common.{inl, inr, ◌≡◌, ◌∙◌, ◌==◌, ◌+◌, Option, ℕ, length, Bool, true, false, cond, List, [], Ok, Err, IsTrue, refl, subst, not, ◌&&◌}
use Rattle.std.proofs.lemmas.Bool.{cases_Bool}
use Rattle.sqlite_ast.specs.{declared.Expr.{Expr}, declared.Rows.{Rows}, declared.Upsert.{Upsert}, declared.Statement.{Statement}}
use Rattle.sqlite_ast.specs.{declared.CreateTable.{CreateTable as NewTable}, declared.CreateIndex.{CreateIndex as NewIndex}}
use Rattle.sqlite_schema.specs.{Names.{table_named, view_named, index_named}, declared.schema.Schema.{Schema}, declared.command.Command.{Command}}
use Rattle.sqlite_schema.specs.declared.command.Command.TheVariants.{Insert, InsertOr, Update, Delete, CreateTable, CreateIndex, Nothing}
use Rattle.sqlite_schema.specs.{declared.command.Conflict.{Conflict}, declared.schema.Table.{Table}, declared.command.Returning.{Returning}}
use Rattle.sqlite_resolve.specs.{declared.error.CompileError.TheVariants.{Unsupported}, declared.compiled.Compiled.{Compiled}, Lowering.{Checked, and_then}}
use Rattle.sqlite_resolve.specs.Scope.{Name}
use Rattle.sqlite_resolve.specs.Compile.{first, compiled, planned, meaning, command, insert, insert_or, insert_or_abort, update, delete, create_table, create_index, is_reserved, creates, is_attached, with_command, on_table, target, new_rows, small}
use Rattle.sqlite_resolve.specs.{Body.{table_at}, Program.{program}, Write.{updated, deleted}, Given.{upserts}}
use Rattle.sqlite_syntax.specs.declared.statement.Parsed.{Parsed}
use Rattle.table_access.specs.Writes.{writes, IsWriteText}
use Rattle.sqlite.specs.{Order.{Row}, Tree.{Trees}, Listing.{understood, reads_listing, if_select, listing_schema, is_select}}
use Rattle.sqlite.specs.State.{State, CommitsBy, Executes, ExecutesIn, Runs, Shows, shows_rows}
use Rattle.sqlite_ast.specs.declared.Conflict.TheVariants as conflict
use Rattle.sqlite_resolve.specs.Define as define
use Rattle.sqlite_ast.specs.declared.Statement.TheVariants as written
use Rattle.sqlite_resolve.specs.Compile
use Rattle.sqlite_schema.specs.declared.command.Conflict.TheVariants as how

abbrev is_write : Command → Bool
is_write (Insert at s) = true
is_write (InsertOr at way s found) = true
is_write (Update at p) = true
is_write (Delete at p) = true
is_write CreateTable = true
is_write (CreateIndex at) = true
is_write Nothing = true
is_write _ = false

-- so it ends no transaction
abbrev EndsNothing : Command → Type 0
EndsNothing c = is_write c ≡ true

abbrev Yields : {A : Type 0} → (A → Type 0) → Checked A → Type 0
Yields P (Ok a) = P a
Yields P (Err e) = Unit {0}

Yields-and_then : {A B : Type 0} (r : Checked A) (f : A → Checked B) (P : A → Type 0) (Q : B → Type 0) → Yields P r → ((a : A) → P a → Yields Q (f a)) → Yields Q (and_then r f)
Yields-and_then (Ok a) f P Q h go = go a h
Yields-and_then (Err e) f P Q h go = tt

Yields-and_then_any : {A B : Type 0} (r : Checked A) (f : A → Checked B) (Q : B → Type 0) → ((a : A) → Yields Q (f a)) → Yields Q (and_then r f)
Yields-and_then_any (Ok a) f Q go = go a
Yields-and_then_any (Err e) f Q go = tt

on_table-EndsNothing : (schema : Schema) (name : Name) (f : ℕ → Table → Checked Command) → ((at : ℕ) (table : Table) → Yields EndsNothing (f at table)) → Yields EndsNothing (on_table schema name f)
on_table-EndsNothing schema name f go = Yields-and_then_any (target schema name) (λ at. and_then (table_at schema at) (f at)) EndsNothing (λ at. Yields-and_then_any (table_at schema at) (f at) EndsNothing (go at))

insert-EndsNothing : (schema : Schema) (base : ℕ) (name : Name) (columns : List Name) (rows : Rows) → Yields EndsNothing (insert schema base name columns rows)
unfolding insert
insert-EndsNothing schema base name columns rows = on_table-EndsNothing schema name (λ at table. and_then (new_rows schema table base columns rows) (λ s. Ok (Insert at s)))
    (λ at table. Yields-and_then_any (new_rows schema table base columns rows) (λ s. Ok (Insert at s)) EndsNothing (λ s. refl))

insert_or-EndsNothing : (schema : Schema) (base : ℕ) (way : Conflict) (name : Name) (columns : List Name) (rows : Rows) (clauses : List Upsert) → Yields EndsNothing (insert_or schema base way name columns rows clauses)
unfolding insert_or
insert_or-EndsNothing schema base way name columns rows clauses = on_table-EndsNothing schema name
    (λ at table. and_then (new_rows schema table base columns rows) (λ s. and_then (upserts schema at table base clauses) (λ found. Ok (InsertOr at way s found))))
    (λ at table. Yields-and_then_any (new_rows schema table base columns rows) (λ s. and_then (upserts schema at table base clauses) (λ found. Ok (InsertOr at way s found))) EndsNothing
    (λ s. Yields-and_then_any (upserts schema at table base clauses) (λ found. Ok (InsertOr at way s found)) EndsNothing (λ found. refl)))

insert_or_abort-EndsNothing : (schema : Schema) (base : ℕ) (name : Name) (columns : List Name) (rows : Rows) (clauses : List Upsert) → Yields EndsNothing (insert_or_abort schema base name columns rows clauses)
unfolding insert_or_abort
insert_or_abort-EndsNothing schema base name columns rows clauses = elim (cases_Bool (length clauses == 0)) [
  | inl none ↦ rw none (insert-EndsNothing schema base name columns rows)
  | inr some ↦ rw some (insert_or-EndsNothing schema base how.Abort name columns rows clauses)
]

update-EndsNothing : (schema : Schema) (name : Name) (sets : List (Name × Expr)) (test : Option Expr) → Yields EndsNothing (update schema name sets test)
unfolding update
update-EndsNothing schema name sets test = on_table-EndsNothing schema name (λ at table. and_then (updated schema at table sets test) (λ d. and_then (program schema [] d) (λ p. Ok (Update at p))))
    (λ at table. Yields-and_then_any (updated schema at table sets test) (λ d. and_then (program schema [] d) (λ p. Ok (Update at p))) EndsNothing
    (λ d. Yields-and_then_any (program schema [] d) (λ p. Ok (Update at p)) EndsNothing (λ p. refl)))

delete-EndsNothing : (schema : Schema) (name : Name) (test : Option Expr) → Yields EndsNothing (delete schema name test)
unfolding delete
delete-EndsNothing schema name test = on_table-EndsNothing schema name (λ at table. and_then (deleted schema at table test) (λ d. and_then (program schema [] d) (λ p. Ok (Delete at p))))
    (λ at table. Yields-and_then_any (deleted schema at table test) (λ d. and_then (program schema [] d) (λ p. Ok (Delete at p))) EndsNothing
    (λ d. Yields-and_then_any (program schema [] d) (λ p. Ok (Delete at p)) EndsNothing (λ p. refl)))

CreateTable-EndsNothing : (b : Bool) → Yields EndsNothing (cond b (Ok CreateTable) (Err Unsupported))
CreateTable-EndsNothing true = refl
CreateTable-EndsNothing false = tt

define_table-EndsNothing : (formats : List Name) (def : NewTable) (is_new : Bool)
    → Yields EndsNothing (cond is_new (and_then (define.table formats def) (λ t. cond (length t.computed == length t.stamps.places && not def.resolves) (Ok CreateTable) (Err Unsupported))) (Ok Nothing))
define_table-EndsNothing formats def true =
    Yields-and_then_any (define.table formats def) (λ t. cond (length t.computed == length t.stamps.places && not def.resolves) (Ok CreateTable) (Err Unsupported)) EndsNothing (λ t. CreateTable-EndsNothing (length t.computed == length t.stamps.places && not def.resolves))
define_table-EndsNothing formats def false = refl

create_table-EndsNothing : (schema : Schema) (formats : List Name) (def : NewTable) → Yields EndsNothing (create_table schema formats def)
unfolding create_table
create_table-EndsNothing schema formats def = elim (cases_Bool (is_attached schema def.name)) [
  | inl attached ↦ rw attached tt
  | inr free ↦ rw free (Yields-and_then_any (creates def.if_missing def.name (option_or (table_named schema def.name) (view_named schema def.name)) (index_named schema def.name))
      (λ is_new. cond is_new (and_then (define.table formats def) (λ t. cond (length t.computed == length t.stamps.places && not def.resolves) (Ok CreateTable) (Err Unsupported))) (Ok Nothing)) EndsNothing (λ is_new. define_table-EndsNothing formats def is_new))
]

define_index-EndsNothing : (at : ℕ) (table : Table) (def : NewIndex) (is_new : Bool) → Yields EndsNothing (cond is_new (and_then (define.index table def) (λ _. Ok (CreateIndex at))) (Ok Nothing))
define_index-EndsNothing at table def true = Yields-and_then_any (define.index table def) (λ _. Ok (CreateIndex at)) EndsNothing (λ _. refl)
define_index-EndsNothing at table def false = refl

create_index-EndsNothing : (schema : Schema) (def : NewIndex) → Yields EndsNothing (create_index schema def)
unfolding create_index
create_index-EndsNothing schema def = elim (cases_Bool (is_reserved def.table)) [
  | inl reserved ↦ rw reserved tt
  | inr free ↦ rw free (on_table-EndsNothing schema def.table
      (λ at table. and_then (creates def.if_missing def.name (index_named schema def.name) (option_or (table_named schema def.name) (view_named schema def.name))) (λ is_new. cond is_new (and_then (define.index table def) (λ _. Ok (CreateIndex at))) (Ok Nothing)))
      (λ at table. Yields-and_then_any (creates def.if_missing def.name (index_named schema def.name) (option_or (table_named schema def.name) (view_named schema def.name)))
      (λ is_new. cond is_new (and_then (define.index table def) (λ _. Ok (CreateIndex at))) (Ok Nothing)) EndsNothing (λ is_new. define_index-EndsNothing at table def is_new)))
]

command-EndsNothing : (schema : Schema) (formats : List Name) (base : ℕ) (statement : Statement) → writes statement ≡ true → Yields EndsNothing (command schema formats base statement)
unfolding command
command-EndsNothing schema formats base (written.Insert conflict.Abort name columns rows clauses shown) w = insert_or_abort-EndsNothing schema base name columns rows clauses
command-EndsNothing schema formats base (written.Insert conflict.Ignore name columns rows clauses shown) w = insert_or-EndsNothing schema base how.Ignore name columns rows clauses
command-EndsNothing schema formats base (written.Insert conflict.Replace name columns rows clauses shown) w = insert_or-EndsNothing schema base how.Replace name columns rows clauses
command-EndsNothing schema formats base (written.Update name sets test shown) w = update-EndsNothing schema name sets test
command-EndsNothing schema formats base (written.Delete name test shown) w = delete-EndsNothing schema name test
command-EndsNothing schema formats base (written.CreateTable def) w = create_table-EndsNothing schema formats def
command-EndsNothing schema formats base (written.CreateIndex def) w = create_index-EndsNothing schema def
command-EndsNothing schema formats base _ w = absurd (cc)

with_command-EndsNothing : (schema : Schema) (p : Parsed) → writes p.statement ≡ true → Yields (λ (c : Compiled). EndsNothing c.command) (and_then (planned schema p) (λ plan. Ok (with_command p plan)))
unfolding planned meaning
with_command-EndsNothing schema p w =
    let formats = Compile.timed schema p.formats p.statement in
    let base = small p.names + small formats in
    let first = Yields-and_then_any (Compile.returning schema base p.statement) (λ shown. and_then (command schema p.formats base p.statement) (λ c. Ok (c, shown))) (λ (found : Command × Option Returning). EndsNothing found.0)
    (λ shown. Yields-and_then (command schema p.formats base p.statement) (λ c. Ok (c, shown)) EndsNothing (λ (found : Command × Option Returning). EndsNothing found.0) (command-EndsNothing schema p.formats base p.statement w) (λ c h. h)) in
    let second = Yields-and_then (meaning schema p base) (λ found. Ok (formats, found)) (λ (found : Command × Option Returning). EndsNothing found.0) (λ (plan : List Name × (Command × Option Returning)). EndsNothing plan.1.0) first (λ found h. h) in
    Yields-and_then (planned schema p) (λ plan. Ok (with_command p plan)) (λ (plan : List Name × (Command × Option Returning)). EndsNothing plan.1.0) (λ (c : Compiled). EndsNothing c.command) second (λ plan h. h)

compiled-EndsNothing : (schema : Schema) (sql : List ℕ) (r : Checked Parsed) → first sql ≡ r → IsWriteText r → Yields (λ (c : Compiled). EndsNothing c.command) (compiled schema sql)
unfolding compiled
compiled-EndsNothing schema sql (Ok p) is w = rw is (with_command-EndsNothing schema p w)
compiled-EndsNothing schema sql (Err e) is w = absurd w

if_select-EndsNothing : (r : Checked Compiled) → Yields (λ (c : Compiled). EndsNothing c.command) r → Yields (λ (c : Compiled). EndsNothing c.command) (if_select r)
if_select-EndsNothing (Ok c) h = elim (cases_Bool (is_select c.command)) [ inl s ↦ rw s h | inr n ↦ rw n tt ]
if_select-EndsNothing (Err e) h = tt

understood-EndsNothing : (schema : Schema) (sql : List ℕ) → IsWriteText (first sql) → Yields (λ (c : Compiled). EndsNothing c.command) (understood schema sql)
unfolding understood
understood-EndsNothing schema sql w = elim (cases_Bool (reads_listing schema sql)) [
  | inl listing ↦ rw listing (if_select-EndsNothing _ (compiled-EndsNothing listing_schema sql _ refl w))
  | inr plain ↦ rw plain (compiled-EndsNothing schema sql _ refl w)
]

-- So it commits only if no transaction is open. `refl` finds the premise of a text that is written out, by
-- `unfolding everything`.
pub CommitsBy-write_outside : (sql : List ℕ) (params : Row) (old : State) (db : Trees) → IsWriteText (first sql) → CommitsBy sql params old db → old.in_transaction ≡ false
unfolding CommitsBy
CommitsBy-write_outside sql params old db w h =
    let ends : EndsNothing h.0.command = subst (Yields (λ (c : Compiled). EndsNothing c.command)) h.1.is (understood-EndsNothing old.now.schema sql w) in
    elim h.2 [
      | inl end ↦ elim end.0 [ inl c ↦ absurd (let e = rw c at ends in cc) | inr r ↦ absurd (let e = rw r.2 at ends in cc) ]
      | inr may ↦ may.0
    ]

Shows-inside : (old new : State) (now : _) → Shows old new new.now (cond old.in_transaction old.committed now) old.in_transaction → IsTrue old.in_transaction → Shows old new new.now old.committed true
Shows-inside old new now h inside = record { was_open = h.was_open; is_open = h.is_open; now_is = refl; committed_is = rw inside at h.committed_is; mode = h.mode ∙ inside }

Runs-inside : (old new : State) (returning : _) (command : Command) (text : List ℕ) (params : Row) (count : ℕ) → EndsNothing command → Runs old new returning command text params count → IsTrue old.in_transaction
    → Shows old new new.now old.committed true
Runs-inside old new returning (Insert at s) text params count w h inside = Shows-inside old new new.now h.shown inside
Runs-inside old new returning (InsertOr at way s found) text params count w h inside = Shows-inside old new new.now h.shown inside
Runs-inside old new returning (Update at p) text params count w h inside = Shows-inside old new new.now h.shown inside
Runs-inside old new returning (Delete at p) text params count w h inside = Shows-inside old new new.now h.shown inside
Runs-inside old new returning CreateTable text params count w h inside = Shows-inside old new new.now h.shown inside
Runs-inside old new returning (CreateIndex at) text params count w h inside = Shows-inside old new new.now h.shown inside
Runs-inside old new returning Nothing text params count w h inside =
    let same = h.0.0 in record { was_open = same.was_open; is_open = same.is_open; now_is = refl; committed_is = same.committed_is; mode = same.mode ∙ inside }
Runs-inside old new returning _ text params count w h inside = absurd (cc)

pub Executes-inside : (sql : List ℕ) (params : Row) (old new : State) (count : ℕ) → IsWriteText (first sql) → Executes sql params old new (Ok count) → IsTrue old.in_transaction → Shows old new new.now old.committed true
unfolding ExecutesIn
Executes-inside sql params old new count w h inside =
    let ends : EndsNothing h.0.command = subst (Yields (λ (c : Compiled). EndsNothing c.command)) h.1.is (understood-EndsNothing old.now.schema sql w) in
    elim (cases_Bool (shows_rows false h.0)) [
      | inl shows ↦ absurd (let e = (rw shows at h.2).0 in cc)
      | inr runs ↦ Runs-inside old new h.0.returning h.0.command _ _ count ends (rw runs at h.2) inside
    ]
