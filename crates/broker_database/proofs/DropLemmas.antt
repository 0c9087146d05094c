-- A text that drops a table commits nothing inside a transaction, for any schema.
use Rattle.std.specs.Prelude.{if◌then◌else◌}
use Rattle.std.proofs.Common.{inl, inr, ◌≡◌, ◌∙◌, ◌+◌, Option, Some, None, ℕ, Bool, true, false, cond, is_some, List, Ok, Err, IsTrue, refl, subst}
use Rattle.std.proofs.lemmas.Bool.{cases_Bool}
use Rattle.sqlite_ast.specs.declared.Statement.{Statement}
use Rattle.sqlite_schema.specs.{Names.{table_named, view_named}, declared.schema.Schema.{Schema}, declared.command.Command.{Command}}
use Rattle.sqlite_schema.specs.{declared.command.Returning.{Returning}, declared.command.Command.TheVariants.{DropTable, Nothing}}
use Rattle.sqlite_resolve.specs.{declared.compiled.Compiled.{Compiled}, declared.error.CompileError.TheVariants.{Misuse, NoSuchTable}}
use Rattle.sqlite_resolve.specs.{Lowering.{Checked, and_then}, Scope.{Name}}
use Rattle.sqlite_resolve.specs.Compile.{first, compiled, planned, meaning, command, drop_table, dropped, is_reserved, is_attached, with_command, small}
use Rattle.sqlite_syntax.specs.declared.statement.Parsed.{Parsed}
use Rattle.sqlite.specs.{Order.{Row}, Tree.{Trees}, Listing.{understood, reads_listing, if_select, listing_schema, is_select}}
use Rattle.sqlite.specs.State.{State, CommitsBy, Executes, ExecutesIn, Runs, Shows, shows_rows}
use Rattle.broker_database.specs.Renewal.{drops, IsDropText}
use Rattle.sqlite_ast.specs.declared.Statement.TheVariants as written
use Rattle.sqlite_resolve.specs.Compile

abbrev is_drop : Command → Bool
is_drop (DropTable at) = true
is_drop Nothing = true
is_drop _ = false

-- so it ends no transaction
abbrev EndsNothing : Command → Type 0
EndsNothing c = is_drop c ≡ true

abbrev Yields : {A : Type 0} → (A → Type 0) → Checked A → Type 0
Yields P (Ok a) = P a
Yields P (Err e) = Unit {0}

Yields-and_then : {A B : Type 0} (r : Checked A) (f : A → Checked B) (P : A → Type 0) (Q : B → Type 0) → Yields P r → ((a : A) → P a → Yields Q (f a)) → Yields Q (and_then r f)
Yields-and_then (Ok a) f P Q h go = go a h
Yields-and_then (Err e) f P Q h go = tt

Yields-and_then_any : {A B : Type 0} (r : Checked A) (f : A → Checked B) (Q : B → Type 0) → ((a : A) → Yields Q (f a)) → Yields Q (and_then r f)
Yields-and_then_any (Ok a) f Q go = go a
Yields-and_then_any (Err e) f Q go = tt

EndsNothing-dropped : (if_exists : Bool) (at : Option ℕ) → Yields EndsNothing (dropped DropTable NoSuchTable if_exists at)
EndsNothing-dropped if_exists (Some at) = refl
EndsNothing-dropped true None = refl
EndsNothing-dropped false None = tt

EndsNothing-if : (b : Bool) (one two : Checked Command) → Yields EndsNothing one → Yields EndsNothing two → Yields EndsNothing (if b then one else two)
EndsNothing-if true one two h k = h
EndsNothing-if false one two h k = k

EndsNothing-drop_table : (schema : Schema) (if_exists : Bool) (name : Name) → Yields EndsNothing (drop_table schema if_exists name)
unfolding drop_table
EndsNothing-drop_table schema if_exists name =
    EndsNothing-if (is_reserved name) (Err Misuse) (if is_some (view_named schema name) then Err Misuse else dropped DropTable NoSuchTable if_exists (table_named schema name)) tt
    (EndsNothing-if (is_some (view_named schema name)) (Err Misuse) (dropped DropTable NoSuchTable if_exists (table_named schema name)) tt (EndsNothing-dropped if_exists (table_named schema name)))

EndsNothing-command : (schema : Schema) (formats : List Name) (base : ℕ) (statement : Statement) → drops statement ≡ true → Yields EndsNothing (command schema formats base statement)
unfolding command
EndsNothing-command schema formats base (written.DropTable if_exists name) w = EndsNothing-drop_table schema if_exists name
EndsNothing-command schema formats base _ w = absurd (cc)

EndsNothing-planned : (schema : Schema) (p : Parsed) → drops p.statement ≡ true → Yields (λ (c : Compiled). EndsNothing c.command) (and_then (planned schema p) (λ plan. Ok (with_command p plan)))
unfolding planned meaning
EndsNothing-planned schema p w =
    let formats = Compile.timed schema p.formats p.statement in
    let base = small p.names + small formats in
    let first = Yields-and_then_any (Compile.returning schema base p.statement) (λ shown. and_then (command schema p.formats base p.statement) (λ c. Ok (c, shown))) (λ (found : Command × Option Returning). EndsNothing found.0)
    (λ shown. Yields-and_then (command schema p.formats base p.statement) (λ c. Ok (c, shown)) EndsNothing (λ (found : Command × Option Returning). EndsNothing found.0) (EndsNothing-command schema p.formats base p.statement w) (λ c h. h)) in
    let second = Yields-and_then (meaning schema p base) (λ found. Ok (formats, found)) (λ (found : Command × Option Returning). EndsNothing found.0) (λ (plan : List Name × (Command × Option Returning)). EndsNothing plan.1.0) first (λ found h. h) in
    Yields-and_then (planned schema p) (λ plan. Ok (with_command p plan)) (λ (plan : List Name × (Command × Option Returning)). EndsNothing plan.1.0) (λ (c : Compiled). EndsNothing c.command) second (λ plan h. h)

EndsNothing-compiled : (schema : Schema) (sql : List ℕ) (r : Checked Parsed) → first sql ≡ r → IsDropText r → Yields (λ (c : Compiled). EndsNothing c.command) (compiled schema sql)
unfolding compiled
EndsNothing-compiled schema sql (Ok p) is w = rw is (EndsNothing-planned schema p w)
EndsNothing-compiled schema sql (Err e) is w = absurd w

Yields-if_select : (r : Checked Compiled) → Yields (λ (c : Compiled). EndsNothing c.command) r → Yields (λ (c : Compiled). EndsNothing c.command) (if_select r)
Yields-if_select (Ok c) h = elim (cases_Bool (is_select c.command)) [ inl s ↦ rw s h | inr n ↦ rw n tt ]
Yields-if_select (Err e) h = tt

EndsNothing-understood : (schema : Schema) (sql : List ℕ) → IsDropText (first sql) → Yields (λ (c : Compiled). EndsNothing c.command) (understood schema sql)
unfolding understood
EndsNothing-understood schema sql w = elim (cases_Bool (reads_listing schema sql)) [
  | inl listing ↦ rw listing (Yields-if_select _ (EndsNothing-compiled listing_schema sql _ refl w))
  | inr plain ↦ rw plain (EndsNothing-compiled schema sql _ refl w)
]

-- So it commits only if no transaction is open.
pub CommitsBy-drop_outside : (sql : List ℕ) (params : Row) (old : State) (db : Trees) → IsDropText (first sql) → CommitsBy sql params old db → old.in_transaction ≡ false
unfolding CommitsBy
CommitsBy-drop_outside sql params old db w h =
    let ends : EndsNothing h.0.command = subst (Yields (λ (c : Compiled). EndsNothing c.command)) h.1.is (EndsNothing-understood old.now.schema sql w) in
    elim h.2 [
      | inl end ↦ elim end.0 [ inl c ↦ absurd (let e = rw c at ends in cc) | inr r ↦ absurd (let e = rw r.2 at ends in cc) ]
      | inr may ↦ may.0
    ]

Shows-inside : (old new : State) (now : _) → Shows old new new.now (cond old.in_transaction old.committed now) old.in_transaction → IsTrue old.in_transaction → Shows old new new.now old.committed true
Shows-inside old new now h inside = record { was_open = h.was_open; is_open = h.is_open; now_is = refl; committed_is = rw inside at h.committed_is; mode = h.mode ∙ inside }

Runs-inside : (old new : State) (returning : _) (command : Command) (text : List ℕ) (params : Row) (count : ℕ) → EndsNothing command → Runs old new returning command text params count → IsTrue old.in_transaction
    → Shows old new new.now old.committed true
Runs-inside old new returning (DropTable at) text params count w h inside = Shows-inside old new new.now h.shown inside
Runs-inside old new returning Nothing text params count w h inside =
    let same = h.0.0 in record { was_open = same.was_open; is_open = same.is_open; now_is = refl; committed_is = same.committed_is; mode = same.mode ∙ inside }
Runs-inside old new returning _ text params count w h inside = absurd (cc)

pub Executes-drop_inside : (sql : List ℕ) (params : Row) (old new : State) (count : ℕ) → IsDropText (first sql) → Executes sql params old new (Ok count) → IsTrue old.in_transaction → Shows old new new.now old.committed true
unfolding ExecutesIn
Executes-drop_inside sql params old new count w h inside =
    let ends : EndsNothing h.0.command = subst (Yields (λ (c : Compiled). EndsNothing c.command)) h.1.is (EndsNothing-understood old.now.schema sql w) in
    elim (cases_Bool (shows_rows false h.0)) [
      | inl shows ↦ absurd (let e = (rw shows at h.2).0 in cc)
      | inr runs ↦ Runs-inside old new h.0.returning h.0.command _ _ count ends (rw runs at h.2) inside
    ]
