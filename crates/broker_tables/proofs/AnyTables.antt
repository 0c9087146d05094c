-- A schema that has the broker's tables consists of them, and may have more in them; and what a text asks of it.
use Rattle.std.specs.{List.{AllZip}, Prelude.{is_some, ◌↔◌}}
use Rattle.std.proofs.Common.{◌≡◌, ◌∙◌, ◌≤◌, ℕ, zero, suc, List, [], ◌∷◌, Bool, true, false, IsTrue, Option, None, Some, slice_get, refl, sym, subst, arith}
use Rattle.std.proofs.lemmas.List.Sorted.{Contains-permutation}
use Rattle.sqlite.specs.{Table.{Table}, Schema.{Schema}, Order.{Row}, Query.{Query}, Command.TheVariants.{Select}, State.{State, Shown, IsUnchanged, HasCause}}
use Rattle.sqlite.specs.{Effect.{Database, Answers}, Term.{Term}}
use Rattle.sqlite_rules.specs.Lists.{Has}
use Rattle.sqlite_value.specs.declared.keys.Key.{Key}
use Rattle.sqlite_trees.specs.{declared.error.StoreError.{StoreError}, declared.error.StoreError.TheVariants.{OutOfMemory, Broken, Unstorable}}
use Rattle.sqlite_schema.specs.declared.schema.Column.{Column}
use Rattle.table_access.specs.{declared.StoreFault.{StoreFault}, Calls.{HasFailed}, Reading.{IsRefusedAs}, Statements.{from_table, keeps, shows}}
use Rattle.table_access.proofs.Answered.{Runs, IsRefusedAs-HasFailed, Shown-of_table_row, slice_get-has_first}
use Rattle.table_access.proofs.Members.{has_map, has_filter, has_contains, contains_has}
use Rattle.table_access.proofs.Steps.{Means, IsPermutation-selected_rows, Shown-Answers, Shown-IsUnchanged}
use Rattle.broker_tables.specs.{Schema.{environments, numbers}, Asking.{IsColumnLike, HasColumns, HasBrokerTables, CanBeAsked}}

-- ---- the tables

-- tables with the names and the places of these
abbrev pub laid_out : List Table → (ℕ → Table) → List Table
laid_out [] given = []
laid_out (t ∷ ts) given = record (given zero) { name = t.name; tree = t.tree } ∷ laid_out ts (λ n. given (suc n))

abbrev put_first : {X : Type 0} → X → (ℕ → X) → ℕ → X
put_first x given zero = x
put_first x given (suc n) = given n

pub laid_out-of_HasColumns : (wanted ts : List Table) → AllZip HasColumns wanted ts → (given : ℕ → Table) × (ts ≡ laid_out wanted given)
laid_out-of_HasColumns [] [] h = (λ n. environments, refl)
laid_out-of_HasColumns (w ∷ ws) (t ∷ ts) h =
    let more = laid_out-of_HasColumns ws ts h.1 in
    (put_first t more.0, λ i. record t { name = h.0.0 i; tree = h.0.1 i } ∷ more.1 i)
laid_out-of_HasColumns _ _ h = absurd h

-- ---- the columns

-- a column with the name, the kind and the order of this one
abbrev pub named_as : Column → Column → Column
named_as wanted c = record c { name = wanted.name; kind = wanted.kind; collation = wanted.collation }

-- and such columns
abbrev pub set_out : List Column → (ℕ → Column) → List Column
set_out [] given = []
set_out (c ∷ cs) given = named_as c (given zero) ∷ set_out cs (λ n. given (suc n))

pub set_out-of_IsColumnLike : (wanted cs : List Column) → AllZip IsColumnLike wanted cs → (given : ℕ → Column) × (cs ≡ set_out wanted given)
set_out-of_IsColumnLike [] [] h = (λ n. numbers [], refl)
set_out-of_IsColumnLike (w ∷ ws) (c ∷ cs) h =
    let more = set_out-of_IsColumnLike ws cs h.1 in
    (put_first c more.0, λ i. record c { name = h.0.0 i; kind = h.0.1 i; collation = h.0.2 i } ∷ more.1 i)
set_out-of_IsColumnLike _ _ h = absurd h

-- ---- what a text asks of a schema

-- The text asks this query of the tables of this schema, and can be run with these parameters.
pub record AsksOf (schema : Schema) (sql : List ℕ) (params : Row) (query : Query) : Type 0 where
  pub names : List (List ℕ)
  pub means : Means schema sql (Select (record { lets = []; body = query }) names)
  pub runs : Runs schema sql params query

module _ {sql : List ℕ} {params : Row} {query : Query} (old new : State) (asks : AsksOf old.now.schema sql params query) where
  -- what is shown is its answer
  pub Shown-Answers_query : (rows : List Row) → Shown sql params old new rows → Answers old.now (record { lets = []; body = query }) params rows
  Shown-Answers_query rows shown = Shown-Answers sql params old new _ asks.names asks.means rows shown

  -- nothing changes
  pub Shown-leaves_all : (rows : List Row) → Shown sql params old new rows → IsUnchanged old new
  Shown-leaves_all rows shown = Shown-IsUnchanged sql params old new rows asks.means.plain shown

  -- it is refused only as the store fails
  pub IsRefusedAs-ends : old.step_limit ≡ None → (fault : StoreFault) → IsRefusedAs sql params old new fault → HasFailed old new fault
  IsRefusedAs-ends unlimited fault = IsRefusedAs-HasFailed sql params old new query asks.names asks.means asks.runs unlimited fault

-- ---- the rows of one table that are shown

pub slice_get-None_empty : (xs : List Row) → slice_get xs 0 ≡ None → (x : Row) → Has xs x → ⊥
slice_get-None_empty [] none x has = has
slice_get-None_empty (y ∷ xs) none x has = absurd cc

module _ {sql : List ℕ} {params : Row} {t : ℕ} {terms project : List Term} {order : List (Term × Key)} (old new : State) (asks : AsksOf old.now.schema sql params (from_table t terms project order))
    (rows : List Row) (shown : Shown sql params old new rows) where
  -- the first one is what is shown of a row that WHERE keeps
  pub Shown-first_kept : (row : Row) → slice_get rows 0 ≡ Some row → (r : Row) × Has (old.now.trees t) r × (keeps terms params r ≡ true) × (row ≡ shows project params r)
  Shown-first_kept row head = Shown-of_table_row sql params old new t terms project order asks.names asks.means rows row shown (slice_get-has_first rows row head)

  -- and if there is none, WHERE keeps no row
  pub Shown-none_kept : slice_get rows 0 ≡ None → (r : Row) → Has (old.now.trees t) r → keeps terms params r ≡ true → ⊥
  Shown-none_kept none r has kept =
      let here = has_map (shows project params) _ r (has_filter (keeps terms params) (old.now.trees t) r has kept) in
      slice_get-None_empty rows none _ (contains_has rows _ (Contains-permutation _ rows _ (IsPermutation-selected_rows sql params old new t terms project order asks.names asks.means rows shown) (has_contains _ _ here)))

  -- so one is shown if and only if WHERE keeps a row
  pub Shown-any_kept : (b : Bool) → b ≡ is_some (slice_get rows 0) → IsTrue b ↔ ((r : Row) × Has (old.now.trees t) r × (keeps terms params r ≡ true))
  Shown-any_kept b is = go b (slice_get rows 0) refl is
    where
      go : (b : Bool) (o : Option Row) → slice_get rows 0 ≡ o → b ≡ is_some o → IsTrue b ↔ ((r : Row) × Has (old.now.trees t) r × (keeps terms params r ≡ true))
      go true (Some row) head is = (λ t. let it = Shown-first_kept row head in (it.0, it.1, it.2), λ m. refl)
      go false None head is = (λ t. absurd cc, λ m. absurd (Shown-none_kept head m.0 m.1 m.2))
      go _ _ head is = absurd cc

-- ---- one query after another

HasCause-later_call_open : (a b c : State) (cause : StoreError) → IsTrue b.is_open → a.faults ≤ b.faults → HasCause b c ⊥ cause → HasCause a c ⊥ cause
HasCause-later_call_open a b c OutOfMemory live up h = tt
HasCause-later_call_open a b c Broken live up h = absurd (let e = live in cc)
HasCause-later_call_open a b c Unstorable live up h = h
HasCause-later_call_open a b c _ live up h = omega (arith, up, h)

-- if a query left all as it was, a later failure of the store is one of both calls together
pub HasFailed-after_query : (a b c : State) (e : StoreFault) → IsUnchanged a b → a.faults ≤ b.faults → HasFailed b c e → HasFailed a c e
HasFailed-after_query a b c e same up h = record { cause = h.cause; fault_is = h.fault_is; has = HasCause-later_call_open a b c h.cause same.0.is_open up h.has; over = h.over; blamed = h.blamed }

-- and what can be asked still can
pub CanBeAsked-unchanged : (a b : State) → IsUnchanged a b → b.step_limit ≡ a.step_limit → CanBeAsked a → CanBeAsked b
CanBeAsked-unchanged a b same limit asked = (limit ∙ asked.0, subst (λ (db : Database). HasBrokerTables db.schema) (sym same.0.now_is) asked.1)
