-- Why a statement that MayChange-IsWrite rows is refused while the store works; an INSERT of one row: a rule of its table, or a row
-- that it refers to isn't there.
use Rattle.std.specs.Prelude.{IsSome, is_some}
use Rattle.std.proofs.Common.{◌≡◌, ◌⊎◌, inl, inr, ℕ, List, [], length, slice_get, Bool, true, false, not, ◌&&◌, ◌||◌, Some, None, Option, Ok, Err, Result, refl, sym, ap, subst, subst₂, ◌∙◌, append-nil, ◌/◌}
use Rattle.std.proofs.lemmas.Bool.{cases_Bool}
use Rattle.sqlite.specs.{Order.{Row}, Table.{Table}, Command.{Command}, Command.TheVariants.{Insert, InsertOr, Update, Delete, CreateTable, CreateIndex}}
use Rattle.sqlite.specs.{Source.TheVariants.{Values}, Term.{Term}, Rowids.TheVariants.{Chosen}, Edit.{Edit, edit_of}, declared.error.Error.{Error}}
use Rattle.sqlite.specs.{Effect.{Database, value_rows, is_query}, Rows.{Written, Task, Edited, Inserts, Sourced, stamped}}
use Rattle.sqlite.specs.{Does.{OnRows, OnTable, AtPlace, WritesRows, Does, due}, Listing.{understood}}
use Rattle.sqlite.specs.State.{State, Executes, ExecutesIn, IsNotRun, IsMisplaced, Fails, IsUnchanged, MayChange, shows_rows, is_pragma, text_of, mode_of}
use Rattle.sqlite.{specs.{Calls.{IsWrite}, Clock.{timed}}, proofs.Callers.{IsPlain, command_of, statement_of}}
use Rattle.sqlite_schema.specs.{declared.schema.Column.{Column}, declared.schema.Reference.{Reference}, Rules.{Refers}}
use Rattle.sqlite_value.specs.declared.keys.Order.{Order}
use Rattle.sqlite_typing.specs.Types.{accepts_terms}
use Rattle.sqlite_resolve.specs.declared.compiled.Compiled.{Compiled}
use Rattle.table_access.{specs.Statements.{plain_table}, proofs.{Answered.{is_whole, IsNoStatement-never_plain}, Texts.{HasCause-weaken}, Steps.{Means}}}

-- ---- a statement that MayChange-IsWrite rows

-- what is so if a row is too big may be weakened
pub Fails-weaken : {A B : Type 0} (old new : State) (e : Error) → (A → B) → Fails old new A e → Fails old new B e
Fails-weaken old new e more fails = (fails.0, fails.1, HasCause-weaken old new fails.0 more fails.2, fails.3, fails.4)

-- it shows no rows
or-not_both_false : (a b : Bool) → a ≡ false → b ≡ false → (a || (not false && (b || false))) ≡ true → ⊥
or-not_both_false a b quiet plain h = let e : false ≡ true = subst₂ (λ x y. (x || (not false && (y || false))) ≡ true) quiet plain h in cc

-- a command on the rows of a table, or one that makes a table or an index
abbrev pub is_anywhere : Command → Bool
is_anywhere (Insert at from) = true
is_anywhere (InsertOr at way from clauses) = true
is_anywhere (Update at q) = true
is_anywhere (Delete at q) = true
is_anywhere CreateTable = true
is_anywhere (CreateIndex at) = true
is_anywhere _ = false

-- such a command is never out of place
pub IsMisplaced-never_anywhere : (old : State) (command : Command) → is_anywhere command ≡ true → (e : Error) → ¬ IsMisplaced old command e
IsMisplaced-never_anywhere old command rows e (inl (is, inl begins)) = let clash = sym rows ∙ ap is_anywhere begins.0 in cc
IsMisplaced-never_anywhere old command rows e (inl (is, inr (inl commits, outside))) = let clash = sym rows ∙ ap is_anywhere commits in cc
IsMisplaced-never_anywhere old command rows e (inl (is, inr (inr rolls, outside))) = let clash = sym rows ∙ ap is_anywhere rolls in cc
IsMisplaced-never_anywhere old command rows e (inr (is, name, inl releases, none)) = let clash = sym rows ∙ ap is_anywhere releases in cc
IsMisplaced-never_anywhere old command rows e (inr (is, name, inr back, none)) = let clash = sym rows ∙ ap is_anywhere back in cc

module _ (sql : List ℕ) (params : Row) (old new : State) (command : Command) (Unfit : Error → Type 0) where
  -- what it does with these parameters
  abbrev pub Ends : Option Error → Type 0
  Ends stop = Does old.step_limit (mode_of old) params old.now (statement_of sql (understood old.now.schema sql)) None command (Err stop)

  -- without RETURNING only a command that writes MayChange-IsWrite something
  MayChange-IsWrite : (c : Compiled) → c.command ≡ command → c.returning ≡ None → MayChange c → IsWrite command
  MayChange-IsWrite c known bare (inl writes) = subst IsWrite known writes
  MayChange-IsWrite c known bare (inr shows) = absurd (let shown = subst IsSome bare shows in cc)

  -- A statement that is whole fails as the store fails, perhaps since a value was too big, or as its command does, or
  -- since it is out of place.
  pub Executes-change_fails : Means old.now.schema sql command → is_whole sql (length params) (understood old.now.schema sql) ≡ true → is_query command ≡ false → is_pragma command ≡ false → ((e : Error) → IsMisplaced old command e → IsUnchanged old new → Unfit e)
      → ((e : Error) → IsWrite command → Ends (Some e) → Unfit e) → (e : Error) → Executes sql params old new (Err e) → Fails old new (Ends None) e ⊎ Unfit e
  unfolding ExecutesIn IsNotRun
  Executes-change_fails means whole quiet plain placed unfit e (inl (inl h)) = absurd (IsNoStatement-never_plain sql params old means.plain whole e h.0)
  Executes-change_fails means whole quiet plain placed unfit e (inl (inr h)) = inl (Fails-weaken old new e (λ none. absurd none) h)
  Executes-change_fails means whole quiet plain placed unfit e (inr h) =
      let bare = subst IsPlain h.1.is means.plain in
      let known : h.0.command ≡ command = ap command_of (sym h.1.is) ∙ means.is in
      let said : text_of sql h.0 ≡ statement_of sql (understood old.now.schema sql) = sym (ap (statement_of sql) h.1.is) in
      let now : timed params h.0.formats h.1.now ≡ params = ap (λ formats. timed params formats h.1.now) bare.1 ∙ append-nil params in
      let same : (stop : Option Error) → Does old.step_limit (mode_of old) (timed params h.0.formats h.1.now) old.now (text_of sql h.0) h.0.returning
      h.0.command (Err stop) → Ends stop =
      λ stop does. subst₂ (λ k r. Does old.step_limit (mode_of old) params old.now (statement_of sql (understood old.now.schema sql)) r k (Err stop))
      known bare.0 (subst₂ (λ ps t. Does old.step_limit (mode_of old) ps old.now t h.0.returning h.0.command (Err stop)) now said does) in
      elim (cases_Bool (shows_rows false h.0)) [
        | inl shows ↦ absurd (or-not_both_false (is_query command) (is_pragma command) quiet plain (subst₂ (λ k r. (is_query k || (not false && (is_pragma k || is_some r))) ≡ true) known bare.0 shows))
        | inr runs ↦ elim (rw runs at h.2) [
          | inl is ↦ elim is.0 [
            | inl misplaced ↦ inr (placed e (subst (λ k. IsMisplaced old k e) known misplaced) is.1)
            | inr does ↦ inr (unfit e (MayChange-IsWrite h.0 known bare.0 does.0) (same (Some e) does.1))
          ]
          | inr fails ↦ inl (Fails-weaken old new e (same None) fails)
        ]
      ]

-- it ends as this part EndsAs-stopped
abbrev pub EndsAs : (B : Type 0) → Result B (Option Error) → Option Error → Type 0
EndsAs B out stop = out ≡ Err stop

-- a part that EndsAs-stopped, or the next that did
pub EndsAs-stopped : {B R : Type 0} {Stops : Option Error → Type 0} (stop : Option Error) → ((s : Option Error) × Stops s × EndsAs B (Err stop) s) ⊎ R → Stops stop ⊎ R
EndsAs-stopped {B} {R} {Stops} stop (inl h) = let same : h.0 ≡ stop = (let is = h.2 in cc) in inl (subst Stops same h.1)
EndsAs-stopped stop (inr h) = inr h

module _ (name : List ℕ) (tree : ℕ) (columns : List Column) (key : Option ℕ) (primary : List ℕ) (uniques : List (List ℕ)) (orders : List Order) (checks : List Term) (references : List Reference) where
  abbrev here : Table
  here = plain_table name tree columns key primary uniques orders checks references

  -- values of the right kinds are taken, if there is no limit of steps
  pub Sourced-never_stops : (db : Database) (params : Row) (terms : List Term) (width : ℕ) → accepts_terms terms params ≡ true → (limit : Option ℕ) → limit ≡ None → (stop : Option Error) → Sourced limit db (stamped here params) (Values terms width) (Err stop) → ⊥
  Sourced-never_stops db params terms width typed limit unlimited None h = h
  Sourced-never_stops db params terms width typed limit unlimited (Some e) (inl kind) = let clash = subst (λ ps. accepts_terms terms ps ≡ false) (append-nil params) kind.1 in let e2 : true ≡ false = sym typed ∙ clash in cc
  Sourced-never_stops db params terms width typed limit unlimited (Some e) (inr limited) = let some = rw unlimited at limited.1 in cc

  -- a command on the rows of the table stops where it writes them, or since a row refers to one that isn't there
  pub OnTable-stops : (params : Row) (old : State) (at : ℕ) → slice_get old.now.schema.tables at ≡ Some here → (command : Command) (stop : Option Error)
      → OnTable old.step_limit (mode_of old) params old.now at (λ task. OnRows task (mode_of old) None command old.now.trees) (Err stop)
      → let task : Task = record { limit = old.step_limit; keys = (mode_of old).keys; schema = old.now.schema; table = here; params = params } in
      WritesRows task old.now.trees command (Err stop) ⊎ ((w : Written) × WritesRows task old.now.trees command (Ok w) × (¬ Refers (due (mode_of old)) old.now.schema w.trees))
  OnTable-stops params old at found command stop h =
      let task : Task = record { limit = old.step_limit; keys = (mode_of old).keys; schema = old.now.schema; table = here; params = params } in
      let rows : OnRows task (mode_of old) None command old.now.trees (Err stop) = subst (λ o. AtPlace (λ table. OnRows (record task { table = table }) (mode_of old) None command old.now.trees) o (Err stop)) found h in
      elim (EndsAs-stopped stop rows) [
        | inl written ↦ inl written
        | inr written ↦ elim (EndsAs-stopped stop written.2) [
          | inl tested ↦ inr (written.0, written.1, tested.0)
          | inr passed ↦ elim (EndsAs-stopped stop passed.2) [ inl shown ↦ absurd (let h = shown in cc) | inr last ↦ absurd (let h = last.2 in cc) ]
        ]
      ]

  module _ (sql : List ℕ) (params : Row) (old new : State) (at : ℕ) (found : slice_get old.now.schema.tables at ≡ Some here) (terms : List Term) (width : ℕ) (means : Means old.now.schema sql (Insert at (Values terms width)))
      (whole : is_whole sql (length params) (understood old.now.schema sql) ≡ true) (typed : accepts_terms terms params ≡ true) (unlimited : old.step_limit ≡ None) where
    abbrev task : Task
    task = record { limit = old.step_limit; keys = (mode_of old).keys; schema = old.now.schema; table = here; params = params }

    abbrev edit : Edit
    edit = edit_of old.now.trees here [] Chosen 0 (value_rows params width (length terms / width) terms)

    -- the row is refused or can't be stored, or it refers to a row that isn't there
    abbrev pub IsUnfit : Option Error → Type 0
    IsUnfit stop =
        Edited old.now.schema (mode_of old).keys old.now.trees edit (Err stop)
        ⊎ ((w : Written) × WritesRows task old.now.trees (Insert at (Values terms width)) (Ok w) × (¬ Refers (due (mode_of old)) old.now.schema w.trees))

    rows_refused : (stop : Option Error) → Inserts task (Values terms width) old.now.trees (Err stop) → IsUnfit stop
    rows_refused stop h = elim (EndsAs-stopped stop h) [
      | inl source ↦ absurd (Sourced-never_stops old.now params terms width typed old.step_limit unlimited stop source)
      | inr given ↦ elim (EndsAs-stopped stop given.2) [
        | inl counter ↦ absurd (let h = counter in cc)
        | inr counted ↦ elim (EndsAs-stopped stop counted.2) [
          | inl edited ↦ inl (subst (λ rows. Edited old.now.schema (mode_of old).keys old.now.trees (edit_of old.now.trees here [] Chosen 0 rows) (Err stop)) (given.1.1 ∙ ap (λ ps. value_rows ps width (length terms / width) terms) (append-nil params)) edited)
          | inr done ↦ elim (EndsAs-stopped stop done.2) [ inl counts ↦ absurd (let h = counts in cc) | inr last ↦ absurd (let h = last.2 in cc) ]
        ]
      ]
    ]

    -- an INSERT of one row fails as the store fails, or since the row is unfit
    pub insert_fails : (e : Error) → Executes sql params old new (Err e) → Fails old new (IsUnfit None) e ⊎ IsUnfit (Some e)
    insert_fails e h = elim (Executes-change_fails sql params old new (Insert at (Values terms width)) (λ e. IsUnfit (Some e)) means whole refl refl (λ e is same. absurd (IsMisplaced-never_anywhere old (Insert at (Values terms width)) refl e is)) (λ e writes. unfit (Some e)) e h) [ inl fails ↦ inl (Fails-weaken old new e (unfit None) fails) | inr is ↦ inr is ]
      where
        unfit : (stop : Option Error) → Does old.step_limit (mode_of old) params old.now sql None (Insert at (Values terms width)) (Err stop) → IsUnfit stop
        unfit stop h = elim (OnTable-stops params old at found (Insert at (Values terms width)) stop h) [ inl written ↦ rows_refused stop written | inr stray ↦ inr stray ]
