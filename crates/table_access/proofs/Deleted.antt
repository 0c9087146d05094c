-- A DELETE from a table to which no other refers is refused by nothing while the store works.
use Rattle.std.proofs.Common.{◌≡◌, inl, inr, ℕ, ℤ, List, [], ◌∷◌, length, slice_get, Bool, true, false, not, nat_lt, Some, None, Option, Ok, Err, refl, sym, ap, subst}
use Rattle.std.proofs.{lemmas.Bool.{or_right}, Math.Bool.{and-false}}
use Rattle.sqlite.specs.{Order.{Row}, Tree.{Trees, IsTable, IsAscending}, Schema.{Schema}, Table.{Table}, Term.{Term, col}, Command.TheVariants.{Delete}}
use Rattle.sqlite.specs.{Rowids.TheVariants.{Given}, declared.error.Error.{Error}, Rows.{Written, Task, Deletes}, Does.{Does}}
use Rattle.sqlite.specs.State.{State, Executes, Fails, mode_of}
use Rattle.sqlite_schema.specs.{declared.schema.Keys.{Keys}, declared.schema.Column.{Column}, declared.schema.Reference.{Reference}}
use Rattle.sqlite_schema.specs.{declared.schema.Among.TheVariants.{All}, declared.schema.Constraint.{Constraint}, declared.program.Program.{Program}}
use Rattle.sqlite_schema.specs.Rules.{Refers, Keeps, references_fit, guards}
use Rattle.sqlite_value.specs.declared.keys.Order.{Order}
use Rattle.sqlite_rules.{specs.{Lists.{Has}, Calls.{ids_of}, Edit.{Edit, edit_of, is_off}}, proofs.ListLemmas.{test_from}}
use Rattle.table_access.{specs.Statements.{plain_table, from_table, HasNoActions}, proofs.Edits.{IsAlone, Suits, goes, refers}}
use Rattle.table_access.proofs.Answered.{Runs, Queried-never_stops}
use Rattle.table_access.proofs.Refused.{EndsAs-stopped, IsMisplaced-never_anywhere, OnTable-stops, Executes-change_fails, Fails-weaken}
use Rattle.table_access.proofs.Steps.{Means, Ok-not_stopped, Ok-injective}

module _ (name : List ℕ) (tree : ℕ) (columns : List Column) (key : Option ℕ) (primary : List ℕ) (uniques : List (List ℕ)) (orders : List Order) (checks : List Term) (references : List Reference) where
  abbrev here : Table
  here = plain_table name tree columns key primary uniques orders checks references

  -- the tables are apart, no foreign key acts, none leads to this table, and what refers at all finds its key
  pub record IsLeaf (schema : Schema) : Type 0 where
    pub apart : IsAscending (λ a b. a.tree ≡ b.tree → ⊥) schema.tables
    pub no_actions : HasNoActions schema.tables
    pub alone : IsAlone schema tree
    pub fits : (removes : Bool) → references_fit schema here false removes ≡ true

  -- an edit that only takes rows out
  abbrev taking : Trees → List ℤ → Edit
  taking db ids = edit_of db here ids Given 0 []

  -- it is refused by no rule
  Suits-taking : (schema : Schema) → IsLeaf schema → Has schema.tables here → (keys : Keys) (db : Trees) (ids : List ℤ) → IsTable (db tree) → ((rule : Constraint) → Keeps rule schema db) → Suits ⊥ schema keys db (taking db ids)
  Suits-taking schema leaf listed keys db ids ordered rules = record {
    apart = leaf.apart;
    no_actions = leaf.no_actions;
    listed = listed;
    ordered = ordered;
    rules = rules;
    storable = λ row none. absurd none;
    pass = record { typed = refl; present = refl; checked = refl };
    keyed = refl;
    fits = refl;
    fresh = refl;
    unique = test_from _ schema.indexes (λ i known. ap not (and-false (guards i here)));
    referred = or_right (is_off keys) _ (leaf.fits (nat_lt 0 (length ids)));
    parents = λ row none. absurd none;
    alone = inr leaf.alone;
  }

  -- ---- the statement

  module _ (sql : List ℕ) (params : Row) (old new : State) (at : ℕ) (found : slice_get old.now.schema.tables at ≡ Some here) (terms : List Term) (means : Means old.now.schema sql (Delete at (record { lets = []; body = from_table tree terms (col 1 0 ∷ []) [] })))
      (runs : Runs old.now.schema sql params (from_table tree terms (col 1 0 ∷ []) [])) (unlimited : old.step_limit ≡ None) (leaf : IsLeaf old.now.schema) (listed : Has old.now.schema.tables here)
      (ordered : IsTable (old.now.trees tree)) (rules : (rule : Constraint) → Keeps rule old.now.schema old.now.trees) where
    abbrev query : Program
    query = record { lets = []; body = from_table tree terms (col 1 0 ∷ []) [] }

    abbrev task : Task
    task = record { limit = old.step_limit; keys = (mode_of old).keys; schema = old.now.schema; table = here; params = params }

    suits : (ids : List ℤ) → Suits ⊥ old.now.schema (mode_of old).keys old.now.trees (taking old.now.trees ids)
    suits ids = Suits-taking old.now.schema leaf listed (mode_of old).keys old.now.trees ids ordered rules

    deleted : (stop : Option Error) → Deletes task query old.now.trees (Err stop) → ⊥
    deleted stop h = elim (EndsAs-stopped stop h) [
      | inl queried ↦ Queried-never_stops params old.now query.body runs.typed runs.sumless old.step_limit unlimited stop queried
      | inr ids ↦ elim (EndsAs-stopped stop ids.2) [ inl edited ↦ (goes ⊥ old.now.schema (mode_of old).keys old.now.trees (taking old.now.trees (ids_of ids.0)) (suits (ids_of ids.0)) stop edited).1 | inr done ↦ let e = done.2 in cc ]
    ]

    left_sound : (w : Written) → Deletes task query old.now.trees (Ok w) → Refers All old.now.schema w.trees
    left_sound w h =
        let ids = Ok-not_stopped h in
        let gone = Ok-not_stopped ids.2 in
        subst (λ trees. Refers All old.now.schema trees) (sym (ap (λ (it : Written). it.trees) (Ok-injective gone.2))) (refers ⊥ old.now.schema (mode_of old).keys old.now.trees (taking old.now.trees (ids_of ids.0)) (suits (ids_of ids.0)) gone.0 gone.1)

    does : (stop : Option Error) → Does old.step_limit (mode_of old) params old.now sql None (Delete at query) (Err stop) → ⊥
    does stop h = elim (OnTable-stops name tree columns key primary uniques orders checks references params old at found (Delete at query) stop h) [ inl written ↦ deleted stop written | inr stray ↦ stray.2 (left_sound stray.0 stray.1) ]

    -- it fails only as the store fails, and no row is too big
    pub delete_fails : (e : Error) → Executes sql params old new (Err e) → Fails old new ⊥ e
    delete_fails e h = elim (Executes-change_fails sql params old new (Delete at query) (λ e. ⊥) means runs.whole refl refl (λ e is same. IsMisplaced-never_anywhere old (Delete at query) refl e is) (λ e writes. does (Some e)) e h) [ inl fails ↦ Fails-weaken old new e (does None) fails | inr never ↦ absurd never ]
