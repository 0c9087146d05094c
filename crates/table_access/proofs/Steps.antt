-- What the statements do, over any schema.
use Rattle.std.specs.{List.{flat_map, AllByRecursion}, List.Sorted.{IsPermutation}, Ordering.{is_eq, match_ordering}}
use Rattle.std.proofs.Common.{◌≡◌, ◌⊎◌, inl, inr, ℕ, List, [], ◌∷◌, ◌++◌, map, filter, length, slice_get, Bool, true, false, cond, Some, None, Option, Ok, Err, Result, refl, sym, ap, subst, subst₂, ◌∙◌, append-nil, nat_le, ◌^◌, unwrap_or, ◌&&◌, ◌||◌, not, Ordering, Less, Equal, Greater, ◌/◌, ◌≢◌}
use Rattle.std.proofs.{lemmas.List.{length-map}, lemmas.List.Sorted.{IsPermutation-map, length_permutation}, lemmas.Bool.{cases_eq, and_parts, not-true}}
use Rattle.sqlite_keyed.proofs.{ListLemmas.{map-map, IsPermutation-same}, RuleLemmas.{first_of_both}}
use Rattle.sqlite.specs.{declared.types.Value.TheVariants.{Null}, Order.{Row, value_cmp, column}, Term.{Term, col}, Tree.{Trees, put_row, rowid}}
use Rattle.sqlite.specs.{Schema.{Schema}, Command.{Command}, Command.TheVariants.{Select, Insert, Delete, Update}, Query.{IsAnswer, output, Output}}
use Rattle.sqlite.specs.{Program.{overlay}, Listing.{understood, reads_listing}, State.{State, Shown, ShowsRows, IsUnchanged, Executes, Writes, mode_of}}
use Rattle.sqlite.specs.{Clock.{timed}, View.{is_int}, Table.{Table}, Source.TheVariants.{Values}, Rowids.TheVariants.{Given, Chosen}}
use Rattle.sqlite.specs.{Edit.{is_taken, with_rowid, edit_of, without_all}, Cast.{cast_row}, Rowids.{Rowids}, Effect.{Database, value_rows, Answers}}
use Rattle.sqlite.specs.{Does.{Tally, OnTable, OnRows, AtPlace, WritesRows, Concludes}, Rows.{Written, Task, Inserts, Updates, Edited}}
use Rattle.sqlite.{specs.declared.run.Mode.{Mode}, proofs.Callers.{IsPlain, command_of, statement_of, runs_as, reads_as, one_step, through, one_permutation}}
use Rattle.sqlite_value.specs.{declared.keys.Key.{Key}, declared.keys.Order.{Order}}
use Rattle.table_access.specs.{Statements.{from_table, keeps, shows, IsAdded, ChangesOnly, plain_table, HasNoActions}, Sound.{IsNumbered}}
use Rattle.table_access.proofs.{Removal.{works-HasNoActions, without_all-ids_of, IsNumbered-filter}, Values.{cond-same}}
use Rattle.sqlite_schema.specs.{declared.schema.Reference.{Reference}, declared.schema.Keys.{Keys}, declared.program.Program.{Program}}
use Rattle.sqlite_schema.specs.declared.schema.Column.{Column}
use Rattle.sqlite_rules.{specs.{Edit.{taken_by}, Calls.{ids_of}}, proofs.ActionLemmas.{no_works}}
use Rattle.sqlite_trees.proofs.TreeLemmas.{IsTable-put_row, all-put_row}

-- what a text means over a schema: each field is found by refl, under `unfolding understood everything`
pub record Means (schema : Schema) (sql : List ℕ) (command : Command) : Type 0 where
  pub is : command_of (understood schema sql) ≡ command
  pub plain : IsPlain (understood schema sql)
  pub unlisted : reads_listing schema sql ≡ false

-- a plain text, which has no RETURNING, leaves all as it was if it shows rows
pub Shown-IsUnchanged : (sql : List ℕ) (params : Row) (old new : State) (rows : List Row) → IsPlain (understood old.now.schema sql) → Shown sql params old new rows → IsUnchanged old new
unfolding Shown
Shown-IsUnchanged sql params old new rows plain h =
    let none = (subst IsPlain h.1.is plain).0 in
    (subst (ShowsRows old new sql h.0 (timed params h.0.formats h.1.now) rows) none h.2).3

-- what is made of each row that WHERE keeps
pub flat_map-filter : {X : Type 0} (keep : Row → Bool) (f : Row → X) (rows : List Row) → flat_map (λ r. cond (keep r) (f r ∷ []) []) rows ≡ map f (filter keep rows)
flat_map-filter keep f [] = refl
flat_map-filter keep f (r ∷ rows) = elim (keep r) as (λ b. cond b (f r ∷ []) [] ++ flat_map (λ x. cond (keep x) (f x ∷ []) []) rows ≡ map f (cond b (r ∷ filter keep rows) (filter keep rows))) [
  | true ↦ ap (λ more. f r ∷ more) (flat_map-filter keep f rows)
  | false ↦ flat_map-filter keep f rows
]

pub overlay-nil : (db : Trees) (t : ℕ) → overlay db [] t ≡ db t
overlay-nil db t = ap (λ o. unwrap_or o (db t)) (cond-same (nat_le (2 ^ 31) t) None)

module _ (db : Database) (params : Row) (t : ℕ) (terms project : List Term) (order : List (Term × Key)) (rows : List Row)
    (h : Answers db (record { lets = []; body = from_table t terms project order }) params rows) where
  abbrev answer : IsAnswer (from_table t terms project order) (overlay db.trees []) params rows
  answer = h.answer Null

  pub kept-outputs : answer.kept ≡ map (λ r. output (from_table t terms project order) (params ∷ r ∷ [])) (filter (keeps terms params) (db.trees t))
  kept-outputs =
      let q = from_table t terms project order in
      answer.distinct ∙ ap (map (output q)) (answer.grouped ∙ ap (flat_map (λ r. cond (keeps terms params r) ((params ∷ r ∷ []) ∷ []) [])) (overlay-nil db.trees t) ∙ flat_map-filter (keeps terms params) (λ r. params ∷ r ∷ []) (db.trees t)) ∙ map-map _ _ _

  -- the rows that WHERE keeps are shown, in some order
  pub IsPermutation-kept_rows : IsPermutation (map (shows project params) (filter (keeps terms params) (db.trees t))) rows
  IsPermutation-kept_rows =
      let kept = ap (map (λ (o : Output). o.1)) kept-outputs ∙ map-map _ _ _ in
      subst₂ IsPermutation kept (sym answer.shown) (IsPermutation-map (λ (o : Output). o.1) answer.kept answer.ordered answer.same)

  -- if it keeps one, only that is shown
  pub shows-one_row : (r : Row) → filter (keeps terms params) (db.trees t) ≡ r ∷ [] → rows ≡ shows project params r ∷ []
  shows-one_row r found = one_permutation _ rows (subst (λ xs. IsPermutation xs rows) (ap (map (shows project params)) found) IsPermutation-kept_rows)

module _ (sql : List ℕ) (params : Row) (old new : State) (t : ℕ) (terms project : List Term) (order : List (Term × Key)) (names : List (List ℕ))
    (means : Means old.now.schema sql (Select (record { lets = []; body = from_table t terms project order }) names)) (rows : List Row) (h : Shown sql params old new rows) where
  -- SELECT project FROM a table WHERE terms shows the rows that WHERE keeps, in some order
  pub IsPermutation-selected_rows : IsPermutation (map (shows project params) (filter (keeps terms params) (old.now.trees t))) rows
  IsPermutation-selected_rows = IsPermutation-kept_rows old.now params t terms project order rows (reads_as sql params old new old.now.schema refl _ means.is means.plain means.unlisted rows h)

-- a query that was shown is IsPermutation-kept_rows
pub Shown-Answers : (sql : List ℕ) (params : Row) (old new : State) (program : Program) (names : List (List ℕ)) → Means old.now.schema sql (Select program names) → (rows : List Row) → Shown sql params old new rows → Answers old.now program params rows
Shown-Answers sql params old new program names means rows h = reads_as sql params old new old.now.schema refl _ means.is means.plain means.unlisted rows h

-- ---- INSERT

-- a part that gave a value did not stop on the way
pub Ok-not_stopped : {B E R : Type 0} {b : B} {Stops : E → Type 0} → ((stop : E) × Stops stop × (Ok b ≡ Err stop)) ⊎ R → R
Ok-not_stopped (inl stopped) = absurd (let e = stopped.2 in cc)
Ok-not_stopped (inr on) = on

pub Ok-injective : {B E : Type 0} {a b : B} → ◌≡◌ {A = Result B E} (Ok a) (Ok b) → a ≡ b
Ok-injective e = cc

pub put_row-IsAdded : (new : Row) (rows : List Row) → is_taken rows new ≡ false → IsAdded rows (put_row new rows) new
put_row-IsAdded new [] fresh = record { front = []; back = []; was = refl; is = refl }
put_row-IsAdded new (r ∷ rows) fresh = go (value_cmp (rowid r) (rowid new)) refl fresh (put_row-IsAdded new rows)
  where
    go : (o : Ordering) → value_cmp (rowid r) (rowid new) ≡ o → (is_eq o || is_taken rows new) ≡ false → (is_taken rows new ≡ false → IsAdded rows (put_row new rows) new)
        → IsAdded (r ∷ rows) (match_ordering o (r ∷ put_row new rows) (new ∷ rows) (new ∷ r ∷ rows)) new
    go Less e h later = let more = later h in record { front = r ∷ more.front; back = more.back; was = ap (λ rs. r ∷ rs) more.was; is = ap (λ rs. r ∷ rs) more.is }
    go Equal e h later = absurd cc
    go Greater e h later = record { front = []; back = r ∷ rows; was = refl; is = refl }

pub put_row-IsNumbered : (new : Row) (rows : List Row) → is_int (rowid new) ≡ true → IsNumbered rows → IsNumbered (put_row new rows)
put_row-IsNumbered new rows int numbered = (IsTable-put_row new rows numbered.0, all-put_row _ new rows int numbered.1)

pub not_and-left_false : (b c : Bool) → (not b && c) ≡ true → b ≡ false
not_and-left_false b c h = not-true b (and_parts (not b) c h).0

-- what a statement on rows leaves, and what it notes: how many rows it wrote or took out
pub OnRows-concludes : (task : Task) (mode : Mode) (command : Command) (db : Trees) (tally : Tally) (after : Database) → OnRows task mode None command db (Ok (tally, after))
    → (w : Written) × WritesRows task db command (Ok w) × (after ≡ record { schema = task.schema; trees = w.trees }) × (tally.rows ≡ Some (length w.rows))
OnRows-concludes task mode command db tally after h =
    let done = through (WritesRows task db command) (Concludes task mode None) (tally, after) h in
    let returned = Ok-injective (Ok-not_stopped (Ok-not_stopped done.2).2).2 in
    (done.0, done.1, ap (λ (p : Tally × Database). p.1) returned, ap (λ (p : Tally × Database). p.0.rows) returned)

-- the rows of each table are numbered, if those of the changed one are
IsNumbered-after_change : (schema : Schema) (tree : ℕ) (db next : Trees) → (IsNumbered (db tree) → IsNumbered (next tree)) → AllByRecursion (λ t. t.tree ≢ tree → next t.tree ≡ db t.tree) schema.tables
    → AllByRecursion (λ t. IsNumbered (db t.tree)) schema.tables → AllByRecursion (λ t. IsNumbered (next t.tree)) schema.tables
IsNumbered-after_change schema tree db next here others all = go schema.tables others all
  where
    one : (t : Table) → (t.tree ≢ tree → next t.tree ≡ db t.tree) → IsNumbered (db t.tree) → IsNumbered (next t.tree)
    one t other was = elim (cases_eq t.tree tree) [ inl same ↦ subst (λ n. IsNumbered (next n)) (sym same) (here (subst (λ n. IsNumbered (db n)) same was)) | inr apart ↦ subst IsNumbered (sym (other apart)) was ]

    go : (ts : List Table) → AllByRecursion (λ t. t.tree ≢ tree → next t.tree ≡ db t.tree) ts → AllByRecursion (λ t. IsNumbered (db t.tree)) ts → AllByRecursion (λ t. IsNumbered (next t.tree)) ts
    go [] o a = tt
    go (t ∷ ts) o a = (one t o.0 a.0, go ts o.1 a.1)

-- the parts of what a write says
pub Writes-ChangesOnly : (old new : State) (tree : ℕ) (command : Command) (text : List ℕ) (params : Row) (count : ℕ) (w : Writes old new None command text params count) → new.now.schema ≡ old.now.schema
    → (IsNumbered (old.now.trees tree) → IsNumbered (new.now.trees tree)) → AllByRecursion (λ t. t.tree ≢ tree → new.now.trees t.tree ≡ old.now.trees t.tree) old.now.schema.tables → ChangesOnly tree old new
Writes-ChangesOnly old new tree command text params count w schema here others = record {
  schema = schema;
  kept = λ kept. record { sound = w.sound; numbered = subst (λ (s : Schema). AllByRecursion (λ t. IsNumbered (new.now.trees t.tree)) s.tables) (sym schema) (IsNumbered-after_change old.now.schema tree old.now.trees new.now.trees here others kept.numbered) };
  others = others;
  inside = λ inside. (w.shown.mode ∙ inside, w.shown.committed_is ∙ ap (λ b. cond b old.committed new.now) inside);
  marks = w.marks;
}

-- The row is added to these rows of the table at this tree, which are numbered if the old ones were, and each other table is as it was.
abbrev pub Added : ℕ → List Row → Row → Schema → Trees → Trees → Type 0
Added tree rows made schema db next =
    IsAdded rows (next tree) made × (IsNumbered (db tree) → IsNumbered (next tree)) × AllByRecursion (λ t. t.tree ≢ tree → next t.tree ≡ db t.tree) schema.tables

module _ (name : List ℕ) (tree : ℕ) (columns : List Column) (key : Option ℕ) (primary : List ℕ) (uniques : List (List ℕ)) (orders : List Order) (checks : List Term) (references : List Reference) where
  abbrev here : Table
  here = plain_table name tree columns key primary uniques orders checks references

  Inserts-Edited : (limit : Option ℕ) (keys : Keys) (schema : Schema) (params : Row) (terms : List Term) (width : ℕ) (db : Trees) (w : Written)
      → Inserts (record { limit = limit; keys = keys; schema = schema; table = here; params = params }) (Values terms width) db (Ok w)
      → Edited schema keys db (edit_of db here [] Chosen 0 (value_rows params width (length terms / width) terms)) (Ok w.trees)
  Inserts-Edited limit keys schema params terms width db w h =
      let given = Ok-not_stopped h in
      let counter = Ok-not_stopped given.2 in
      let written = Ok-not_stopped counter.2 in
      let counted = Ok-not_stopped written.2 in
      let trees : w.trees ≡ written.0 = ap (λ (it : Written). it.trees) (Ok-injective counted.2) ∙ Ok-injective counted.1 in
      subst₂ (λ rows t. Edited schema keys db (edit_of db here [] Chosen 0 rows) (Ok t)) (given.1.1 ∙ ap (λ ps. value_rows ps width (length terms / width) terms) (append-nil params)) (sym trees) written.1

  -- the edit that puts in one row
  pub Edited-Added : (rowids : Rowids) (schema : Schema) (keys : Keys) (db next : Trees) (row made : Row) → with_rowid rowids (db tree) (cast_row here row) ≡ made → Edited schema keys db (edit_of db here [] rowids 0 (row ∷ [])) (Ok next)
      → Added tree (db tree) made schema db next
  Edited-Added rowids schema keys db next row made cast h =
      let edit = edit_of db here [] rowids 0 (row ∷ []) in
      let one = one_step schema keys db next edit (no_works schema keys 0 tree edit.news) h in
      let put = put_row-IsAdded (with_rowid rowids (db tree) (cast_row here row)) (db tree) (not_and-left_false (is_taken (db tree) (with_rowid rowids (db tree) (cast_row here row))) true one.fresh) in (
        record { front = put.front; back = put.back; was = put.was; is = one.rows ∙ put.is ∙ ap (λ r. put.front ++ r ∷ put.back) cast },
        λ numbered. subst IsNumbered (sym one.rows) (IsTable-put_row _ (db tree) numbered.0, all-put_row _ _ (db tree) (first_of_both _ true one.keyed) numbered.1),
        one.tables,
      )

  -- an UPDATE of one row takes it out and puts in what SET makes of it
  pub Updates-Added : (limit : Option ℕ) (keys : Keys) (schema : Schema) (given : Row) (terms project : List Term) (with : Row) (db : Trees) (w : Written)
      → Updates (record { limit = limit; keys = keys; schema = schema; table = here; params = given }) (record { lets = []; body = from_table tree terms (col 1 0 ∷ project) [] }) with db (Ok w) → HasNoActions schema.tables → IsNumbered (db tree)
      → (r made : Row) → filter (keeps terms with) (db tree) ≡ r ∷ [] → cast_row here (shows project with r) ≡ made → Added tree (filter (λ x. not (keeps terms with x)) (db tree)) made schema db w.trees
  Updates-Added limit keys schema given terms project with db w h no_actions numbered r made found cast =
      let keep = keeps terms with in
      let seen = Ok-not_stopped h in
      let put = Ok-not_stopped seen.2 in
      let one = shows-one_row (record { schema = schema; trees = db }) with tree terms (col 1 0 ∷ project) [] seen.0 seen.1 r found in
      let edit = edit_of db here (ids_of (shows (col 1 0 ∷ project) with r ∷ [])) Given 1 (shows (col 1 0 ∷ project) with r ∷ []) in
      let edited : Edited schema keys db edit (Ok put.0) = subst (λ xs. Edited schema keys db (edit_of db here (ids_of xs) Given 1 xs) (Ok put.0)) one put.1 in
      let step = one_step schema keys db put.0 edit (works-HasNoActions schema keys 0 tree (taken_by db edit) edit.news no_actions) edited in
      let rest : without_all (db tree) (ids_of ((column r 0 ∷ []) ∷ [])) ≡ filter (λ x. not (keep x)) (db tree) = without_all-ids_of (db tree) numbered keep ((column r 0 ∷ []) ∷ []) (IsPermutation-same _ _ (ap (map (λ x. column x 0 ∷ [])) found)) in
      let there = put_row-IsAdded (cast_row here (shows project with r)) (without_all (db tree) (ids_of ((column r 0 ∷ []) ∷ []))) (not_and-left_false _ true step.fresh) in
      subst (Added tree (filter (λ x. not (keep x)) (db tree)) made schema db) (sym (ap (λ (it : Written). it.trees) (Ok-injective put.2))) (
        record { front = there.front; back = there.back; was = sym rest ∙ there.was; is = step.rows ∙ there.is ∙ ap (λ x. there.front ++ x ∷ there.back) cast },
        λ was. subst IsNumbered (sym step.rows) (put_row-IsNumbered _ _ (first_of_both _ true step.keyed) (subst IsNumbered (sym rest) (IsNumbered-filter (λ x. not (keep x)) (db tree) was))),
        step.tables,
      )

  module _ (sql : List ℕ) (params : Row) (old new : State) (at : ℕ) (found : slice_get old.now.schema.tables at ≡ Some here) where
    abbrev task : Task
    task = record { limit = old.step_limit; keys = (mode_of old).keys; schema = old.now.schema; table = here; params = params }

    on_table : (command : Command) (tally : Tally) → OnTable old.step_limit (mode_of old) params old.now at (λ task. OnRows task (mode_of old) None command old.now.trees) (Ok (tally, new.now))
        → OnRows task (mode_of old) None command old.now.trees (Ok (tally, new.now))
    on_table command tally h =
        subst (λ o. AtPlace (λ table. OnRows (record task { table = table }) (mode_of old) None command old.now.trees) o (Ok (tally, new.now))) found h

    -- an INSERT of one row adds it, as its table stores it and with a number, and changes no other table
    pub inserts : (terms : List Term) (width : ℕ) (row made : Row) → value_rows params width (length terms / width) terms ≡ row ∷ [] → with_rowid Chosen (old.now.trees tree) (cast_row here row) ≡ made
        → Means old.now.schema sql (Insert at (Values terms width)) → (count : ℕ) → Executes sql params old new (Ok count)
        → ChangesOnly tree old new × IsAdded (old.now.trees tree) (new.now.trees tree) made
    inserts terms width row made one cast means count h =
        let command = Insert at (Values terms width) in
        let w = runs_as sql params old new old.now.schema refl command means.is means.plain count h in
        let done = OnRows-concludes task (mode_of old) command old.now.trees w.tally new.now (on_table command w.tally w.changed) in
        let put = Inserts-Edited old.step_limit (mode_of old).keys old.now.schema params terms width old.now.trees done.0 done.1 in
        let now : done.0.trees ≡ new.now.trees = sym (ap (λ (d : Database). d.trees) done.2) in
        let edit = subst (Added tree (old.now.trees tree) made old.now.schema old.now.trees) now (Edited-Added Chosen old.now.schema (mode_of old).keys old.now.trees done.0.trees row made cast (subst (λ rows. Edited old.now.schema (mode_of old).keys old.now.trees (edit_of old.now.trees here [] Chosen 0 rows) (Ok done.0.trees)) one put)) in
        (Writes-ChangesOnly old new tree command (statement_of sql (understood old.now.schema sql)) params count w (ap (λ (d : Database). d.schema) done.2) edit.1 edit.2, edit.0)

    -- if no foreign key acts, a DELETE takes out the rows that WHERE keeps and counts them, and changes no other table
    pub deletes : (terms : List Term) → Means old.now.schema sql (Delete at (record { lets = []; body = from_table tree terms (col 1 0 ∷ []) [] })) → HasNoActions old.now.schema.tables → IsNumbered (old.now.trees tree) → (count : ℕ) → Executes sql params old new (Ok count)
        → ChangesOnly tree old new × (new.now.trees tree ≡ filter (λ r. not (keeps terms params r)) (old.now.trees tree))
        × (count ≡ length (filter (keeps terms params) (old.now.trees tree)))
    deletes terms means no_actions numbered count h =
        let q : Program = record { lets = []; body = from_table tree terms (col 1 0 ∷ []) [] } in
        let command = Delete at q in
        let w = runs_as sql params old new old.now.schema refl command means.is means.plain count h in
        let done = OnRows-concludes task (mode_of old) command old.now.trees w.tally new.now (on_table command w.tally w.changed) in
        let ids = Ok-not_stopped done.1 in
        let gone = Ok-not_stopped ids.2 in
        let edit = edit_of old.now.trees here (ids_of ids.0) Given 0 [] in
        let one = one_step old.now.schema (mode_of old).keys old.now.trees gone.0 edit (works-HasNoActions old.now.schema (mode_of old).keys 0 tree (taken_by old.now.trees edit) [] no_actions) gone.1 in
        let now : gone.0 ≡ new.now.trees = sym (ap (λ (d : Database). d.trees) done.2 ∙ ap (λ (it : Written). it.trees) (Ok-injective gone.2)) in
        let shown = IsPermutation-kept_rows old.now params tree terms (col 1 0 ∷ []) [] ids.0 ids.1 in
        let rest : gone.0 tree ≡ filter (λ r. not (keeps terms params r)) (old.now.trees tree) = one.rows ∙ without_all-ids_of (old.now.trees tree) numbered (keeps terms params) ids.0 shown in (
          Writes-ChangesOnly old new tree command (statement_of sql (understood old.now.schema sql)) params count w (ap (λ (d : Database). d.schema) done.2)
              (λ was. subst (λ (next : Trees). IsNumbered (next tree)) now (subst IsNumbered (sym rest) (IsNumbered-filter (λ r. not (keeps terms params r)) (old.now.trees tree) was)))
              (subst (λ next. AllByRecursion (λ t. t.tree ≢ tree → next t.tree ≡ old.now.trees t.tree) old.now.schema.tables) now one.tables),
          ap (λ (next : Trees). next tree) (sym now) ∙ rest,
          w.counted ∙ ap (λ o. unwrap_or o 0) done.3 ∙ ap (λ (it : Written). length it.rows) (Ok-injective gone.2) ∙ length-map (ids_of ids.0) _ ∙ length-map ids.0 _
              ∙ length_permutation _ ids.0 shown ∙ length-map (filter (keeps terms params) (old.now.trees tree)) _,
        )

    -- an UPDATE of one row takes it out and puts in what SET makes of it
    pub updates : (terms project : List Term) → Means old.now.schema sql (Update at (record { lets = []; body = from_table tree terms (col 1 0 ∷ project) [] })) → HasNoActions old.now.schema.tables → IsNumbered (old.now.trees tree)
        → (r made : Row) → filter (keeps terms params) (old.now.trees tree) ≡ r ∷ [] → cast_row here (shows project params r) ≡ made → (count : ℕ) → Executes sql params old new (Ok count)
        → ChangesOnly tree old new × IsAdded (filter (λ x. not (keeps terms params x)) (old.now.trees tree)) (new.now.trees tree) made
    updates terms project means no_actions numbered r made found cast count h =
        let command = Update at (record { lets = []; body = from_table tree terms (col 1 0 ∷ project) [] }) in
        let w = runs_as sql params old new old.now.schema refl command means.is means.plain count h in
        let done = OnRows-concludes task (mode_of old) command old.now.trees w.tally new.now (on_table command w.tally w.changed) in
        let edit = subst (Added tree (filter (λ x. not (keeps terms params x)) (old.now.trees tree)) made old.now.schema old.now.trees) (sym (ap (λ (d : Database). d.trees) done.2))
        (Updates-Added old.step_limit (mode_of old).keys old.now.schema params terms project params old.now.trees done.0 done.1 no_actions numbered r made found cast) in
        (Writes-ChangesOnly old new tree command (statement_of sql (understood old.now.schema sql)) params count w (ap (λ (d : Database). d.schema) done.2) edit.1 edit.2, edit.0)
