-- What INSERT .. ON CONFLICT DO UPDATE leaves, of one row.
use Rattle.std.specs.{List.{AllByRecursion}, Ordering.{is_eq, ordering_reverse}, Cmp.{tied_itself}}
use Rattle.std.proofs.Common.{◌≡◌, ◌≢◌, ◌⊎◌, inl, inr, ℕ, ℤ, List, [], ◌∷◌, ◌++◌, filter, length, true, false, not, ◌/◌, Some, None, Option, Ok, refl, sym, ap, subst, subst₂, ◌∙◌, append-nil, slice_get}
use Rattle.std.proofs.Math.Bool.{and-true}
use Rattle.sqlite.specs.{Order.{Row, column, value_cmp}, Term.{Term, col, op2}, Tree.{Trees, rowid, IsTable}, Schema.{Schema}, Source.TheVariants.{Values}}
use Rattle.sqlite.specs.{Edit.{with_rowid, id_in}, View.{is_int}, declared.types.Value.{Value}, Collation.TheVariants.{Binary}, Command.TheVariants.{InsertOr}}
use Rattle.sqlite.specs.{State.{State, Executes, mode_of}, Does.{AtPlace, OnRows}, Effect.{Database, value_rows}, Listing.{understood}, Cast.{cast_row}}
use Rattle.sqlite.specs.{Rowids.TheVariants.{Chosen, Given}, Rows.{Written, Task, InsertsOr, Tries, TriesEach, Puts, Updates, shown, nothing, count_of}}
use Rattle.sqlite.{specs.{Table.{Table}, Query.{Query}}, proofs.Callers.{runs_as, statement_of}}
use Rattle.sqlite_schema.specs.{declared.schema.Column.{Column}, declared.schema.Reference.{Reference}, declared.schema.Keys.{Keys}}
use Rattle.sqlite_schema.specs.{declared.program.Program.{Program}, declared.command.Upsert.{Upsert}, declared.command.Conflict.TheVariants.{Abort}}
use Rattle.sqlite_value.{specs.declared.keys.Order.{Order}, proofs.OrderLemmas.{value_cmp_total, value_cmp-Int}}
use Rattle.sqlite_rules.{specs.{Keys.{AreConflicts, conflicts}, Lists.{Has}}, proofs.TableLemmas.{int_is}}
use Rattle.sqlite_keyed.proofs.ListLemmas.{filter_none}
use Rattle.table_access.specs.{Sound.{IsNumbered}, Statements.{plain_table, from_table, keeps, shows, HasNoActions, IsAdded, ChangesOnly}}
use Rattle.table_access.proofs.{Removal.{filter-same_tests}, Values.{binary-Eq_Int}, SoundLemmas.{at_has, all_of}}
use Rattle.table_access.proofs.Steps.{Means, Added, OnRows-concludes, Writes-ChangesOnly, Ok-not_stopped, Ok-injective, Edited-Added, Updates-Added}
use Rattle.sqlite_sql.specs.{declared.ops.BinaryOp.TheVariants.{Compare}, declared.ops.CompareOp.TheVariants.{Eq}, Ops.{binary, is_true}}

-- the terms of: WHERE rowid = this parameter
abbrev pub by_rowid : ℕ → List Term
by_rowid n = op2 (Compare Eq Binary) (col 1 0) (col 0 n) ∷ []

-- the columns that SET gives the row of that number
abbrev pub setting : ℕ → ℕ → List Term → Query
setting tree n project = from_table tree (by_rowid n) (col 1 0 ∷ project) []

module _ (name : List ℕ) (tree : ℕ) (columns : List Column) (key : Option ℕ) (primary : List ℕ) (uniques : List (List ℕ)) (orders : List Order) (checks : List Term) (references : List Reference) where
  abbrev here : Table
  here = plain_table name tree columns key primary uniques orders checks references

  module _ (limit : Option ℕ) (keys : Keys) (schema : Schema) (params : Row) (target : List ℕ) (q : Program) where
    abbrev task : Task
    task = record { limit = limit; keys = keys; schema = schema; table = here; params = params }

    abbrev clause : Upsert
    clause = record { target = Some target; update = Some q }

    -- no row has the key, and the row is put in; or one has it, and is Updates-Added
    abbrev pub Either : Row → Trees → Written → Type 0
    Either new db w =
        (AreConflicts (Some target) schema.indexes here (db tree) new [] × Puts task new db (Ok w))
        ⊎ ((there : Row) × (more : List Row) × AreConflicts (Some target) schema.indexes here (db tree) new (there ∷ more) × Updates task q (params ++ rowid there ∷ shown here new) db (Ok w))

    tried : (new : Row) (db : Trees) (w : Written) → Tries task Abort (clause ∷ []) new db (Ok w) → Either new db w
    tried new db w (inl refused) = absurd (let e = refused.1 in cc)
    tried new db w (inr (Some why, judged, it)) = absurd (let e = it in cc)
    tried new db w (inr (None, judged, ([], none, ([], other, it)))) = inl (none, it)
    tried new db w (inr (None, judged, ([], none, (x ∷ more, other, it)))) = inl (none, it)
    tried new db w (inr (None, judged, (there ∷ more, some, it))) = inr (there, more, some, it)

    pub upserts : (terms : List Term) (width : ℕ) (row : Row) (db : Trees) (w : Written) → value_rows params width (length terms / width) terms ≡ row ∷ [] → InsertsOr task Abort (clause ∷ []) (Values terms width) db (Ok w)
        → (done : Written) × (w.trees ≡ done.trees) × Either (with_rowid Chosen (db tree) (cast_row here row)) db done
    upserts terms width row db w one h =
        let given = Ok-not_stopped h in
        let counter = Ok-not_stopped given.2 in
        let each = Ok-not_stopped counter.2 in
        let last = Ok-not_stopped each.2 in
        let rows : given.0 ≡ row ∷ [] = given.1.1 ∙ ap (λ ps. value_rows ps width (length terms / width) terms) (append-nil params) ∙ one in
        let first = Ok-not_stopped (subst (λ rs. TriesEach task Abort (clause ∷ []) rs (count_of counter.0) (nothing db) (Ok each.0)) rows each.1) in
        let trees : w.trees ≡ first.0.trees = ap (λ (it : Written). it.trees) (Ok-injective last.2) ∙ Ok-injective last.1 ∙ ap (λ (p : Written × ℤ). p.0.trees) (Ok-injective first.2) in
        (first.0, trees, tried (with_rowid Chosen (db tree) (cast_row here row)) db first.0 first.1)

    -- a row that is put in
    put : (new made : Row) (db : Trees) (w : Written) → cast_row here new ≡ made → Puts task new db (Ok w) → Added tree (db tree) made schema db w.trees
    put new made db w cast h =
        let edit = Ok-not_stopped h in
        subst (Added tree (db tree) made schema db) (sym (ap (λ (it : Written). it.trees) (Ok-injective edit.2)))
        (Edited-Added name tree columns key primary uniques orders checks references Given schema keys db edit.0 new made cast edit.1)

-- a WHERE by the rowid of a row of the table keeps exactly this row
filter-by_rowid : (rows : List Row) → IsTable rows → (r : Row) → Has rows r → filter (λ x. is_eq (value_cmp (rowid x) (rowid r))) rows ≡ r ∷ []
filter-by_rowid [] up r has = absurd has
filter-by_rowid (y ∷ ys) up r (inl same) =
    let here_is : is_eq (value_cmp (rowid y) (rowid r)) ≡ true = ap (λ x. is_eq (value_cmp (rowid y) (rowid x))) same ∙ ap is_eq (tied_itself value_cmp_total (rowid y)) in
    let later : AllByRecursion (λ x. is_eq (value_cmp (rowid x) (rowid r)) ≡ false) ys =
    all_of _ ys (λ x has. ap (λ z. is_eq (value_cmp (rowid x) (rowid z))) same ∙ ap is_eq (value_cmp_total.antisymm (rowid x) (rowid y)) ∙ ap (λ o. is_eq (ordering_reverse o)) (at_has _ ys x up.0 has)) in
    rw (here_is, filter_none _ ys later) (ap (λ x. x ∷ []) (sym same))
filter-by_rowid (y ∷ ys) up r (inr has) =
    let below : is_eq (value_cmp (rowid y) (rowid r)) ≡ false = ap is_eq (at_has _ ys r up.0 has) in
    rw below (filter-by_rowid ys up.1 r has)

binary-Eq_rowids : (a b : Row) → is_int (rowid a) ≡ true → is_int (rowid b) ≡ true → is_true (binary (Compare Eq Binary) (rowid a) (rowid b)) ≡ is_eq (value_cmp (rowid a) (rowid b))
binary-Eq_rowids a b p q = subst₂ (λ v w. is_true (binary (Compare Eq Binary) v w) ≡ is_eq (value_cmp v w)) (sym (int_is (rowid a) p)) (sym (int_is (rowid b) q)) (binary-Eq_Int (id_in (rowid a)) (id_in (rowid b)) ∙ sym (ap is_eq (value_cmp-Int (id_in (rowid a)) (id_in (rowid b)))))

module _ (name : List ℕ) (tree : ℕ) (columns : List Column) (key : Option ℕ) (primary : List ℕ) (uniques : List (List ℕ)) (orders : List Order) (checks : List Term) (references : List Reference)
    (sql : List ℕ) (params : Row) (old new : State) (at : ℕ) (target : List ℕ) (n : ℕ) (project : List Term) where
  abbrev row_table : Table
  row_table = plain_table name tree columns key primary uniques orders checks references

  abbrev update : Program
  update = record { lets = []; body = setting tree n project }

  -- if no row has its key, the row is put in; else the row that has it is taken out, and what SET makes of it put in
  abbrev pub Upserted : Row → Type 0
  Upserted it =
      (AreConflicts (Some target) old.now.schema.indexes row_table (old.now.trees tree) it [] × IsAdded (old.now.trees tree) (new.now.trees tree) (cast_row row_table it))
      ⊎ ((r : Row) × Has (old.now.trees tree) r × (conflicts (Some target) old.now.schema.indexes row_table it r ≡ true)
      × IsAdded (filter (λ x. not (is_eq (value_cmp (rowid x) (rowid r)))) (old.now.trees tree)) (new.now.trees tree) (cast_row row_table (shows project (params ++ rowid r ∷ shown row_table it) r)))

  -- the row that is met is the one that WHERE keeps
  pub AreConflicts-kept_row : ((v : Value) (more : Row) → column (params ++ v ∷ more) n ≡ v) → IsNumbered (old.now.trees tree) → (there : Row) (more : List Row) (it : Row) → AreConflicts (Some target) old.now.schema.indexes row_table (old.now.trees tree) it (there ∷ more)
      → (r : Row) × Has (old.now.trees tree) r × (conflicts (Some target) old.now.schema.indexes row_table it r ≡ true) × (rowid there ≡ rowid r)
      × (filter (keeps (by_rowid n) (params ++ rowid there ∷ shown row_table it)) (old.now.trees tree) ≡ r ∷ [])
      × ((x : Row) → Has (old.now.trees tree) x → keeps (by_rowid n) (params ++ rowid there ∷ shown row_table it) x ≡ is_eq (value_cmp (rowid x) (rowid r)))
  AreConflicts-kept_row placed numbered there more it found =
      let rows = old.now.trees tree in
      let hit = found.sound there (inl refl) in
      let same : rowid there ≡ rowid hit.0 = ap rowid hit.3 in
      let with = params ++ rowid there ∷ shown row_table it in
      let where_row : (x : Row) → Has rows x → keeps (by_rowid n) with x ≡ is_eq (value_cmp (rowid x) (rowid hit.0)) =
      λ x has. and-true (is_true (binary (Compare Eq Binary) (rowid x) (column with n))) ∙ ap (λ v. is_true (binary (Compare Eq Binary) (rowid x) v)) (placed (rowid there) (shown row_table it) ∙ same)
      ∙ binary-Eq_rowids x hit.0 (at_has _ rows x numbered.1 has) (at_has _ rows hit.0 numbered.1 hit.1) in
      (hit.0, hit.1, hit.2, same, filter-same_tests _ _ rows where_row ∙ filter-by_rowid rows numbered.0 hit.0 hit.1, where_row)

  -- if no foreign key acts, INSERT .. ON CONFLICT DO UPDATE puts one row in or updates the one in its way
  pub Executes-upsert : (terms : List Term) (width : ℕ) (row : Row) → slice_get old.now.schema.tables at ≡ Some row_table → value_rows params width (length terms / width) terms ≡ row ∷ []
      → ((v : Value) (more : Row) → column (params ++ v ∷ more) n ≡ v) → Means old.now.schema sql (InsertOr at Abort (Values terms width) (record { target = Some target; update = Some update } ∷ []))
      → HasNoActions old.now.schema.tables → IsNumbered (old.now.trees tree) → (count : ℕ) → Executes sql params old new (Ok count)
      → ChangesOnly tree old new × Upserted (with_rowid Chosen (old.now.trees tree) (cast_row row_table row))
  Executes-upsert terms width row found one placed means no_actions numbered count h =
      let command = InsertOr at Abort (Values terms width) (record { target = Some target; update = Some update } ∷ []) in
      let w = runs_as sql params old new old.now.schema refl command means.is means.plain count h in
      let job : Task = record { limit = old.step_limit; keys = (mode_of old).keys; schema = old.now.schema; table = row_table; params = params } in
      let on = subst (λ o. AtPlace (λ table. OnRows (record job { table = table }) (mode_of old) None command old.now.trees) o (Ok (w.tally, new.now))) found w.changed in
      let done = OnRows-concludes job (mode_of old) command old.now.trees w.tally new.now on in
      let it = upserts name tree columns key primary uniques orders checks references old.step_limit (mode_of old).keys old.now.schema params target update terms width row old.now.trees done.0 one done.1 in
      let trees : it.0.trees ≡ new.now.trees = sym (ap (λ (d : Database). d.trees) done.2 ∙ it.1) in
      let made = with_rowid Chosen (old.now.trees tree) (cast_row row_table row) in
      let both : Upserted made × (IsNumbered (old.now.trees tree) → IsNumbered (new.now.trees tree)) × AllByRecursion (λ t. t.tree ≢ tree → new.now.trees t.tree ≡ old.now.trees t.tree) old.now.schema.tables = elim it.2 [
        | inl none ↦
            let into = subst (Added tree (old.now.trees tree) (cast_row row_table made) old.now.schema old.now.trees) trees
            (put name tree columns key primary uniques orders checks references old.step_limit (mode_of old).keys old.now.schema params target update made (cast_row row_table made) old.now.trees it.0 refl none.1) in
            (inl (none.0, into.0), into.1, into.2)
        | inr some ↦
            let hit = AreConflicts-kept_row placed numbered some.0 some.1 made some.2 in
            let there_is : rowid some.0 ≡ rowid hit.0 = hit.3 in
            let with = params ++ rowid some.0 ∷ shown row_table made in
            let changed = subst (Added tree (filter (λ x. not (keeps (by_rowid n) with x)) (old.now.trees tree)) (cast_row row_table (shows project with hit.0)) old.now.schema old.now.trees) trees
            (Updates-Added name tree columns key primary uniques orders checks references old.step_limit (mode_of old).keys old.now.schema params (by_rowid n) project with old.now.trees it.0 some.3 no_actions numbered hit.0
            (cast_row row_table (shows project with hit.0)) hit.4 refl) in
            let others = filter-same_tests (λ x. not (keeps (by_rowid n) with x)) (λ x. not (is_eq (value_cmp (rowid x) (rowid hit.0)))) (old.now.trees tree) (λ x has. ap not (hit.5 x has)) in
            let stated = subst₂ (λ rest v. IsAdded rest (new.now.trees tree) (cast_row row_table (shows project (params ++ v ∷ shown row_table made) hit.0))) others there_is changed.0 in
            (inr (hit.0, hit.1, hit.2, stated), changed.1, changed.2)
      ] in
      (Writes-ChangesOnly old new tree command (statement_of sql (understood old.now.schema sql)) params count w (ap (λ (d : Database). d.schema) done.2) both.1 both.2, both.0)
