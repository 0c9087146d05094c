-- INSERT .. ON CONFLICT DO UPDATE of one row into a table of the broker to which no other refers: what it leaves, and why
-- it fails. If the row suits its table, only as the store fails.
use Rattle.std.specs.{List.{AllByRecursion}, Ordering.{is_eq, eq_by_cmp}, Cmp.{eq_by_cmp_equiv, Equal-is}}
use Rattle.std.proofs.Common.{◌≡◌, ◌⊎◌, inl, inr, ℕ, ℤ, ◌<◌, ◌≤◌, ◌^◌, List, [], ◌∷◌, ◌++◌, map, filter, length, slice_get, true, false, not, ◌||◌, cond, Ordering, refl, sym, ap, subst, ◌∙◌, ◌/◌, arith, bytes_eq, Some, Ok}
use Rattle.std.proofs.{lemmas.Bool.{lt-ltb}, Math.Bool.{or-false}}
use Rattle.sqlite.specs.{declared.types.Value.{Value}, declared.types.Value.TheVariants.{Null, Int}, Cast.{cast_row, cast_all}, Command.TheVariants.{InsertOr}}
use Rattle.sqlite.specs.{Source.TheVariants.{Values}, Rowids.TheVariants.{Chosen}, Edit.{next_rowid, with_rowid, id_in}, Effect.{value_rows}}
use Rattle.sqlite.specs.{Listing.{understood}, Order.{Row, column, value_cmp}, Rows.{shown}, Schema.{Schema}, State.{State, Executes}, Table.{Table}}
use Rattle.sqlite.specs.{Term.{Term}, Tree.{IsAscending, rowid}}
use Rattle.sqlite_sql.specs.Ops.{fits_i64}
use Rattle.sqlite_typing.specs.Types.{accepts_terms, accepts_program}
use Rattle.sqlite_value.specs.Keys.{plain}
use Rattle.sqlite_schema.specs.{declared.command.Conflict.TheVariants.{Abort}, Rules.{agree, guards, has_parent, references_fit}}
use Rattle.sqlite_rules.specs.{Keys.{AreConflicts, conflicts}, Lists.{Has}, Steps.{PassAlone}}
use Rattle.table_access.{specs.{Calls.{fault_of}, Sound.{IsNumbered, IsShortValue}, Statements.{ChangesOnly, IsAdded, shows}}, proofs.Answered.{is_whole}}
use Rattle.table_access.proofs.{Edits.{IsAlone}, SoundLemmas.{has_place, at_has}, Steps.{Means}, Upsert.{setting, Upserted, Executes-upsert}}
use Rattle.table_access.proofs.{Changes.{find-after_upsert}, Keys.{agree-keys_tie, cells_at}, UpsertRefused.{Takes, key_of, upsert_fails}}
use Rattle.table_access.proofs.Values.{cast-Null, cast_row-kept}
use Rattle.broker_tables.specs.{Schema.{broker_schema}, Holds.{IsBroker}, ChangeRefusals.{AreShort}, Room.{LeavesAbove, LeaveNumbers}, Rows.{value_at}}
use Rattle.broker_tables.proofs.{Frames.{Means-over_broker_schema}, Keyed.{Keyed, IsAscending-keys_of_table}, Inserted.{apart, storable, EndsOnly}}
use Rattle.broker_tables.proofs.Placed.{Placed, no_actions, Placed-IsNumbered, slice_get-Placed_plainly, plainly}
use Rattle.broker_tables.proofs.RoomLemmas.{Grows, Grows-added, Grows-changed, fits_i64-next_rowid}

-- The text, with these parameters, puts one row into the table, or sets columns of the one that has its key.
-- The row has these columns beside its number, and its key is the one of the table. `refl` finds each field, under
-- `unfolding understood everything`.
pub record PutsOver {t : Table} (at : Placed t) (sql : List ℕ) (params : Row) (target : List ℕ) (n : ℕ) (project : List Term) (rest : Row) : Type 0 where
  pub terms : List Term
  pub width : ℕ
  pub means : Means broker_schema sql (InsertOr at.place Abort (Values terms width) (record { target = Some target; update = Some (record { lets = []; body = setting t.tree n project }) } ∷ []))
  pub whole : is_whole sql (length params) (understood broker_schema sql) ≡ true
  pub kinds : accepts_terms terms params ≡ true
  pub one : value_rows params width (length terms / width) terms ≡ (Null ∷ rest) ∷ []
  pub placed : (v : Value) (more : Row) → column (params ++ v ∷ more) n ≡ v
  pub typed : (z next : ℤ) → accepts_program broker_schema [] (setting t.tree n project) (params ++ Int z ∷ shown (plainly t) (Int next ∷ rest)) ≡ true
  pub keys : map key_of (filter (λ i. guards i (plainly t)) broker_schema.indexes) ≡ (plain, target) ∷ []
  pub met : (made r : Row) → conflicts (Some target) broker_schema.indexes (plainly t) made r ≡ (agree plain target r target made || false)
  pub no_rowid : bytes_eq target (0 ∷ []) ≡ false
  pub no_first : (v w : Value) (r : Row) → agree plain target r target (v ∷ rest) ≡ agree plain target r target (w ∷ rest)
  pub alone : IsAlone broker_schema t.tree
  pub fits : references_fit broker_schema (plainly t) true true ≡ true
  pub stored : cast_all t.columns rest ≡ rest

module _ {t : Table} {at : Placed t} {sql : List ℕ} {params : Row} {target : List ℕ} {n : ℕ} {project : List Term} {rest : Row} (puts : PutsOver at sql params target n project rest) (old new : State) (broker : IsBroker old.now) where
  found : slice_get old.now.schema.tables at.place ≡ Some (plainly t)
  found = slice_get-Placed_plainly at old.now broker

  abbrev rows : List Row
  rows = old.now.trees t.tree

  -- the row as it is put in
  abbrev it : Row
  it = Int (next_rowid rows) ∷ rest

  -- the row has the key of it
  abbrev IsMet : Row → Type 0
  IsMet r = conflicts (Some target) old.now.schema.indexes (plainly t) it r ≡ true

  Has-upsert_table : Has old.now.schema.tables (plainly t)
  Has-upsert_table = has_place _ at.place (plainly t) found

  numbered : IsNumbered rows
  numbered = Placed-IsNumbered at old.now broker

  -- SET makes it the same row, under its own number
  module _ (changed : (r : Row) → Has rows r → IsMet r → shows project (params ++ rowid r ∷ shown (plainly t) it) r ≡ rowid r ∷ rest) where
    -- it was put in, or in the place of the row with its key
    abbrev pub IsPutOver : Type 0
    IsPutOver =
        (AreConflicts (Some target) old.now.schema.indexes (plainly t) rows it [] × IsAdded rows (new.now.trees t.tree) it)
        ⊎ ((r : Row) × Has rows r × IsMet r × IsAdded (filter (λ x. not (is_eq (value_cmp (rowid x) (rowid r)))) rows) (new.now.trees t.tree) (rowid r ∷ rest))

    -- if it is done, the row is there, and no other table changes
    pub upserted : (count : ℕ) → Executes sql params old new (Ok count) → ChangesOnly t.tree old new × IsPutOver
    upserted count h =
        let done = Executes-upsert t.name t.tree t.columns t.key t.primary t.uniques t.orders t.checks t.references sql params old new at.place target n project puts.terms puts.width (Null ∷ rest) found puts.one puts.placed
        (Means-over_broker_schema old.now broker sql puts.means) (no_actions old.now broker) numbered count h in
        let made : with_rowid Chosen rows (cast_row (plainly t) (Null ∷ rest)) ≡ it = λ i. with_rowid Chosen rows (cast-Null i ∷ puts.stored i) in (
          done.0,
          elim (subst (Upserted t.name t.tree t.columns t.key t.primary t.uniques t.orders t.checks t.references sql params old new at.place target n project) made done.1) [
            | inl none ↦ inl (none.0, subst (IsAdded rows (new.now.trees t.tree)) (cast_row-kept (plainly t) it refl puts.stored) none.1)
            | inr some ↦ inr (some.0, some.1, some.2, subst (IsAdded _ (new.now.trees t.tree)) (ap (cast_row (plainly t)) (changed some.0 some.1 some.2) ∙ cast_row-kept (plainly t) (rowid some.0 ∷ rest) (at_has _ rows some.0 numbered.1 some.1) puts.stored) some.3)
          ],
        )

    -- and takes a number at most
    pub upsert_grows : IsPutOver → Grows rows (new.now.trees t.tree)
    upsert_grows (inl none) = Grows-added rows (new.now.trees t.tree) it none.1 refl
    upsert_grows (inr some) = Grows-changed rows (new.now.trees t.tree) some.0 (rowid some.0 ∷ rest) _ some.1 refl some.3

    -- If the table has a number for the row, its columns are as they have to be, and what it refers to is there, it fails
    -- only as the store fails, or since one of these texts, which it has, is too long.
    pub upsert_ends : LeaveNumbers 1 rows → ((v : Value) → PassAlone (plainly t) ((v ∷ rest) ∷ [])) → ((v : Value) → AllByRecursion (λ ref. has_parent broker_schema.tables old.now.trees (v ∷ rest) ref ≡ true) t.references)
        → (texts : List (List ℕ)) → (AreShort texts → AllByRecursion IsShortValue rest) → 0 < length rest → length rest ≤ 11 → EndsOnly texts sql params old new
    upsert_ends room pass parents texts short some few unlimited fault (error, is, h) =
        let here : (P : Schema → Type 0) → P broker_schema → P old.now.schema = λ P. subst P (sym broker.schema) in
        let takes : Takes t.name t.tree t.columns t.key t.primary t.uniques t.orders t.checks t.references sql params old new at.place target n project puts.terms puts.width rest (¬ AreShort texts) = record {
          found = found;
          listed = Has-upsert_table;
          apart = here (λ s. IsAscending (λ a b. a.tree ≡ b.tree → ⊥) s.tables) apart;
          no_actions = no_actions old.now broker;
          rules = broker.kept.sound.obeys.rules;
          numbered = numbered;
          alone = here (λ s. IsAlone s t.tree) puts.alone;
          fits = here (λ s. references_fit s (plainly t) true true ≡ true) puts.fits;
          keys = here (λ s. map key_of (filter (λ i. guards i (plainly t)) s.indexes) ≡ (plain, target) ∷ []) puts.keys;
          no_rowid = puts.no_rowid;
          no_first = puts.no_first;
          means = Means-over_broker_schema old.now broker sql puts.means;
          whole = here (λ s. is_whole sql (length params) (understood s sql) ≡ true) puts.whole;
          kinds = puts.kinds;
          one = puts.one;
          placed = puts.placed;
          typed = here (λ s. (z : ℤ) → accepts_program s [] (setting t.tree n project) (params ++ Int z ∷ shown (plainly t) it) ≡ true) (λ z. puts.typed z (next_rowid rows));
          cast = puts.stored;
          changed = changed;
          room = fits_i64-next_rowid rows room;
          numbers = λ r has. let above = at_has (LeavesAbove 1) rows r room.1 has in ap (λ v. fits_i64 (id_in v)) above.1 ∙ lt-ltb above.0 (2 ^ 63) (let low : above.0 < 2 ^ 63 = omega (arith, above.2) in low);
          storable = λ z big are. storable old.now broker (plainly t) Has-upsert_table (Int z ∷ rest) (record { wide = omega (arith, some); narrow = omega (arith, few); short = (tt, short are) }) big;
          pass = pass;
          parents = λ v ref named. here (λ s. has_parent s.tables old.now.trees (v ∷ rest) ref ≡ true) (at_has _ t.references ref (parents v) named);
        } in
        let it = upsert_fails t.name t.tree t.columns t.key t.primary t.uniques t.orders t.checks t.references sql params old new at.place target n project puts.terms puts.width rest (¬ AreShort texts) takes unlimited error h in
        record { cause = it.0; fault_is = is ∙ ap fault_of it.1; has = it.2; over = it.3.autocommit; blamed = it.4 }

-- ---- by the key of a table

-- The row has this key, and SET leaves all columns of the key as they were: `refl` finds each field.
pub record PutsAt {K V : Type 0} {R : K → K → Ordering} {key : Row → K} (t : Keyed R key) (value : Row → V) (params : Row) (n : ℕ) (project : List Term) (rest : Row) (k : K) (v : V) : Type 0 where
  pub keyed : (id : Value) → key (id ∷ rest) ≡ k
  pub valued : (id : Value) → value (id ∷ rest) ≡ v
  pub cells : (id : Value) → cells_at t.places (id ∷ rest) ≡ t.columns.of.cells k
  pub last : Row
  pub whole : rest ≡ t.columns.of.cells k ++ last
  pub sets : (z : ℤ) (r : Row) → shows project (params ++ rowid r ∷ shown (plainly t.table) (Int z ∷ rest)) r ≡ rowid r ∷ (cells_at t.places r ++ last)

module _ {K V : Type 0} {R : K → K → Ordering} {key : Row → K} (t : Keyed R key) {value : Row → V} {sql : List ℕ} {params rest : Row} {n : ℕ} {project : List Term} {k : K} {v : V}
    (puts : PutsOver t.at sql params t.places n project rest) (at : PutsAt t value params n project rest k v) (old new : State) (broker : IsBroker old.now) where
  abbrev there : List Row
  there = old.now.trees t.table.tree

  abbrev row : Row
  row = Int (next_rowid there) ∷ rest

  -- a row is met if and only if it has the key
  conflicts-eq_by_cmp : (r : Row) → Has there r → conflicts (Some t.places) old.now.schema.indexes (plainly t.table) row r ≡ eq_by_cmp R k (key r)
  conflicts-eq_by_cmp r has =
      ap (λ (s : Schema). conflicts (Some t.places) s.indexes (plainly t.table) row r) broker.schema ∙ puts.met row r ∙ or-false (agree plain t.places r t.places row)
      ∙ agree-keys_tie t.columns.of r row (t.columns.typed old.now broker r has) (at.cells _ ∙ ap t.columns.of.cells (sym (at.keyed _)))
      ∙ ap (eq_by_cmp R (key r)) (at.keyed _) ∙ (eq_by_cmp_equiv t.columns.of.total).symm (key r) k

  -- and SET makes it the same row, under its own number
  pub shows-set_row : (r : Row) → Has there r → conflicts (Some t.places) old.now.schema.indexes (plainly t.table) row r ≡ true → shows project (params ++ rowid r ∷ shown (plainly t.table) row) r ≡ rowid r ∷ rest
  shows-set_row r has met =
      let same : k ≡ key r = t.columns.of.exact k (key r) ((Equal-is (R k (key r))).0 (sym (conflicts-eq_by_cmp r has) ∙ met)) in
      at.sets _ r ∙ ap (λ cells. rowid r ∷ (cells ++ at.last)) (t.columns.typed old.now broker r has ∙ ap t.columns.of.cells (sym same))
      ∙ ap (λ xs. rowid r ∷ xs) (sym at.whole)

  -- if it is done, the key has the value, each other key has what it had, and no other table changes
  pub Executes-upsert_value : (count : ℕ) → Executes sql params old new (Ok count) → ChangesOnly t.table.tree old new × Grows there (new.now.trees t.table.tree)
      × ((q : K) → value_at R key value (new.now.trees t.table.tree) q ≡ cond (eq_by_cmp R q k) (Some v) (value_at R key value there q))
  Executes-upsert_value count h =
      let done = upserted puts old new broker shows-set_row count h in (
        done.0,
        upsert_grows puts old new broker shows-set_row done.1,
        find-after_upsert t.columns.of.total t.columns.of.exact key value (Some t.places) old.now.schema.indexes (plainly t.table) there (new.now.trees t.table.tree) row row (λ r. rowid r ∷ rest) k v
            (IsAscending-keys_of_table t old.now broker) (Placed-IsNumbered t.at old.now broker).0 conflicts-eq_by_cmp (at.keyed _, at.valued _) (λ r has hit. (at.keyed _, at.valued _)) done.1,
      )
