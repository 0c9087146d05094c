-- Why an INSERT of one row into a table of the broker fails: if the row suits its table, only as the store fails.
use Rattle.broker_core.specs.{State.{State as Broker}, declared.command.Version.{Version}}
use Rattle.broker_tables.specs.{Holds.{Holds, HoldsAfter, IsBroker, marks_in}, Numbers.{number_of, numbered}, ChangeRefusals.{AreShort, HaveNumbers, HoldsOpen}}
use Rattle.broker_tables.specs.{Room.{LeaveNumbers}, Rows.{rows_of, value_at}}
use Rattle.broker_tables.specs.Schema.{broker_schema, in_environments, in_pacticipants, in_teams, in_versions, to}
use Rattle.broker_tables.proofs.{Frames.{Frame, ChangesOnly-Frame, Means-over_broker_schema}, Keyed.{IsFree}}
use Rattle.broker_tables.proofs.Placed.{Need, Placed, at_environments, at_pacticipants, at_teams, no_actions, plainly-same, listed, Placed-IsNumbered, slice_get-Placed_plainly, plainly, IsBroker-IsReady, column-texts, slice_get-Placed_table}
use Rattle.broker_tables.proofs.{RoomLemmas.{Grows, HoldsAfter-one_table, Grows-added, fits_i64-next_rowid}, Orders.{text_cmp-antisymmetric}}
use Rattle.broker_tables.proofs.{References.{LeadsTo, LeadsTo-each, enumerate_from-row_number}, VersionRows.{number_of-has_row, version_number}}
use Rattle.sqlite.specs.{Cast.{cast_all, cast_row}, Collation.TheVariants.{Binary}, Command.TheVariants.{Insert}, Does.{due}, Edit.{next_rowid, with_rowid}}
use Rattle.sqlite.specs.{Effect.{Database, value_rows}, Listing.{understood}, Order.{Row, column, value_cmp}, Rows.{Edited, Inserts, Written}, Schema.{Schema}}
use Rattle.sqlite.specs.{Source.TheVariants.{Values}, State.{Executes, Fails, State, mode_of}, Table.{Table}, Term.{Term}, Tree.{IsAscending, rowid}}
use Rattle.sqlite.specs.{View.{is_int}, declared.error.Error.{Error}, declared.types.Value.TheVariants.{Int, Null, Text}}
use Rattle.sqlite_rules.specs.{Edit.{Edit, IsOversized, edit_of, id_in, is_referred, is_taken, with_rowid}, Lists.{Has}, Steps.{PassAlone}}
use Rattle.sqlite_rules.{specs.declared.error.Rowids.TheVariants.{Chosen}, proofs.ListLemmas.{has_kept, some_from, some_has, test_has}}
use Rattle.sqlite_rules.proofs.{PlaceLemmas.{next_is_free}, TableLemmas.{int_is}}
use Rattle.sqlite_schema.specs.{Rules.{Refers, agree, equal, guards, has_parent, is_held, table_reals}, declared.schema.Among.TheVariants.{All}}
use Rattle.sqlite_schema.specs.{declared.schema.Index.{Index}, declared.schema.Keys.{Keys}, declared.schema.Keys.TheVariants.{Off}}
use Rattle.sqlite_sql.specs.Ops.{binary, fits_i64}
use Rattle.sqlite_tied.specs.Compute.{everything}
use Rattle.sqlite_typing.specs.Types.{accepts_terms}
use Rattle.sqlite_value.{specs.{Keys.{first_key, plain}, declared.keys.Order.{Order}}, proofs.OrderLemmas.{value_cmp-Int}}
use Rattle.std.specs.{Cmp.{Equal-is, eq_by_cmp_equiv, int_cmp_total}, Cmp.Lexicographic.{nat_list_cmp_total}, FinMap.{int_cmp-IsAntisymmetric}}
use Rattle.std.specs.{List.{AllByRecursion, list_all}, Ordering.{int_cmp, is_eq}, Option.{option_map_or}, Prelude.{is_some}}
use Rattle.std.proofs.Common.{Bool, Err, IsTrue, List, None, Ok, Option, Some, [], ap, append-nil, arith, codes, false, inl, inr, length, map, nat_lt, not, pos, refl, slice_get, subst, sym, true, ℕ, ℤ, ◌&&◌, ◌+◌, ◌/◌, ◌<◌, ◌∙◌, ◌∷◌, ◌≡◌, ◌≤◌, ◌⊎◌}
use Rattle.std.proofs.lemmas.Bool.{and_from, and_parts, false_from_ne_true, ltb-true, or_right}
use Rattle.table_access.specs.{Calls.{EndsBy, FailsToRun, fault_of}, Columns.{text, text_cmp, whole_at}, Sound.{IsNumbered, IsShortValue}}
use Rattle.table_access.{specs.{Statements.{ChangesOnly, IsAdded}, declared.StoreFault.{StoreFault}}, proofs.Answered.{is_whole}}
use Rattle.table_access.proofs.{Edits.{Suits as EditSuits, goes, are_unique-put_row, refers}, Maps.{find-has_row}, Members.{has_map, map_has}}
use Rattle.table_access.proofs.{Refused.{Fails-weaken, insert_fails}, SoundLemmas.{all_of, at_has}, Steps.{Means, inserts, Ok-injective, Ok-not_stopped}}
use Rattle.table_access.proofs.{Storable.{IsShortRow, IsShortRow-not_oversized}, UpsertRefused.{key_of}, Values.{cast-Null, binary-Eq_Int, binary-Eq_Text}}

-- ---- the tables of a broker

-- tables whose trees rising-broker_schema are apart
abbrev pub rising : List Table → Bool
rising [] = true
rising (t ∷ ts) = list_all (λ u. nat_lt t.tree u.tree) ts && rising ts

pub rising-trees_apart : (ts : List Table) → rising ts ≡ true → IsAscending (λ a b. a.tree ≡ b.tree → ⊥) ts
rising-trees_apart [] h = tt
rising-trees_apart (t ∷ ts) h =
    let both = and_parts _ _ h in
    (all_of _ ts (λ u has same. let low : t.tree < u.tree = ltb-true t.tree u.tree (test_has (λ (u : Table). nat_lt t.tree u.tree) ts u both.0 has) in omega (arith, low, same)), rising-trees_apart ts both.1)

rising-broker_schema : rising broker_schema.tables ≡ true
unfolding everything
rising-broker_schema = refl

-- no two tables have one tree
pub apart : IsAscending (λ a b. a.tree ≡ b.tree → ⊥) broker_schema.tables
apart = rising-trees_apart broker_schema.tables rising-broker_schema

-- no table has a REAL column, and no index many columns
broker_schema-short_entries : (list_all (λ t. nat_lt (table_reals t) 1) broker_schema.tables ≡ true) × (list_all (λ i. nat_lt (length i.columns) 12) broker_schema.indexes ≡ true)
unfolding everything
broker_schema-short_entries = (refl, refl)

-- so a row with a few short texts can be stored
pub storable : (db : Database) → IsBroker db → (t : Table) → Has db.schema.tables t → (row : Row) → IsShortRow row → ¬ IsOversized db.schema t row
storable db broker t listed = IsShortRow-not_oversized db.schema t (record {
  whole = (let none = ltb-true (table_reals t) 1 (test_has (λ (u : Table). nat_lt (table_reals u) 1) db.schema.tables t (subst (λ (s : Schema). list_all (λ u. nat_lt (table_reals u) 1) s.tables ≡ true) (sym broker.schema) broker_schema-short_entries.0) listed) in omega (arith, none));
  narrow = subst (λ (s : Schema). list_all (λ i. nat_lt (length i.columns) 12) s.indexes ≡ true) (sym broker.schema) broker_schema-short_entries.1;
})

-- ---- a row that nothing is against

-- the row fits the columns and CHECKs of its table, nothing has its number or one of its keys, and what it refers to is slice_get-Placed_table
pub record Suits (db : Database) (t : Table) (made : Row) : Type 0 where
  pub pass : PassAlone t (made ∷ [])
  pub fits : fits_i64 (id_in (rowid made)) ≡ true
  pub keyed : is_int (rowid made) ≡ true
  pub fresh : is_taken (db.trees t.tree) made ≡ false
  pub free : AllByRecursion (IsFree (db.trees t.tree) made) t.uniques
  pub parents : AllByRecursion (λ ref. has_parent broker_schema.tables db.trees made ref ≡ true) t.references

-- the edit that puts one row in
abbrev pub putting : Table → Row → Edit
putting t made = record { table = t; gone = []; news = made ∷ [] }

module _ (db : Database) (broker : IsBroker db) (t : Table) (listed : Has db.schema.tables t) (made : Row) (suits : Suits db t made) (texts : List (List ℕ)) (short : AreShort texts → IsShortRow made) where
  free : (i : Index) → Has db.schema.indexes i → guards i t ≡ true → (r : Row) → Has (db.trees t.tree) r → agree i.order i.columns r i.columns made ≡ false
  free i known guard r has = ap (λ (k : Order × List ℕ). agree k.0 k.1 r k.1 made) places.2 ∙ at_has _ t.uniques places.0 suits.free places.1 r has
    where
      places : (ps : List ℕ) × Has t.uniques ps × (key_of i ≡ (plain, ps))
      places = map_has (λ ps. (plain, ps)) t.uniques (key_of i) (subst (λ keys. Has keys (key_of i)) (ap (λ (x : Need). x.1) (IsBroker-IsReady db broker t listed)) (has_map key_of _ i (has_kept (λ i. guards i t) db.schema.indexes i known guard)))

  referred : (keys : Keys) → is_referred db.schema keys (putting t made) ≡ true
  referred Off = refl
  referred _ = ap (λ (x : Need). x.2 && true) (IsBroker-IsReady db broker t listed)

  -- so the edit that puts it in suits the table
  EditSuits-putting : (keys : Keys) → EditSuits (¬ AreShort texts) db.schema keys db.trees (putting t made)
  EditSuits-putting keys = record {
    apart = subst (λ (s : Schema). IsAscending (λ a b. a.tree ≡ b.tree → ⊥) s.tables) (sym broker.schema) apart;
    no_actions = no_actions db broker;
    listed = listed;
    ordered = (at_has _ db.schema.tables t broker.kept.numbered listed).0;
    rules = broker.kept.sound.obeys.rules;
    storable = λ row new big are. elim new [ inl same ↦ storable db broker t listed row (subst IsShortRow (sym same) (short are)) big | inr none ↦ absurd none ];
    pass = suits.pass;
    keyed = ap (λ b. b && true) suits.keyed;
    fits = ap (λ b. b && true) suits.fits;
    fresh = ap (λ b. not b && true) suits.fresh;
    unique = are_unique-put_row db.schema db.trees t (db.trees t.tree) made suits.keyed free;
    referred = referred keys;
    parents = λ row new ref named. elim new [
      | inl same ↦ subst (λ r. has_parent db.schema.tables db.trees r ref ≡ true) (sym same) (ap (λ (s : Schema). has_parent s.tables db.trees made ref) broker.schema ∙ at_has _ t.references ref suits.parents named)
      | inr none ↦ absurd none
    ];
    alone = inl refl;
  }

-- ---- the statement

-- without a limit of steps it fails only as the store fails, or since one of these texts is too long
abbrev pub EndsOnly : List (List ℕ) → List ℕ → Row → State → State → Type 0
EndsOnly texts sql params old new = old.step_limit ≡ None → (fault : StoreFault) → FailsToRun sql params old new fault → EndsBy (¬ AreShort texts) old new fault

-- so it is from each open state that allows it, if these tables have numbers for its rows
abbrev pub EndsFrom : List (List ℕ) → List (List ℕ) → List ℕ → Row → State → State → (Broker → Type 0) → Type 0
EndsFrom tables texts sql params old new Allows =
    (s : Broker) → HoldsOpen old s → Allows s → HaveNumbers tables old.now → (fault : StoreFault) → FailsToRun sql params old new fault → EndsBy (¬ AreShort texts) old new fault

-- the text, with these parameters, puts one row into the table at this place of the schema
pub record PutsInto (schema : Schema) (at : ℕ) (sql : List ℕ) (params row : Row) : Type 0 where
  pub terms : List Term
  pub width : ℕ
  pub means : Means schema sql (Insert at (Values terms width))
  pub whole : is_whole sql (length params) (understood schema sql) ≡ true
  pub kinds : accepts_terms terms params ≡ true
  pub one : value_rows params width (length terms / width) terms ≡ row ∷ []

-- into this table of the broker
abbrev pub Puts : {t : Table} → Placed t → List ℕ → Row → Row → Type 0
Puts at = PutsInto broker_schema at.place

-- without a limit of steps it fails only as the store fails, if the edit that puts the row in suits the table
module _ (sql : List ℕ) (params : Row) (old new : State) (t : Table) (at : ℕ) (slice_get-Placed_table : slice_get old.now.schema.tables at ≡ Some t) (same : plainly t ≡ t)
    (row made : Row) (puts : PutsInto old.now.schema at sql params row) (stored : with_rowid Chosen (old.now.trees t.tree) (cast_row t row) ≡ made)
    (TooBig : Type 0) (suits : EditSuits TooBig old.now.schema (mode_of old).keys old.now.trees (putting t made)) where
  -- the edit is the one of this row
  edit_of-putting : (rows : List Row) → rows ≡ row ∷ [] → edit_of old.now.trees (plainly t) [] Chosen 0 rows ≡ putting t made
  edit_of-putting rows is =
      ap (edit_of old.now.trees (plainly t) [] Chosen 0) is ∙ ap (λ u. edit_of old.now.trees u [] Chosen 0 (row ∷ [])) same ∙ ap (λ r. record { table = t; gone = []; news = r ∷ [] }) stored

  Refers-after_insert : (w : Written) → Inserts (record { limit = old.step_limit; keys = (mode_of old).keys; schema = old.now.schema; table = plainly t; params = params }) (Values puts.terms puts.width) old.now.trees (Ok w) → Refers All old.now.schema w.trees
  Refers-after_insert w h =
      let given = Ok-not_stopped h in
      let written = Ok-not_stopped (Ok-not_stopped given.2).2 in
      let counted = Ok-not_stopped written.2 in
      let one = subst (λ (e : Edit). Edited old.now.schema (mode_of old).keys old.now.trees e (Ok written.0))
      (edit_of-putting _ (given.1.1 ∙ ap (λ ps. value_rows ps puts.width (length puts.terms / puts.width) puts.terms) (append-nil params) ∙ puts.one)) written.1 in
      subst (λ trees. Refers All old.now.schema trees) (sym (ap (λ (it : Written). it.trees) (Ok-injective counted.2) ∙ Ok-injective counted.1))
      (refers TooBig old.now.schema (mode_of old).keys old.now.trees (putting t made) suits written.0 one)

  pub Executes-insert_fails : old.step_limit ≡ None → (error : Error) → Executes sql params old new (Err error) → Fails old new TooBig error
  Executes-insert_fails unlimited error h =
      elim (insert_fails t.name t.tree t.columns t.key t.primary t.uniques t.orders t.checks t.references sql params old new at
      (slice_get-Placed_table ∙ ap Some (sym same)) puts.terms puts.width puts.means puts.whole puts.kinds unlimited error h) [
        | inl store ↦ Fails-weaken old new error (λ unfit. (stops None unfit).1) store
        | inr unfit ↦ absurd (let clash : Some error ≡ None = (stops (Some error) unfit).0 in cc)
      ]
    where
      stops : (stop : Option Error) → Edited old.now.schema (mode_of old).keys old.now.trees (edit_of old.now.trees (plainly t) [] Chosen 0 (value_rows params puts.width (length puts.terms / puts.width) puts.terms)) (Err stop)
          ⊎ ((w : Written) × Inserts (record { limit = old.step_limit; keys = (mode_of old).keys; schema = old.now.schema; table = plainly t; params = params }) (Values puts.terms puts.width) old.now.trees (Ok w) × (¬ Refers (due (mode_of old)) old.now.schema w.trees)) → (stop ≡ None) × TooBig
      stops stop (inl edited) = goes TooBig old.now.schema (mode_of old).keys old.now.trees (putting t made) suits stop (subst (λ (e : Edit). Edited old.now.schema (mode_of old).keys old.now.trees e (Err stop)) (edit_of-putting _ puts.one) edited)
      stops stop (inr (w, writes, stray)) = absurd (stray (Refers-after_insert w writes))

module _ {t : Table} (at : Placed t) {sql : List ℕ} {params row made : Row} (puts : Puts at sql params row) (old new : State) (broker : IsBroker old.now)
    (stored : with_rowid Chosen (old.now.trees t.tree) (cast_row t row) ≡ made) where
  -- if it is done, the row is added, and no other table changes
  pub Executes-insert_adds : (count : ℕ) → Executes sql params old new (Ok count) → ChangesOnly t.tree old new × IsAdded (old.now.trees t.tree) (new.now.trees t.tree) made
  Executes-insert_adds count h =
      inserts t.name t.tree t.columns t.key t.primary t.uniques t.orders t.checks t.references sql params old new at.place (slice_get-Placed_plainly at old.now broker) puts.terms puts.width row made puts.one stored (Means-over_broker_schema old.now broker sql puts.means) count h

  pub EndsOnly-insert : Suits old.now t made → (texts : List (List ℕ)) → (AreShort texts → IsShortRow made) → EndsOnly texts sql params old new
  EndsOnly-insert suits texts short unlimited fault (error, is, h) =
      let it = Executes-insert_fails sql params old new t at.place (slice_get-Placed_table at old.now broker) (plainly-same at old.now broker) row made (subst (λ s. PutsInto s at.place sql params row) (sym broker.schema) puts) stored
      (¬ AreShort texts) (EditSuits-putting old.now broker t (listed at old.now broker) made suits texts short (mode_of old).keys) unlimited error h in
      record { cause = it.0; fault_is = is ∙ ap fault_of it.1; has = it.2; over = it.3.autocommit; blamed = it.4 }

-- ---- what it refers to

module _ (db : Database) (made : Row) (p : ℕ) where
  abbrev IsThere : List ℕ → List ℕ → Type 0
  IsThere parent key = has_parent broker_schema.tables db.trees made (to p parent key) ≡ true

  -- the row is slice_get-Placed_table that it LeadsTo-each to
  pub IsThere-of_row : (parent key : List ℕ) (tree place : ℕ) → LeadsTo p parent key tree place → (r : Row) → Has (db.trees tree) r → equal Binary (column r place) (column made p) ≡ true → IsThere parent key
  IsThere-of_row parent key tree place (o, keyed, binary) r has ties =
      let tied : equal (first_key o).collation (column r place) (column made p) ≡ true = ap (λ c. equal c (column r place) (column made p)) binary ∙ ties in
      or_right _ _ (ap (is_held db.trees (p ∷ []) made) keyed ∙ some_from (λ x. agree o (place ∷ []) x (p ∷ []) made) (db.trees tree) r has (and_from _ _ tied refl))

  named : {V : Type 0} (parent : List ℕ) (tree place : ℕ) → LeadsTo p parent (codes "name") tree place → ((r : Row) → Has (db.trees tree) r → column r place ≡ Text (text place r)) → (value : Row → V) (name : List ℕ) (found : Option V)
      → value_at text_cmp (text place) value (db.trees tree) name ≡ found → IsTrue (is_some found) → column made p ≡ Text name → IsThere parent (codes "name")
  named parent tree place LeadsTo-each typed value name None is has refer = absurd cc
  named parent tree place LeadsTo-each typed value name (Some v) is has refer =
      let row = find-has_row nat_list_cmp_total text_cmp-antisymmetric (text place) value name v (db.trees tree) is in
      IsThere-of_row parent (codes "name") tree place LeadsTo-each row.0 row.1 (ap (λ v. equal Binary v (column made p)) (typed row.0 row.1 ∙ ap Text (sym row.2)) ∙ ap (equal Binary (Text name)) refer ∙ binary-Eq_Text name name ∙ (eq_by_cmp_equiv nat_list_cmp_total).refl name)

module _ (db : Database) (s : Broker) (held : Holds db s) (made : Row) (p : ℕ) where
  -- a team that is slice_get-Placed_table has the row that a reference to its name LeadsTo-each to
  pub IsThere-team : (name : List ℕ) → IsTrue (is_some (s.teams name)) → column made p ≡ Text name → IsThere db made p (codes "teams") (codes "name")
  IsThere-team name = named db made p (codes "teams") in_teams.tree in_teams.name (LeadsTo-each p).5 (column-texts at_teams db held.broker in_teams.name refl) (text in_teams.token_digest) name (s.teams name) (held.teams name)

  -- and so do a pacticipant, an environment, and a version for its number
  pub IsThere-pacticipant : (name : List ℕ) → IsTrue (is_some (s.pacticipants name)) → column made p ≡ Text name → IsThere db made p (codes "pacticipants") (codes "name")
  IsThere-pacticipant name = named db made p (codes "pacticipants") in_pacticipants.tree in_pacticipants.name (LeadsTo-each p).4 (column-texts at_pacticipants db held.broker in_pacticipants.name refl) (text in_pacticipants.team) name (s.pacticipants name) (held.pacticipants name)

  pub IsThere-environment : (name : List ℕ) → IsTrue (is_some (s.environments name)) → column made p ≡ Text name → IsThere db made p (codes "environments") (codes "name")
  IsThere-environment name = named db made p (codes "environments") in_environments.tree in_environments.name (LeadsTo-each p).3 (column-texts at_environments db held.broker in_environments.name refl) (marks_in (rows_of db (codes "strict_environments"))) name (s.environments name) (held.environments name)

  pub IsThere-version : (v : Version) (n : ℕ) → number_of s.versions v ≡ Some n → column made p ≡ Int (pos n) → IsThere db made p (codes "versions") (codes "number")
  IsThere-version v n is refer =
      let row = number_of-has_row db held.broker s.versions v n held.versions is in
      IsThere-of_row db made p (codes "versions") (codes "number") in_versions.tree in_versions.number (LeadsTo-each p).0 row.0 row.1
      (ap (λ x. equal Binary x (column made p)) (version_number db held.broker row.0 row.1 ∙ ap Int row.4) ∙ ap (equal Binary (Int (pos n))) refer ∙ binary-Eq_Int (pos n) (pos n) ∙ (eq_by_cmp_equiv int_cmp_total).refl (pos n))

-- ---- numbers

-- in a table whose rows are numbered from 1 without gaps, none has the next number
pub is_taken-next_number : {X : Type 0} (f : Row → X) (rows : List Row) (xs : List X) (rest : Row) → map {B = ℤ × X} (λ r. (whole_at 0 r, f r)) rows ≡ numbered xs → IsNumbered rows → is_taken rows (Int (pos (length xs + 1)) ∷ rest) ≡ false
is_taken-next_number f rows xs rest are rising = false_from_ne_true _ (λ taken.
    let hit = some_has (λ r. is_eq (value_cmp (rowid r) (Int (pos (length xs + 1))))) rows taken in
    let low = enumerate_from-row_number f rows xs 1 are hit.0 hit.1 in
    let ties : is_eq (int_cmp (pos low.0) (pos (length xs + 1))) ≡ true =
    ap is_eq (sym (value_cmp-Int (pos low.0) (pos (length xs + 1)))) ∙ ap (λ v. is_eq (value_cmp v (Int (pos (length xs + 1))))) (ap Int (sym low.1) ∙ sym (int_is (rowid hit.0) (at_has _ rows hit.0 rising.1 hit.1))) ∙ hit.2 in
    let same : pos low.0 ≡ pos (length xs + 1) = int_cmp-IsAntisymmetric _ _ ((Equal-is (int_cmp (pos low.0) (pos (length xs + 1)))).0 ties) in
    let nats : low.0 ≡ length xs + 1 = cc in
    omega (arith, low.2, nats))

-- ---- a row that gets the number after the last one's

-- the text, with these parameters, adds a row with these columns to the table, and SQLite numbers it
pub record Adds {t : Table} (at : Placed t) (sql : List ℕ) (params rest : Row) : Type 0 where
  pub puts : Puts at sql params (Null ∷ rest)
  pub stored : cast_all t.columns rest ≡ rest

module _ {t : Table} {at : Placed t} {sql : List ℕ} {params rest : Row} (adds : Adds at sql params rest) (old new : State) (broker : IsBroker old.now) where
  -- the row as it is slice_get-Placed_table
  abbrev pub added : Row
  added = Int (next_rowid (old.now.trees t.tree)) ∷ rest

  stored : with_rowid Chosen (old.now.trees t.tree) (cast_row t (Null ∷ rest)) ≡ added
  stored = λ i. with_rowid Chosen (old.now.trees t.tree) (cast-Null i ∷ adds.stored i)

  -- if it is done, the row is added, and no other table changes
  pub Executes-adds_row : (count : ℕ) → Executes sql params old new (Ok count) → ChangesOnly t.tree old new × IsAdded (old.now.trees t.tree) (new.now.trees t.tree) added
  Executes-adds_row = Executes-insert_adds at adds.puts old new broker stored

  -- so the next state is held, if that follows from the row that was added and the tables that stayed
  pub HoldsAfter-added : {taken : ℕ} → 1 ≤ taken → {next : Broker} (count : ℕ) → Executes sql params old new (Ok count)
      → (Frame (t.name ∷ []) old.now new.now → IsAdded (old.now.trees t.tree) (new.now.trees t.tree) added → Holds new.now next) → HoldsAfter taken old new next
  HoldsAfter-added {taken} some {next} count h holds =
      let it = Executes-adds_row count h in
      let frame = ChangesOnly-Frame (t.name ∷ []) t.tree at.alone old new broker it.0 in
      HoldsAfter-one_table taken some t.name old new next frame
      (λ counted. subst (λ o. Grows (option_map_or old.now.trees o []) (option_map_or new.now.trees o [])) (sym at.named) (Grows-added _ _ added it.1 refl)) (holds frame it.1)

  -- It fails only as the store fails, or since one of these texts is too long, if the table has a number for it, its
  -- columns and keys are as they have to be, and what it refers to is slice_get-Placed_table.
  pub EndsOnly-added : LeaveNumbers 1 (old.now.trees t.tree) → PassAlone t (added ∷ []) → AllByRecursion (IsFree (old.now.trees t.tree) added) t.uniques
      → AllByRecursion (λ ref. has_parent broker_schema.tables old.now.trees added ref ≡ true) t.references
      → (texts : List (List ℕ)) → (AreShort texts → AllByRecursion IsShortValue rest) → 0 < length rest → length rest ≤ 11 → EndsOnly texts sql params old new
  EndsOnly-added room pass free parents texts short some few =
      let numbered = Placed-IsNumbered at old.now broker in
      EndsOnly-insert at adds.puts old new broker stored (record {
        pass = pass;
        fits = fits_i64-next_rowid _ room;
        keyed = refl;
        fresh = next_is_free Chosen (old.now.trees t.tree) rest numbered.0 numbered.1;
        free = free;
        parents = parents;
      }) texts (λ are. record { wide = omega (arith, some); narrow = omega (arith, few); short = (tt, short are) })
