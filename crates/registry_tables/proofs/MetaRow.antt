-- The one row of meta: what putting it in leaves, that it fails only as the store fails, and the digest that is in it.
use Rattle.broker_tables.specs.{Schema.{in_meta, schema_of, registry_part}, Making.{IsBlank, HasTables}, Holds.{IsMeta, Holds, IsBroker, format}}
use Rattle.broker_tables.proofs.{Opening.{IsBlank-IsKept}, Placed.{meta, at_meta, column-texts}}
use Rattle.broker_tables.proofs.Inserted.{rising, rising-trees_apart, PutsInto, Executes-insert_fails}
use Rattle.broker_tables.proofs.TableQuery.{TableQuery, IsShown, FirstReads, Shown-IsShown, FirstShown-IsTextAt}
use Rattle.std.specs.{List.{AllByRecursion, list_all}, Prelude.{option_map, IsUtf8}, List.Sorted.{IsPermutation}}
use Rattle.std.proofs.Common.{◌≡◌, ◌≢◌, ℕ, pos, codes, List, [], ◌∷◌, ◌++◌, fold, map, false, refl, sym, ap, subst, ◌∙◌, slice_get, Some, Ok, arith, ◌⊎◌, inl, inr, ◌≤◌, ◌^◌, ℤ, length, nat_lt, not, ◌&&◌, true, None, Err, IsTrue, filter}
use Rattle.sqlite.specs.{Edit.{with_rowid, is_taken, without_all}, Rowids.TheVariants.{Chosen}, Cast.{cast_row}, Change.{created}}
use Rattle.sqlite.specs.{declared.types.Value.TheVariants.{Null, Int, Text}, Order.{Row}, Table.{Table}, Term.{Term, col, lit}, Source.TheVariants.{Values}}
use Rattle.sqlite.specs.{Command.{Command}, Command.TheVariants.{Insert}, Schema.{Schema}, Effect.{Database}, State.{State, Executes, Fails}}
use Rattle.sqlite.{specs.{Listing.{understood}, declared.error.Error.{Error}}, proofs.Callers.{one_permutation}}
use Rattle.sqlite_tied.specs.Compute.{everything}
use Rattle.table_access.specs.{Statements.{Makes, IsAdded, new_trees, HasNoActions, from_table, keeps, shows}, Sound.{IsKept}, declared.StoreFault.{StoreFault}}
use Rattle.table_access.specs.{declared.StoreFault.TheVariants.{Memory}, Calls.{IsEnded}, Reading.{FailsToTake, ReportsText, IsTextAt}}
use Rattle.table_access.{specs.Columns.{text, whole_at}, proofs.Creation.{Makes-schema, Makes-new_tables_empty, Makes-IsKept}}
use Rattle.table_access.proofs.{Values.{cast-Null, cast-Int, cast_row-kept}, Steps.{Means, inserts, IsPermutation-kept_rows}}
use Rattle.table_access.proofs.{Edits.{Suits, IsAlone, are_unique-put_row}, SoundLemmas.{at_has}, Storable.{IsShortRow-not_oversized}}
use Rattle.table_access.proofs.{Maps.{IsPermutation-at_most_one}, CallLemmas.{FailsToQuery-IsRefused, IsRefused-ends_for_Memory}}
use Rattle.broker_core.specs.{Text.{same_text}, State.{State as Broker}}
use Rattle.registry_tables.specs.Registry.{HasEmptyRegistry, PutsMeta}
use Rattle.sqlite_sql.specs.Ops.{binary}
use Rattle.sqlite_value.specs.Order.{value_cmp}
use Rattle.sqlite_rules.specs.{Lists.{Has}, Edit.{IsOversized, is_referred}}
use Rattle.sqlite_schema.specs.declared.schema.Keys.TheVariants.{Enforced}
use Rattle.std.specs.Float.Ieee

abbrev pub put_sql : List ℕ
put_sql = codes "INSERT INTO meta (one, format, office_digest) VALUES (1, ?1, ?2)"

abbrev pub put_terms : List Term
put_terms = lit (Int (pos 1)) ∷ lit Null ∷ col 0 0 ∷ col 0 1 ∷ []

abbrev pub put_command : Command
put_command = Insert 0 (Values put_terms 4)

pub Means-put_meta : Means (schema_of registry_part) put_sql put_command
unfolding understood everything
Means-put_meta = record { is = refl; plain = (refl, refl); unlisted = refl }

pub alone : (old new : List Row) (row : Row) → IsAdded old new row → old ≡ [] → new ≡ row ∷ []
alone old new row it none = go it.front it.back (sym none ∙ it.was) it.is
  where
    go : (front back : List Row) → [] ≡ front ++ back → new ≡ front ++ row ∷ back → new ≡ row ∷ []
    go [] [] e is = is
    go _ _ e is = absurd cc

-- the row is stored as it is given
abbrev pub row_of : ℕ → List ℕ → Row
row_of n digest = Int (pos 1) ∷ Null ∷ Int (pos n) ∷ Text digest ∷ []

pub cast_row-row_of : (n : ℕ) (digest : List ℕ) → cast_row meta (row_of n digest) ≡ row_of n digest
cast_row-row_of n digest = cast_row-kept meta (row_of n digest) refl (λ i. cast-Null i ∷ cast-Int (pos n) i ∷ Text digest ∷ [])

pub with_rowid-row_of : (n : ℕ) (digest : List ℕ) (rows : List Row) → with_rowid Chosen rows (cast_row meta (row_of n digest)) ≡ row_of n digest
with_rowid-row_of n digest rows = ap (with_rowid Chosen rows) (cast_row-row_of n digest)

pub Executes-PutsMeta : (n : ℕ) (digest : List ℕ) (old new : State) (count : ℕ) → Executes put_sql (Int (pos n) ∷ Text digest ∷ []) old new (Ok count) → PutsMeta n digest old.now new.now
Executes-PutsMeta n digest old new count h is kept none =
    let there : slice_get old.now.schema.tables 0 ≡ Some meta = ap (λ (s : Schema). slice_get s.tables 0) is in
    let made = row_of n digest in
    let it = inserts (codes "meta") 0 meta.columns (Some 0) (0 ∷ []) meta.uniques meta.orders meta.checks [] put_sql (Int (pos n) ∷ Text digest ∷ []) old new 0 there
    _ _ made made refl (with_rowid-row_of n digest (old.now.trees in_meta.tree)) (subst (λ s. Means s put_sql put_command) (sym is) Means-put_meta) count h in
    let row : new.now.trees in_meta.tree ≡ made ∷ [] = alone (old.now.trees in_meta.tree) (new.now.trees in_meta.tree) made it.1 none in
    let all = subst (λ (s : Schema). AllByRecursion (λ t. t.tree ≢ 0 → new.now.trees t.tree ≡ old.now.trees t.tree) s.tables) is it.0.others in (
      it.0.schema,
      it.0.kept kept,
      subst (IsMeta n digest) (sym row) refl,
      ((λ other. absurd (let e = other in cc)), ((λ _. all.1.0 (omega arith)), ((λ _. all.1.1.0 (omega arith)), ((λ _. all.1.1.1.0 (omega arith)), ((λ _. all.1.1.1.1.0 (omega arith)), ((λ _. all.1.1.1.1.1.0 (omega arith)), ((λ _. all.1.1.1.1.1.1.0 (omega arith)), tt))))))),
    )

-- tables that were empty, but for this one, and stayed so
AllByRecursion-others_empty : (mid new : Database) (ts : List Table) → AllByRecursion (λ t. same_text t.name (codes "meta") ≡ false → new.trees t.tree ≡ mid.trees t.tree) ts → AllByRecursion (λ tree. mid.trees tree ≡ []) (map (λ t. t.tree) ts)
    → AllByRecursion (λ t. same_text t.name (codes "meta") ≡ false → new.trees t.tree ≡ []) ts
AllByRecursion-others_empty mid new [] same none = tt
AllByRecursion-others_empty mid new (t ∷ ts) same none = (λ other. same.0 other ∙ none.0, AllByRecursion-others_empty mid new ts same.1 none.1)

pub HasEmptyRegistry-made : (old mid : Database) → IsBlank old → Makes registry_part old mid → HasEmptyRegistry mid
HasEmptyRegistry-made old mid blank makes = (
  Makes-schema registry_part old mid makes ∙ ap (λ s. fold created s registry_part) blank.schema,
  Makes-IsKept registry_part old mid makes (IsBlank-IsKept old blank),
  (subst (λ s. AllByRecursion (λ tree. mid.trees tree ≡ []) (new_trees s registry_part)) blank.schema (Makes-new_tables_empty registry_part old mid makes)).0,
)

pub HasTables-registry_part : (n : ℕ) (digest : List ℕ) (old mid new : Database) → IsBlank old → Makes registry_part old mid → PutsMeta n digest mid new → HasTables registry_part n digest new
HasTables-registry_part n digest old mid new blank makes puts =
    let has = HasEmptyRegistry-made old mid blank makes in
    let none = subst (λ s. AllByRecursion (λ tree. mid.trees tree ≡ []) (new_trees s registry_part)) blank.schema (Makes-new_tables_empty registry_part old mid makes) in
    let put = puts has.0 has.1 has.2 in
    let same = put.3 in
    record {
      schema = put.0 ∙ has.0;
      kept = put.1;
      meta = put.2;
      empty = AllByRecursion-others_empty mid new (schema_of registry_part).tables same none;
    }

-- ---- it is put into the tables of a new registry unless the store fails

abbrev registry : Schema
registry = schema_of registry_part

-- Meta is one of the tables, which are apart, no foreign key acts, and no index has many columns. If these rows are taken
-- out of it, no reference leads to it.
pub record TakesMeta (schema : Schema) (gone : List ℤ) : Type 0 where
  pub apart : rising schema.tables ≡ true
  pub no_actions : HasNoActions schema.tables
  pub listed : Has schema.tables meta
  pub narrow : list_all (λ i. nat_lt (length i.columns) 12) schema.indexes ≡ true
  pub referred : (row : Row) → is_referred schema Enforced (record { table = meta; gone = gone; news = row ∷ [] }) ≡ true
  pub alone : (gone ≡ []) ⊎ IsAlone schema meta.tree

no_actions : HasNoActions registry.tables
no_actions = (tt, (tt, (((refl, refl), tt), (((refl, refl), tt), (((refl, refl), tt), (tt, (((refl, refl), ((refl, refl), tt)), tt)))))))

TakesMeta-registry : TakesMeta registry []
unfolding everything
TakesMeta-registry = record { apart = refl; no_actions = no_actions; listed = inl refl; narrow = refl; referred = λ r. refl; alone = inl refl }

module _ (n : ℕ) (digest : List ℕ) where
  abbrev row : Row
  row = row_of n digest

  abbrev params : Row
  params = Int (pos n) ∷ Text digest ∷ []

  -- the text puts the row into the table
  puts : PutsInto registry 0 put_sql params row
  unfolding understood everything
  puts = record { terms = put_terms; width = 4; means = Means-put_meta; whole = refl; kinds = refl; one = refl }

  -- the row Suits-meta_row meta if no other row is left there
  pub Suits-meta_row : (db : Database) (gone : List ℤ) → TakesMeta db.schema gone → IsKept db → without_all (db.trees in_meta.tree) gone ≡ [] → length digest ≤ 10 ^ 7
      → Suits ⊥ db.schema Enforced db.trees (record { table = meta; gone = gone; news = row ∷ [] })
  unfolding everything binary value_cmp Ieee.is_nan Ieee.lt
  Suits-meta_row db gone takes kept none short = record {
    apart = rising-trees_apart db.schema.tables takes.apart;
    no_actions = takes.no_actions;
    listed = takes.listed;
    ordered = (at_has _ db.schema.tables meta kept.numbered takes.listed).0;
    rules = kept.sound.obeys.rules;
    storable = λ r new_one big. elim new_one [
      | inl same ↦ IsShortRow-not_oversized db.schema meta (record { whole = refl; narrow = takes.narrow }) row
          (record { wide = omega arith; narrow = omega arith; short = (tt, (tt, (tt, (short, tt)))) }) (subst (IsOversized db.schema meta) same big)
      | inr never ↦ absurd never
    ];
    pass = record { typed = refl; present = refl; checked = refl };
    keyed = refl;
    fits = refl;
    fresh = ap (λ rows. not (is_taken rows row) && true) none;
    unique = are_unique-put_row db.schema db.trees meta (without_all (db.trees in_meta.tree) gone) row refl (λ i known _ r has. absurd (subst (λ rows. Has rows r) none has));
    referred = takes.referred row;
    parents = λ r new_one ref named. absurd named;
    alone = takes.alone;
  }

  module _ (old new : State) (is : old.now.schema ≡ registry) (kept : IsKept old.now) (none : old.now.trees in_meta.tree ≡ []) (short : length digest ≤ 10 ^ 7) where
    pub meta_fails : old.step_limit ≡ None → (e : Error) → Executes put_sql params old new (Err e) → Fails old new ⊥ e
    meta_fails = Executes-insert_fails put_sql params old new meta 0 (ap (λ (s : Schema). slice_get s.tables 0) is) refl row row
        (subst (λ s. PutsInto s 0 put_sql params row) (sym is) puts) (with_rowid-row_of n digest (old.now.trees in_meta.tree))
        ⊥ (Suits-meta_row old.now [] (subst (λ s. TakesMeta s []) (sym is) TakesMeta-registry) kept none short)

-- ---- the digest of the office's token

abbrev office_sql : List ℕ
office_sql = codes "SELECT office_digest FROM meta"

pub office : TableQuery office_sql [] (from_table in_meta.tree [] (col 1 in_meta.office_digest ∷ []) [])
unfolding understood everything
office = record { names = _; means = record { is = refl; plain = (refl, refl); unlisted = refl }; runs = record { whole = refl; typed = refl; sumless = refl } }

-- the one row of meta, with its number and the digest of the office's token
pub IsMeta-one_row : (n : ℕ) (office : List ℕ) (rows : List Row) → IsMeta n office rows
    → (r : Row) × (rows ≡ r ∷ []) × (whole_at 0 r ≡ pos 1) × (text in_meta.office_digest r ≡ office)
IsMeta-one_row n office [] one = absurd cc
IsMeta-one_row n office (r ∷ []) one =
    let same : ◌≡◌ {A = ℤ × ℤ × List ℕ} (whole_at 0 r, whole_at in_meta.format r, text in_meta.office_digest r) (pos 1, pos n, office) = cc in
    (r, refl, ap (λ (x : ℤ × ℤ × List ℕ). x.0) same, ap (λ (x : ℤ × ℤ × List ℕ). x.2) same)
IsMeta-one_row n office (r ∷ q ∷ rows) one = absurd cc

pub IsShown-office : (db : Database) (rows : List Row) (s : Broker) → Holds db s → IsShown office db rows → option_map (text 0) (slice_get rows 0) ≡ Some s.office
IsShown-office db rows s held h =
    let one = IsMeta-one_row format s.office (db.trees in_meta.tree) held.meta in
    let shown = one_permutation _ rows (subst (λ xs. IsPermutation (map (shows (col 1 in_meta.office_digest ∷ []) []) (filter (keeps [] []) xs)) rows) one.1
    (IsPermutation-kept_rows db [] in_meta.tree [] _ [] rows h)) in
    ap (λ xs. option_map (text 0) (slice_get xs 0)) shown ∙ ap Some one.3

-- the digest of the office's token can be read, as it is a text in UTF-8
pub FirstReads-office : (db : Database) → FirstReads office db (IsTextAt 0)
FirstReads-office db s held readable = FirstShown-IsTextAt office db (column-texts at_meta db held.broker in_meta.office_digest refl) (λ rows h row head.
    let is : Some (text 0 row) ≡ Some s.office = sym (ap (option_map (text 0)) head) ∙ IsShown-office db rows s held h in
    let same : text 0 row ≡ s.office = cc in
    subst IsUtf8 (sym same) readable.office)

-- if meta has no row, only the store is ever out of memory
pub FailsToTake-no_office : (old new : State) (fault : StoreFault) → IsBroker old.now → old.now.trees in_meta.tree ≡ [] → FailsToTake ReportsText office_sql [] old new fault → IsTrue old.in_transaction → fault ≡ Memory → IsEnded old new Memory
FailsToTake-no_office old new fault broker none (inl refused) inside is = IsRefused-ends_for_Memory old new refused.0 fault refused.1 (FailsToQuery-IsRefused office_sql [] old new refused.0 refused.2) is
FailsToTake-no_office old new fault broker none (inr (rows, shown, row, first, reports)) inside is =
    let empty : rows ≡ [] = IsPermutation-at_most_one [] rows (omega arith) (subst (λ xs. IsPermutation (map (shows (col 1 in_meta.office_digest ∷ []) []) (filter (keeps [] []) xs)) rows) none (IsPermutation-kept_rows old.now [] in_meta.tree [] _ [] rows (Shown-IsShown office old new broker rows shown))) in
    absurd (let clash : None ≡ Some row = ap (λ xs. slice_get xs 0) (sym empty) ∙ first in cc)
