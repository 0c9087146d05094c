-- The statements on environments and their marks; the query for a mark also wherever the broker's tables are there, with
-- any CHECKs.
use Rattle.std.specs.{Prelude.{option_map, ◌≤◌, is_some, IsSomeAnd}, List.{AllZip}, Cmp.{eq_by_cmp_equiv, Equal-is}}
use Rattle.std.specs.{Cmp.Lexicographic.{nat_list_cmp_total, texts_ties}, Ordering.{eq_by_cmp}}
use Rattle.std.proofs.Common.{◌≡◌, ℕ, pos, codes, List, [], ◌∷◌, if◌then◌else◌, ◌==◌, refl, sym, ap, subst, ◌∙◌, slice_get, Some, None, Option, Bool, true, false, arith, ◌&&◌, cond, ◌||◌, Ok, ◌<◌, inl}
use Rattle.sqlite.specs.{declared.types.Value.TheVariants.{Int, Text, Null}, Order.{Row, column, value_cmp}, Table.{Table}, Schema.{Schema}, Query.{Query}}
use Rattle.sqlite.specs.{State.{State, Shown, Executes}, Collation.TheVariants.{Binary}, Term.{Term, col, op2, lit}, Listing.{understood}}
use Rattle.sqlite.specs.{declared.types.Value.{Value}, Effect.{Database}}
use Rattle.sqlite_sql.specs.{Ops.{binary, is_true}, declared.ops.BinaryOp.TheVariants.{Compare}, declared.ops.CompareOp.TheVariants.{Eq}}
use Rattle.sqlite_schema.specs.declared.schema.Column.{Column}
use Rattle.sqlite_tied.specs.Compute.{everything}
use Rattle.sqlite_keyed.proofs.RuleLemmas.{first_of_both}
use Rattle.table_access.specs.{Statements.{from_table, keeps}, Reading.{IsNumberRow}, Columns.{text, text_cmp, whole_at}}
use Rattle.table_access.proofs.{Values.{binary-Eq_Text, binary-Eq_Text_sound, cast-Int}, Maps.{find-IsAdded, find-None_no_row}, ReadLemmas.{option_map-compose}}
use Rattle.table_access.proofs.SoundLemmas.{IsDatabase-passes_checks}
use Rattle.broker_tables.specs.Schema.{in_environments, broker_schema, in_strict_environments}
use Rattle.broker_tables.specs.{Rows.{mark_of, IsTruthAt, truth, truth_in, value_at, has_row_at}, Asking.{HasColumns, HasBrokerTables}}
use Rattle.broker_tables.specs.Holds.{Holds, HoldsAfter, marks_in}
use Rattle.broker_tables.proofs.AnyTables.{laid_out, laid_out-of_HasColumns, set_out-of_IsColumnLike, AsksOf, Shown-first_kept, Shown-none_kept}
use Rattle.broker_tables.proofs.{TableQuery.{TableQuery, IsShown, EachReads, EachShown-of_table}, Frames.{ChangesOnly-Frame, Holds-environments}}
use Rattle.broker_tables.proofs.{Orders.{text_cmp-antisymmetric}, TruthLemmas.{is_truth-bounds}, Growth.{has_row_at-none}, References.{references-environment}}
use Rattle.broker_tables.proofs.Present.{value_at-is_some, has_row_at-IsAdded, value_at-option_map}
use Rattle.broker_tables.proofs.Keyed.{environments_by_name, finds, finds_row, IsFree-of_has_row_at, strict_by_name}
use Rattle.broker_tables.proofs.Placed.{environments, at_environments, strict_environments, at_strict_environments, listed, column-texts, column-whole_numbers}
use Rattle.broker_tables.proofs.Inserted.{EndsFrom, Adds, Executes-adds_row, HoldsAfter-added, EndsOnly-added, added, IsThere-environment}
use Rattle.registry_tables.specs.{Marks.{IsMarkIn, HasNoMark, IsEnvironmentRow}, Registry.{marks, AddsEnvironment, MakesStrict, IsLenient}}
use Rattle.sqlite_rules.specs.Steps.{PassAlone}
use Rattle.broker_core.specs.{declared.command.Marks.{Marks}, Text.{put_at, same_text}, State.{State as Broker}}
use Rattle.sqlite.specs.Kind.TheVariants as kind

-- ---- the text

abbrev pub gated_sql : List ℕ
gated_sql = codes "SELECT gated FROM environments WHERE name = ?1"

abbrev by_name : List Term
by_name = op2 (Compare Eq Binary) (col 1 in_environments.name) (col 0 0) ∷ []

abbrev pub gated_query : Query
gated_query = from_table in_environments.tree by_name (col 1 in_environments.gated ∷ []) []

-- ---- the schema

-- the columns of environments, strict or not
abbrev marked : Column → Column → Bool → Bool → List Column
marked a b x y = record a { name = codes "name"; kind = kind.Text; collation = Binary; is_strict = x } ∷ record b { name = codes "gated"; kind = kind.Integer; collation = Binary; is_strict = y } ∷ []

-- the broker's tables, with this one as environments
abbrev with_marks : Schema → (ℕ → Table) → Table → Schema
with_marks s given t = record s { tables = laid_out broker_schema.tables (λ n. if n == 5 then t else given n) }

abbrev declared : Schema → (ℕ → Table) → Column → Column → Bool → Bool → Schema
declared s given a b x y = with_marks s given (record (given 5) { columns = marked a b x y; key = None })

-- the text asks its query there, and can be run
abbrev Asks : Schema → Type 0
Asks s = (e : List ℕ) → AsksOf s gated_sql (Text e ∷ []) gated_query

Asks-declared : (s : Schema) (given : ℕ → Table) (a b : Column) (x y : Bool) → Asks (declared s given a b x y)
unfolding understood everything
Asks-declared s given a b true true e = record { names = _; means = record { is = refl; plain = (refl, refl); unlisted = refl }; runs = record { whole = refl; typed = refl; sumless = refl } }
Asks-declared s given a b false true e = record { names = _; means = record { is = refl; plain = (refl, refl); unlisted = refl }; runs = record { whole = refl; typed = refl; sumless = refl } }
Asks-declared s given a b _ _ e = record { names = _; means = record { is = refl; plain = (refl, refl); unlisted = refl }; runs = record { whole = refl; typed = refl; sumless = refl } }

-- ---- a schema that has the tables is such a one

HasBrokerTables-declared_environment : (s : Schema) → HasBrokerTables s → (given : ℕ → Table) × (a b : Column) × (s ≡ declared s given a b a.is_strict b.is_strict)
HasBrokerTables-declared_environment s h =
    let all = laid_out-of_HasColumns broker_schema.tables s.tables h in
    let t = all.0 5 in
    let here = (subst (AllZip HasColumns broker_schema.tables) all.1 h).1.1.1.1.1.0 in
    let columns = set_out-of_IsColumnLike environments.columns t.columns here.3 in
    (all.0, columns.0 0, columns.0 1, ap (λ ts. record s { tables = ts }) all.1 ∙ (λ i. with_marks s all.0 (record t { columns = columns.1 i; key = here.2 i })))

-- ---- the query

pub Asks-HasBrokerTables : (s : Schema) → HasBrokerTables s → Asks s
Asks-HasBrokerTables s h = let it = HasBrokerTables-declared_environment s h in subst Asks (sym it.3) (Asks-declared s it.0 it.1 it.2 it.1.is_strict it.2.is_strict)

-- ---- the rows

keeps-by_name : (r : Row) (e : List ℕ) → column r in_environments.name ≡ Text e → keeps by_name (Text e ∷ []) r ≡ true
keeps-by_name r e is = subst (λ v. (is_true (binary (Compare Eq Binary) v (Text e)) && true) ≡ true) (sym is) (ap (λ b. b && true) (binary-Eq_Text e e ∙ (eq_by_cmp_equiv nat_list_cmp_total).refl e))

module _ (e : List ℕ) (old new : State) (h : HasBrokerTables old.now.schema) (rows : List Row) (shown : Shown gated_sql (Text e ∷ []) old new rows) where
  -- a row that is shown has the mark of a row of the environment
  IsEnvironmentRow-shown_mark : (row : Row) → slice_get rows 0 ≡ Some row → (r : Row) × IsEnvironmentRow e old.now r × (row ≡ column r in_environments.gated ∷ [])
  IsEnvironmentRow-shown_mark row head =
      let it = Shown-first_kept old new (Asks-HasBrokerTables old.now.schema h e) rows shown row head in
      (it.0, (it.1, binary-Eq_Text_sound (column it.0 in_environments.name) e (first_of_both _ true it.2)), it.3)

  IsEnvironmentRow-none_shown : slice_get rows 0 ≡ None → (r : Row) → ¬ IsEnvironmentRow e old.now r
  IsEnvironmentRow-none_shown none r is = Shown-none_kept old new (Asks-HasBrokerTables old.now.schema h e) rows shown none r is.0 (keeps-by_name r e is.1)

  pub IsMarkIn-found : (gated : Option Bool) → option_map (λ g. Int (pos (mark_of g))) gated ≡ option_map (λ row. column row 0) (slice_get rows 0) → IsMarkIn e old.now gated
  IsMarkIn-found gated read = go gated (slice_get rows 0) refl read
    where
      go : (g : Option Bool) (o : Option Row) → slice_get rows 0 ≡ o → option_map (λ g. Int (pos (mark_of g))) g ≡ option_map (λ row. column row 0) o → IsMarkIn e old.now g
      go None None head read = IsEnvironmentRow-none_shown head
      go (Some g) (Some row) head read =
          let it = IsEnvironmentRow-shown_mark row head in
          let first : Int (pos (mark_of g)) ≡ column row 0 = cc in
          (it.0, it.1, ap (λ x. column x 0) (sym it.2) ∙ sym first)
      go _ _ head read = absurd cc

  pub HasNoMark-shown : (row : Row) → slice_get rows 0 ≡ Some row → ¬ IsTruthAt 0 row → HasNoMark e old.now
  HasNoMark-shown row head none =
      let it = IsEnvironmentRow-shown_mark row head in
      (it.0, it.1, λ n is. let high : ¬ (n ≤ 1) = (λ low. none (subst (IsTruthAt 0) (sym it.2) (omega arith, (n, is, low)))) in omega (arith, high))

-- ---- the mark gated

pub gated : (e : List ℕ) → TableQuery gated_sql (Text e ∷ []) gated_query
unfolding understood everything
gated e = record { names = _; means = record { is = refl; plain = (refl, refl); unlisted = refl }; runs = record { whole = refl; typed = refl; sumless = refl } }

pub IsShown-gated : (e : List ℕ) (db : Database) (rows : List Row) (s : Broker) (found : Option ℕ) → Holds db s → IsShown (gated e) db rows
    → option_map (λ n. Int (pos n)) found ≡ option_map (λ row. column row 0) (slice_get rows 0) → option_map (λ n. n == 1) found ≡ option_map (λ (m : Marks). m.gated) (s.environments e)
IsShown-gated e db rows s found held h read =
    sym (option_map-compose truth_in (λ n. Int (pos n)) found) ∙ ap (option_map truth_in) read ∙ option_map-compose truth_in (λ row. column row 0) (slice_get rows 0)
    ∙ finds environments_by_name db held.broker (Text e ∷ []) e refl (truth in_environments.gated) (truth 0) (λ r. refl) rows h
    ∙ sym (value_at-option_map text_cmp (text in_environments.name) (λ (m : Marks). m.gated) (marks_in (db.trees in_strict_environments.tree)) (db.trees in_environments.tree) e) ∙ ap (option_map (λ (m : Marks). m.gated)) (held.environments e)

-- the mark that is shown is 0 or 1
pub EachReads-gated : (e : List ℕ) (db : Database) → EachReads (gated e) db (IsTruthAt 0)
EachReads-gated e db s held readable = EachShown-of_table (gated e) db (IsTruthAt 0) (λ r has kept.
    let whole = column-whole_numbers at_environments db held.broker in_environments.gated refl r has in
    let mark = is_truth-bounds r in_environments.gated (whole_at in_environments.gated r) whole (first_of_both _ true (IsDatabase-passes_checks db held.broker.kept.sound environments (listed at_environments db held.broker) r has)) in
    (omega arith, (mark.0, whole ∙ ap Int mark.1, mark.2)))

-- a number above 1 is no mark
pub IsTruthAt-not_above_one : (found : Option ℕ) (o : Option Row) → option_map (λ n. Int (pos n)) found ≡ option_map (λ row. column row 0) o → IsSomeAnd found (λ n. 1 < n) → (row : Row) × (o ≡ Some row) × (¬ IsTruthAt 0 row)
IsTruthAt-not_above_one None o read high = absurd high
IsTruthAt-not_above_one (Some n) None read high = absurd cc
IsTruthAt-not_above_one (Some n) (Some row) read high = (
  row,
  refl,
  λ is_present.
      let one : Some (Int (pos n)) ≡ Some (Int (pos is_present.1.0)) = read ∙ ap Some is_present.1.1 in
      let nats : n ≡ is_present.1.0 = cc in
      omega (arith, high, nats, is_present.1.2),
)

-- a mark is a number
pub IsTruthAt-IsNumberRow : (row : Row) → IsTruthAt 0 row → IsNumberRow row
IsTruthAt-IsNumberRow row is_present = (is_present.0, (is_present.1.0, is_present.1.1, omega (arith, is_present.1.2)))

-- ---- the mark strict

-- the marks of a name, by what its row has and by whether the name is among the strict ones
value_at-marks_in : (strict rows : List Row) (e : List ℕ) → value_at text_cmp (text in_environments.name) (marks_in strict) rows e ≡ option_map (λ g. marks g (has_row_at text_cmp (text in_strict_environments.environment) strict e)) (value_at text_cmp (text in_environments.name) (truth in_environments.gated) rows e)
value_at-marks_in strict [] e = refl
value_at-marks_in strict (r ∷ rows) e = go (eq_by_cmp text_cmp e (text in_environments.name r)) refl (value_at-marks_in strict rows e)
  where
    go : (b : Bool) → eq_by_cmp text_cmp e (text in_environments.name r) ≡ b → value_at text_cmp (text in_environments.name) (marks_in strict) rows e ≡ option_map (λ g. marks g (has_row_at text_cmp (text in_strict_environments.environment) strict e)) (value_at text_cmp (text in_environments.name) (truth in_environments.gated) rows e)
        → cond b (Some (marks_in strict r)) (value_at text_cmp (text in_environments.name) (marks_in strict) rows e)
        ≡ option_map (λ g. marks g (has_row_at text_cmp (text in_strict_environments.environment) strict e)) (cond b (Some (truth in_environments.gated r)) (value_at text_cmp (text in_environments.name) (truth in_environments.gated) rows e))
    go true same later = ap (λ k. Some (marks (truth in_environments.gated r) (has_row_at text_cmp (text in_strict_environments.environment) strict k))) (sym (text_cmp-antisymmetric e (text in_environments.name r) ((Equal-is (text_cmp e (text in_environments.name r))).0 same)))
    go false apart later = later

-- so whether a name that has marks is there is one of them
marks-strict : (g : Option Bool) (is_present : Bool) (m : Marks) → option_map (λ x. marks x is_present) g ≡ Some m → is_present ≡ m.strict
marks-strict None is_present m is = absurd cc
marks-strict (Some x) is_present m is = let same : marks x is_present ≡ m = cc in ap (λ (k : Marks). k.strict) same

has_row_at-strict_mark : (db : Database) (s : Broker) (e : List ℕ) (m : Marks) → Holds db s → s.environments e ≡ Some m → has_row_at text_cmp (text in_strict_environments.environment) (db.trees in_strict_environments.tree) e ≡ m.strict
has_row_at-strict_mark db s e m held is = marks-strict _ _ m
    (sym (value_at-marks_in (db.trees in_strict_environments.tree) (db.trees in_environments.tree) e) ∙ held.environments e ∙ is)

pub strict : (e : List ℕ)
    → TableQuery (codes "SELECT environment FROM strict_environments WHERE environment = ?1")
    (Text e ∷ []) (from_table in_strict_environments.tree (op2 (Compare Eq Binary) (col 1 in_strict_environments.environment) (col 0 0) ∷ [])
    (col 1 in_strict_environments.environment ∷ []) [])
unfolding understood everything
strict e = record { names = _; means = record { is = refl; plain = (refl, refl); unlisted = refl }; runs = record { whole = refl; typed = refl; sumless = refl } }

pub IsShown-strict : (e : List ℕ) (db : Database) (rows : List Row) (s : Broker) (m : Marks) → Holds db s → s.environments e ≡ Some m → IsShown (strict e) db rows → is_some (slice_get rows 0) ≡ m.strict
IsShown-strict e db rows s m held is h =
    finds_row strict_by_name db held.broker (Text e ∷ []) e refl rows h ∙ has_row_at-strict_mark db s e m held is

-- ---- a new environment

abbrev pub put_sql : List ℕ
put_sql = codes "INSERT INTO environments (name, gated) VALUES (?1, ?2)"

Adds-environment : (e : List ℕ) (gated : Bool) → Adds at_environments put_sql (Text e ∷ Int (pos (mark_of gated)) ∷ []) (Text e ∷ Int (pos (mark_of gated)) ∷ [])
unfolding understood everything
Adds-environment e gated = record {
  puts = record { terms = lit Null ∷ col 0 0 ∷ col 0 1 ∷ []; width = 3; means = record { is = refl; plain = (refl, refl); unlisted = refl }; whole = refl; kinds = refl; one = refl };
  stored = λ i. Text e ∷ cast-Int (pos (mark_of gated)) i ∷ [];
}

-- a mark is 0 or 1, as the CHECK asks
PassAlone-environment : (id : Value) (e : List ℕ) (gated : Bool) → PassAlone environments ((id ∷ Text e ∷ Int (pos (mark_of gated)) ∷ []) ∷ [])
unfolding binary value_cmp lib.Ieee.is_nan lib.Ieee.lt
PassAlone-environment id e true = record { typed = refl; present = refl; checked = refl }
PassAlone-environment id e false = record { typed = refl; present = refl; checked = refl }

mark_of-is_one : (gated : Bool) → (mark_of gated == 1) ≡ gated
mark_of-is_one true = refl
mark_of-is_one false = refl

-- an environment that isn't there isn't strict
has_row_at-not_strict : (db : Database) (s : Broker) (e : List ℕ) → Holds db s → s.environments e ≡ None
    → has_row_at text_cmp (text in_strict_environments.environment) (db.trees in_strict_environments.tree) e ≡ false
has_row_at-not_strict db s e held free =
    has_row_at-none text_cmp (text in_strict_environments.environment) (text in_strict_environments.environment) e (db.trees in_strict_environments.tree) (λ r has.
    let named = references-environment db held.broker strict_environments (listed at_strict_environments db held.broker) in_strict_environments.environment (inl refl) r has (column-texts at_strict_environments db held.broker in_strict_environments.environment refl r has) in
    ap (eq_by_cmp text_cmp e) (sym named.2) ∙ find-None_no_row nat_list_cmp_total text_cmp-antisymmetric (text in_environments.name) (marks_in (db.trees in_strict_environments.tree)) e (db.trees in_environments.tree) named.0 (held.environments e ∙ free) named.1)

module _ (e : List ℕ) (gated : Bool) (old new : State) where
  abbrev rows : List Row
  rows = old.now.trees in_environments.tree

  module _ (s : Broker) (held : Holds old.now s) where
    abbrev made : Row
    made = added (Adds-environment e gated) old new held.broker

    -- the strict environments are the same
    pub strict_stays : (count : ℕ) → Executes put_sql (Text e ∷ Int (pos (mark_of gated)) ∷ []) old new (Ok count) → new.now.trees in_strict_environments.tree ≡ old.now.trees in_strict_environments.tree
    strict_stays count h =
        (ChangesOnly-Frame (codes "environments" ∷ []) in_environments.tree refl old new held.broker (Executes-adds_row (Adds-environment e gated) old new held.broker count h).0).others.1.1.1.1.1.1.1.1.1.1.1.1.1.1.0 refl

    pub environment_put : (t : Broker) → AddsEnvironment e (marks gated false) s t → (count : ℕ) → Executes put_sql (Text e ∷ Int (pos (mark_of gated)) ∷ []) old new (Ok count) → HoldsAfter 1 old new t
    environment_put t (free, next) count h =
        let only = (Executes-adds_row (Adds-environment e gated) old new held.broker count h).0 in
        let row : marks_in (old.now.trees in_strict_environments.tree) made ≡ marks gated false = (λ i. marks (mark_of-is_one gated i) (has_row_at-not_strict old.now s e held free i)) in
        HoldsAfter-added (Adds-environment e gated) old new held.broker (omega arith) count h (λ frame it.
        subst (Holds new.now) (sym next) (Holds-environments old.now new.now s _ held (ChangesOnly-Frame (codes "environments" ∷ codes "strict_environments" ∷ []) in_environments.tree refl old new held.broker only) (λ q.
        ap (λ rows. value_at text_cmp (text in_environments.name) (marks_in rows) (new.now.trees in_environments.tree) q) (strict_stays count h)
        ∙ find-IsAdded nat_list_cmp_total text_cmp-antisymmetric (text in_environments.name) (marks_in (old.now.trees in_strict_environments.tree)) rows
        (new.now.trees in_environments.tree) made it (held.environments e ∙ free) q
        ∙ (λ i. cond (sym (texts_ties q e) i) (Some (row i)) (held.environments q i)))))

  -- it fails only as the store fails, or since the name is too long
  pub EndsFrom-AddsEnvironment : EndsFrom (codes "environments" ∷ []) (e ∷ []) put_sql (Text e ∷ Int (pos (mark_of gated)) ∷ []) old new (λ s. (t : Broker) × AddsEnvironment e (marks gated false) s t)
  EndsFrom-AddsEnvironment s here (t, next) numbers =
      let free = sym (value_at-is_some text_cmp (text in_environments.name) (marks_in (old.now.trees in_strict_environments.tree)) rows e) ∙ ap is_some (here.held.environments e ∙ next.0) in
      EndsOnly-added (Adds-environment e gated) old new here.held.broker numbers.0 (PassAlone-environment _ e gated) (IsFree-of_has_row_at environments_by_name old.now here.held.broker (made s here.held) refl free, tt)
      tt (e ∷ []) (λ are. (are.0, (tt, tt))) (omega arith) (omega arith) here.unlimited

-- ---- an environment becomes strict

abbrev pub make_sql : List ℕ
make_sql = codes "INSERT INTO strict_environments (environment) VALUES (?1)"

Adds-strict_environment : (e : List ℕ) → Adds at_strict_environments make_sql (Text e ∷ []) (Text e ∷ [])
unfolding understood everything
Adds-strict_environment e = record {
  puts = record { terms = lit Null ∷ col 0 0 ∷ []; width = 2; means = record { is = refl; plain = (refl, refl); unlisted = refl }; whole = refl; kinds = refl; one = refl };
  stored = refl;
}

-- the marks of a name, once one more name is strict
marks-one_more_strict : (b : Bool) (g : Option Bool) (was : Bool) (m : Marks) → (b ≡ true → option_map (λ x. marks x was) g ≡ Some m) → option_map (λ x. marks x (b || was)) g ≡ cond b (Some (marks m.gated true)) (option_map (λ x. marks x was) g)
marks-one_more_strict false g was m there = refl
marks-one_more_strict true None was m there = absurd (let clash : None ≡ Some m = there refl in cc)
marks-one_more_strict true (Some x) was m there = let is = there refl in let same : marks x was ≡ m = cc in ap (λ (k : Marks). Some (marks k.gated true)) same

module _ (e : List ℕ) (old new : State) where
  abbrev strict_rows : List Row
  strict_rows = old.now.trees in_strict_environments.tree

  pub HoldsAfter-MakesStrict : (s : Broker) → Holds old.now s → (t : Broker) → MakesStrict e s t → (count : ℕ) → Executes make_sql (Text e ∷ []) old new (Ok count) → HoldsAfter 1 old new t
  HoldsAfter-MakesStrict s held t (m, is, next) count h =
      let only = (Executes-adds_row (Adds-strict_environment e) old new held.broker count h).0 in
      HoldsAfter-added (Adds-strict_environment e) old new held.broker (omega arith) count h (λ frame it.
      let same : new.now.trees in_environments.tree ≡ old.now.trees in_environments.tree = frame.others.1.1.1.1.1.0 refl in
      subst (Holds new.now) (sym next) (Holds-environments old.now new.now s _ held (ChangesOnly-Frame (codes "environments" ∷ codes "strict_environments" ∷ []) in_strict_environments.tree refl old new held.broker only) (λ q.
      let was = sym (value_at-marks_in strict_rows (old.now.trees in_environments.tree) q) in
      let gated = value_at text_cmp (text in_environments.name) (truth in_environments.gated) (old.now.trees in_environments.tree) q in
      ap (λ rows. value_at text_cmp (text in_environments.name) (marks_in (new.now.trees in_strict_environments.tree)) rows q) same
      ∙ value_at-marks_in (new.now.trees in_strict_environments.tree) (old.now.trees in_environments.tree) q
      ∙ ap (λ b. option_map (λ g. marks g b) gated)
      (has_row_at-IsAdded text_cmp (text in_strict_environments.environment) strict_rows (new.now.trees in_strict_environments.tree) _ it q)
      ∙ marks-one_more_strict (eq_by_cmp text_cmp q e) gated _ m (λ t. was ∙ held.environments q ∙ ap s.environments (text_cmp-antisymmetric q e ((Equal-is (text_cmp q e)).0 t)) ∙ is)
      ∙ (λ i. cond (sym (texts_ties q e) i) (Some (marks m.gated true)) ((was ∙ held.environments q) i)))))

  -- of one that isn't strict it fails only as the store fails, or since the name is too long
  pub EndsFrom-IsLenient : EndsFrom (codes "strict_environments" ∷ []) (e ∷ []) make_sql (Text e ∷ []) old new (IsLenient e)
  EndsFrom-IsLenient s here (m, is, off) numbers =
      let made = added (Adds-strict_environment e) old new here.held.broker in
      EndsOnly-added (Adds-strict_environment e) old new here.held.broker numbers.0 (record { typed = refl; present = refl; checked = refl })
      (IsFree-of_has_row_at strict_by_name old.now here.held.broker made refl (has_row_at-strict_mark old.now s e m here.held is ∙ off), tt)
      (IsThere-environment old.now s here.held made in_strict_environments.environment e (ap is_some is) refl, tt) (e ∷ []) (λ are. are) (omega arith) (omega arith) here.unlimited

-- ---- both marks

cond-twice : {X : Type 0} (t : Bool) (x y z : X) → cond t y (cond t x z) ≡ cond t y z
cond-twice true x y z = refl
cond-twice false x y z = refl

pub put_at-same_key : {X : Type 0} (f : List ℕ → Option X) (e : List ℕ) (a : X) → put_at same_text f e (Some a) e ≡ Some a
put_at-same_key f e a = ap (λ t. cond t (Some a) (f e)) (texts_ties e e ∙ (eq_by_cmp_equiv nat_list_cmp_total).refl e)

-- a new environment that then becomes strict
pub put_at-environment_twice : (s : Broker) (e : List ℕ) (a b : Marks) → record (record s { environments = put_at same_text s.environments e (Some a) }) { environments = put_at same_text (put_at same_text s.environments e (Some a)) e (Some b) }
    ≡ record s { environments = put_at same_text s.environments e (Some b) }
put_at-environment_twice s e a b = ap (λ (f : List ℕ → Option Marks). record s { environments = f }) (λ i q. cond-twice (same_text q e) (Some a) (Some b) (s.environments q) i)
