-- That a number or a name in a column is the one of a row that is there, by the table's REFERENCES.
use Rattle.std.specs.{List.{enumerate_from}, Ordering.{is_eq, int_cmp}, Cmp.{Equal-is}, FinMap.{int_cmp-IsAntisymmetric}}
use Rattle.std.proofs.Common.{◌≡◌, ℕ, ℤ, pos, ◌+◌, ◌<◌, List, [], ◌∷◌, map, length, Bool, true, false, ◌||◌, refl, sym, ap, subst, ◌∙◌, Some, codes, arith, inl, inr}
use Rattle.std.proofs.lemmas.Bool.{cases_Bool}
use Rattle.sqlite.specs.{Tree.{rowid}, declared.types.Value.TheVariants.{Int, Text}, Order.{Row, column}, Schema.{Schema}, Table.{Table}, Effect.{Database}}
use Rattle.sqlite.specs.Collation.TheVariants.{Binary}
use Rattle.sqlite_sql.specs.Ops.{is_null}
use Rattle.sqlite_schema.specs.{declared.schema.Reference.{Reference}, declared.schema.Constraint.TheVariants.{ForeignKey}}
use Rattle.sqlite_schema.specs.Rules.{has_parent, is_held, parent_key, agree, equal}
use Rattle.sqlite_value.specs.{declared.keys.Order.{Order}, Keys.{first_key}}
use Rattle.sqlite_rules.{specs.Lists.{Has}, proofs.{RuleLemmas.{keeps_at}, TableLemmas.{int_is}}}
use Rattle.sqlite_keyed.proofs.{ListLemmas.{all_from_test}, RuleLemmas.{first_of_both}}
use Rattle.sqlite_tied.specs.Compute.{everything}
use Rattle.table_access.{specs.Columns.{text, text_cmp, whole_at}, proofs.{Values.{binary-Eq_Int, binary-Eq_Text}, Members.{has_map, map_has, any_has}}}
use Rattle.table_access.proofs.SoundLemmas.{at_has}
use Rattle.broker_core.specs.declared.command.Version.{Version}
use Rattle.broker_tables.specs.Schema.{broker_schema, to, in_teams, in_pacticipants, in_versions, in_environments, in_contents, in_results}
use Rattle.broker_tables.{specs.Holds.{IsBroker, AreVersions}, proofs.Orders.{text_cmp-antisymmetric}}
use Rattle.broker_tables.proofs.Placed.{Placed, at_contents, at_environments, at_pacticipants, at_results, at_versions, Placed-IsNumbered, column-texts}

-- what REFERENCES names is the column at this place of the table at this tree, which is compared byte by byte
abbrev pub LeadsTo : ℕ → List ℕ → List ℕ → ℕ → ℕ → Type 0
LeadsTo p name key tree at = (o : Order) × (parent_key broker_schema.tables (to p name key) ≡ Some (tree, at ∷ [], o)) × ((first_key o).collation ≡ Binary)

pub LeadsTo-each : (p : ℕ) → LeadsTo p (codes "versions") (codes "number") in_versions.tree in_versions.number
    × LeadsTo p (codes "contents") (codes "number") in_contents.tree in_contents.number
    × LeadsTo p (codes "results") (codes "number") in_results.tree in_results.number
    × LeadsTo p (codes "environments") (codes "name") in_environments.tree in_environments.name
    × LeadsTo p (codes "pacticipants") (codes "name") in_pacticipants.tree in_pacticipants.name
    × LeadsTo p (codes "teams") (codes "name") in_teams.tree in_teams.name
unfolding everything
LeadsTo-each p = ((_, refl, refl), (_, refl, refl), (_, refl, refl), (_, refl, refl), (_, refl, refl), (_, refl, refl))

or-left_false : (a b : Bool) → (a || b) ≡ true → a ≡ false → b ≡ true
or-left_false true b h e = absurd cc
or-left_false false b h e = h

module _ (db : Database) (broker : IsBroker db) (t : Table) (listed : Has db.schema.tables t) (p : ℕ) (r : Row) (has : Has (db.trees t.tree) r) where
  -- a column that REFERENCES a column of a table is equal to that column of one of its rows
  references-has_row : (name key : List ℕ) (tree at : ℕ) → LeadsTo p name key tree at → Has t.references (to p name key) → is_null (column r p) ≡ false
      → (x : Row) × Has (db.trees tree) x × (equal Binary (column x at) (column r p) ≡ true)
  references-has_row name key tree at (order, keyed, binary) among filled =
      let ref : Reference = to p name key in
      let all = keeps_at ForeignKey db.schema db.trees t r (broker.kept.sound.obeys.rules ForeignKey) listed has in
      let one : has_parent db.schema.tables db.trees r ref ≡ true = at_has _ t.references ref (all_from_test _ t.references all) among in
      let here : has_parent broker_schema.tables db.trees r ref ≡ true = subst (λ (s : Schema). has_parent s.tables db.trees r ref ≡ true) broker.schema one in
      let held : is_held db.trees (p ∷ []) r (Some (tree, at ∷ [], order)) ≡ true = ap (is_held db.trees (p ∷ []) r) (sym keyed) ∙ or-left_false _ _ here (ap (λ b. b || false) filled) in
      let found = any_has (λ parent. agree order (at ∷ []) parent (p ∷ []) r) (db.trees tree) held in
      (found.0, found.1, ap (λ c. equal c (column found.0 at) (column r p)) (sym binary) ∙ first_of_both _ _ found.2)

  -- a number in a column that REFERENCES the numbers of a table is the one of a row of it
  references-has_number : (name key : List ℕ) (tree : ℕ) → LeadsTo p name key tree 0 → ((x : Row) → Has (db.trees tree) x → column x 0 ≡ Int (whole_at 0 x))
      → Has t.references (to p name key) → column r p ≡ Int (whole_at p r) → (x : Row) × Has (db.trees tree) x × (whole_at 0 x ≡ whole_at p r)
  references-has_number name key tree keyed ids among typed =
      let found = references-has_row name key tree 0 keyed among (ap is_null typed) in
      let ints : is_eq (int_cmp (whole_at 0 found.0) (whole_at p r)) ≡ true =
      sym (binary-Eq_Int (whole_at 0 found.0) (whole_at p r)) ∙ ap (λ v. equal Binary v (Int (whole_at p r))) (sym (ids found.0 found.1)) ∙ ap (equal Binary (column found.0 0)) (sym typed) ∙ found.2 in
      (found.0, found.1, int_cmp-IsAntisymmetric _ _ ((Equal-is (int_cmp (whole_at 0 found.0) (whole_at p r))).0 ints))

  -- a text in a column that REFERENCES the names of a table is the name in a row of it
  references-has_name : (name key : List ℕ) (tree q : ℕ) → LeadsTo p name key tree q → ((x : Row) → Has (db.trees tree) x → column x q ≡ Text (text q x))
      → Has t.references (to p name key) → column r p ≡ Text (text p r) → (x : Row) × Has (db.trees tree) x × (text q x ≡ text p r)
  references-has_name name key tree q keyed names among typed =
      let found = references-has_row name key tree q keyed among (ap is_null typed) in
      let texts : is_eq (text_cmp (text q found.0) (text p r)) ≡ true =
      sym (binary-Eq_Text (text q found.0) (text p r)) ∙ ap (λ v. equal Binary v (Text (text p r))) (sym (names found.0 found.1)) ∙ ap (equal Binary (column found.0 q)) (sym typed) ∙ found.2 in
      (found.0, found.1, text_cmp-antisymmetric _ _ ((Equal-is (text_cmp (text q found.0) (text p r))).0 texts))

module _ (db : Database) (broker : IsBroker db) where
  -- the numbers of a table that has them as its rowids
  column-Int_whole_at : {t : Table} (at : Placed t) (x : Row) → Has (db.trees t.tree) x → column x 0 ≡ Int (whole_at 0 x)
  column-Int_whole_at at x has = int_is (rowid x) (at_has _ _ x (Placed-IsNumbered at db broker).1 has)

  pub references-version : (t : Table) → Has db.schema.tables t → (p : ℕ) → Has t.references (to p (codes "versions") (codes "number")) → (r : Row) → Has (db.trees t.tree) r → column r p ≡ Int (whole_at p r)
      → (x : Row) × Has (db.trees in_versions.tree) x × (whole_at in_versions.number x ≡ whole_at p r)
  references-version t listed p among r has typed = references-has_number db broker t listed p r has (codes "versions") (codes "number") in_versions.tree (LeadsTo-each p).0 (column-Int_whole_at at_versions) among typed

  pub references-content : (t : Table) → Has db.schema.tables t → (p : ℕ) → Has t.references (to p (codes "contents") (codes "number")) → (r : Row) → Has (db.trees t.tree) r → column r p ≡ Int (whole_at p r)
      → (x : Row) × Has (db.trees in_contents.tree) x × (whole_at in_contents.number x ≡ whole_at p r)
  references-content t listed p among r has typed = references-has_number db broker t listed p r has (codes "contents") (codes "number") in_contents.tree (LeadsTo-each p).1 (column-Int_whole_at at_contents) among typed

  pub references-result : (t : Table) → Has db.schema.tables t → (p : ℕ) → Has t.references (to p (codes "results") (codes "number")) → (r : Row) → Has (db.trees t.tree) r → column r p ≡ Int (whole_at p r)
      → (x : Row) × Has (db.trees in_results.tree) x × (whole_at in_results.number x ≡ whole_at p r)
  references-result t listed p among r has typed = references-has_number db broker t listed p r has (codes "results") (codes "number") in_results.tree (LeadsTo-each p).2 (column-Int_whole_at at_results) among typed

  pub references-environment : (t : Table) → Has db.schema.tables t → (p : ℕ) → Has t.references (to p (codes "environments") (codes "name")) → (r : Row) → Has (db.trees t.tree) r → column r p ≡ Text (text p r)
      → (x : Row) × Has (db.trees in_environments.tree) x × (text in_environments.name x ≡ text p r)
  references-environment t listed p among r has typed = references-has_name db broker t listed p r has (codes "environments") (codes "name") in_environments.tree in_environments.name (LeadsTo-each p).3 (column-texts at_environments db broker in_environments.name refl) among typed

  pub references-pacticipant : (t : Table) → Has db.schema.tables t → (p : ℕ) → Has t.references (to p (codes "pacticipants") (codes "name")) → (r : Row) → Has (db.trees t.tree) r → column r p ≡ Text (text p r)
      → (x : Row) × Has (db.trees in_pacticipants.tree) x × (text in_pacticipants.name x ≡ text p r)
  references-pacticipant t listed p among r has typed = references-has_name db broker t listed p r has (codes "pacticipants") (codes "name") in_pacticipants.tree in_pacticipants.name (LeadsTo-each p).4 (column-texts at_pacticipants db broker in_pacticipants.name refl) among typed

-- ---- the numbers of the versions

-- if rows have the numbers of a list that is numbered from n on, each is below n plus the length of the list
pub enumerate_from-row_number : {X : Type 0} (f : Row → X) (rows : List Row) (xs : List X) (n : ℕ) → map {B = ℤ × X} (λ r. (whole_at 0 r, f r)) rows ≡ map (λ e. (pos e.0, e.1)) (enumerate_from n xs) → (r : Row) → Has rows r
    → (k : ℕ) × (whole_at 0 r ≡ pos k) × (k < n + length xs)
enumerate_from-row_number f [] xs n is r has = absurd has
enumerate_from-row_number f (y ∷ rows) [] n is r has = absurd (let e = is in cc)
enumerate_from-row_number {X} f (y ∷ rows) (x ∷ xs) n is r (inl same) =
    let pair : ◌≡◌ {A = ℤ × X} (whole_at 0 y, f y) (pos n, x) = cc in
    (n, ap (whole_at 0) same ∙ ap (λ (p : ℤ × X). p.0) pair, omega arith)
enumerate_from-row_number {X} f (y ∷ rows) (x ∷ xs) n is r (inr more) =
    let rest : map {B = ℤ × X} (λ r. (whole_at 0 r, f r)) rows ≡ map (λ e. (pos e.0, e.1)) (enumerate_from (n + 1) xs) = cc in
    let it = enumerate_from-row_number f rows xs (n + 1) rest r more in
    (it.0, it.1, omega (arith, it.2))

enumerate_from-has : {X : Type 0} (n : ℕ) (xs : List X) (e : ℕ × X) → Has (enumerate_from n xs) e → Has xs e.1
enumerate_from-has n [] e has = absurd has
enumerate_from-has n (x ∷ xs) e (inl same) = inl (ap (λ (p : ℕ × _). p.1) same)
enumerate_from-has n (x ∷ xs) e (inr later) = inr (enumerate_from-has (n + 1) xs e later)

-- and what a row has beside its number is one of the list
pub enumerate_from-row_entry : {X : Type 0} (f : Row → X) (rows : List Row) (xs : List X) (n : ℕ) → map {B = ℤ × X} (λ r. (whole_at 0 r, f r)) rows ≡ map (λ e. (pos e.0, e.1)) (enumerate_from n xs) → (r : Row) → Has rows r → Has xs (f r)
enumerate_from-row_entry {X} f rows xs n is r has =
    let one = subst (λ (es : List (ℤ × X)). Has es (whole_at 0 r, f r)) is (has_map (λ x. (whole_at 0 x, f x)) rows r has) in
    let it = map_has (λ (e : ℕ × X). (pos e.0, e.1)) (enumerate_from n xs) (whole_at 0 r, f r) one in
    subst (Has xs) (sym (ap (λ (p : ℤ × X). p.1) it.2)) (enumerate_from-has n xs it.0 it.1)

module _ (db : Database) (broker : IsBroker db) (vs : List Version) (are : AreVersions vs (db.trees in_versions.tree)) where
  -- no row names a version of a number that isn't there
  pub references-not_next_version : (t : Table) → Has db.schema.tables t → (p : ℕ) → Has t.references (to p (codes "versions") (codes "number")) → (r : Row) → Has (db.trees t.tree) r → column r p ≡ Int (whole_at p r)
      → is_eq (int_cmp (pos (length vs + 1)) (whole_at p r)) ≡ false
  references-not_next_version t listed p among r has typed =
      let x = references-version db broker t listed p among r has typed in
      let it = enumerate_from-row_number _ (db.trees in_versions.tree) vs 1 are x.0 x.1 in
      elim (cases_Bool (is_eq (int_cmp (pos (length vs + 1)) (whole_at p r)))) [
        | inl hit ↦ absurd (let same : pos (length vs + 1) ≡ pos it.0 = int_cmp-IsAntisymmetric _ _ ((Equal-is (int_cmp (pos (length vs + 1)) (whole_at p r))).0 hit) ∙ sym x.2 ∙ it.1 in let nats : length vs + 1 ≡ it.0 = cc in omega (arith, it.2, nats))
        | inr none ↦ none
      ]
