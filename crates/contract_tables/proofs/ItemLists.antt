-- A list of items, each read of a row or of two that a query keeps, in the order of what the items are sorted by.
use Rattle.std.specs.{FinMap.{IsAntisymmetric}, Prelude.{◌↔◌}, Ordering.{eq_by_cmp, is_eq, int_cmp, nat_cmp, ordering_then}}
use Rattle.std.specs.Cmp.{Equal-is, eq_by_cmp_equiv, int_cmp_total}
use Rattle.std.proofs.Common.{◌≡◌, ◌==◌, ℕ, ℤ, pos, List, [], ◌∷◌, Bool, true, false, true≢false, cond, nat_lt, filter, ◌&&◌, refl, sym, ap, ◌∙◌, Ordering, Less, Equal, Greater}
use Rattle.std.proofs.lemmas.Bool.{and_from, false_from_ne_true}
use Rattle.sqlite.specs.{Tree.{IsAscending}, declared.types.Value.{Value}, declared.types.Value.TheVariants.{Int, Text}, Order.{Row, value_cmp}}
use Rattle.sqlite.specs.{Term.{Term, eval_all}, Effect.{Database, Answers}, Query.{Query}}
use Rattle.sqlite_value.{specs.declared.keys.Key.{Key}, proofs.OrderLemmas.{value_cmp-Int, value_cmp-Text, then-Equal}}
use Rattle.sqlite_rules.specs.Lists.{Has}
use Rattle.sqlite_keyed.proofs.{ListLemmas.{ascending-filter}, RuleLemmas.{first_of_both, second_of_both}}
use Rattle.table_access.specs.{Columns.{text_cmp, whole_at}, Sound.{IsNumbered}, Reading.{AreRead}}
use Rattle.table_access.specs.Statements.{from_table, from_both, keeps, keeps_both, pairs_kept}
use Rattle.table_access.proofs.Members.{IsAscending-map_on, pairs, pairs-IsAscending, pairs-complete, pairs-sound, has_filter, filter_has}
use Rattle.table_access.proofs.Keys.{IsNumbered-whole_at_unique}
use Rattle.broker_core.specs.Listing.{Lists}
use Rattle.broker_tables.proofs.{Listed.{sorts, Lists-of_table, Lists-of_join}, TableQuery.{TableQuery, IsShown}}

-- ---- tests that AND joins

pub and-two_tests : {a b : Bool} {P Q : Type 0} → ((a ≡ true) ↔ P) → ((b ≡ true) ↔ Q) → ((a && b) ≡ true) ↔ (P × Q)
and-two_tests {a} {b} p q = (λ h. (p.0 (first_of_both a b h), q.0 (second_of_both a b h)), λ h. and_from a b (p.1 h.0) (q.1 h.1))

pub and-true_test : {a : Bool} {P : Type 0} → ((a ≡ true) ↔ P) → ((a && true) ≡ true) ↔ P
and-true_test {a} p = (λ h. p.0 (first_of_both a true h), λ h. and_from a true (p.1 h) refl)

-- ---- what an ORDER BY compares last

pub value_cmp-last_Text : (x y : Value) (a b : List ℕ) → x ≡ Text a → y ≡ Text b → ordering_then (value_cmp x y) Equal ≡ text_cmp a b
value_cmp-last_Text x y a b xs ys = then-Equal (value_cmp x y) ∙ (λ i. value_cmp (xs i) (ys i)) ∙ value_cmp-Text a b

pub value_cmp-last_Int : (x y : Value) (a b : ℤ) → x ≡ Int a → y ≡ Int b → ordering_then (value_cmp x y) Equal ≡ int_cmp a b
value_cmp-last_Int x y a b xs ys = then-Equal (value_cmp x y) ∙ (λ i. value_cmp (xs i) (ys i)) ∙ value_cmp-Int a b

pub int_cmp-nat_cmp_Less : (a b : ℕ) → int_cmp (pos a) (pos b) ≡ Less → nat_cmp a b ≡ Less
int_cmp-nat_cmp_Less a b h = go (nat_lt a b) (nat_lt b a) (a == b) h
  where
    go : (t u e : Bool) → cond t Less (cond u Greater Equal) ≡ Less → cond t Less (cond e Equal Greater) ≡ Less
    go true u e h = refl
    go false true e h = absurd cc
    go false false e h = absurd cc

-- ---- the rows of a table are all different

IsNumbered-rows_differ : (rows : List Row) → IsNumbered rows → IsAscending (λ a b. a ≡ b → ⊥) rows
IsNumbered-rows_differ rows rising = IsAscending-map_on _ _ rows (λ a b ha hb apart same.
    let tied = ap (eq_by_cmp int_cmp (whole_at 0 a)) (ap (whole_at 0) (sym same)) ∙ (eq_by_cmp_equiv int_cmp_total).refl (whole_at 0 a) in
    true≢false (sym tied ∙ apart)) (IsNumbered-whole_at_unique rows rising)

-- and so are the pairs that a JOIN keeps
pairs-differ : (p : Row → Row → Bool) (xs ys : List Row) → IsNumbered xs → IsNumbered ys → IsAscending (λ a b. a ≡ b → ⊥) (pairs p ys xs)
pairs-differ p xs ys one two = pairs-IsAscending p ys (λ a b. a ≡ b → ⊥) xs
    (λ x hx. IsAscending-map_on _ _ ys (λ y z hy hz apart ky kz same. apart (ap (λ q. q.1) same)) (IsNumbered-rows_differ ys two))
    (IsAscending-map_on _ _ xs (λ x w hx hw apart y z hy hz ky kz same. apart (ap (λ q. q.0) same)) (IsNumbered-rows_differ xs one))

-- ---- what is read of them

-- Those that are kept are sorted by a key, each key is that of one of them, each item that is read of one has its key, and
-- the items that are read are those that meet Q.
pub record ByKey {M Y K : Type 0} (project : List Term) (order : List (Term × Key)) (reads : Row → Y → Type 0) (Q : Y → Type 0) (S : K → K → Ordering)
    (key_of : Y → K) (env : M → List Row) (IsKept : M → Type 0) : Type 0 where
  pub key : M → K
  pub sorted : (a b : M) → IsKept a → IsKept b → sorts order env a b ≡ S (key a) (key b)
  pub one : (a b : M) → IsKept a → IsKept b → key a ≡ key b → a ≡ b
  pub read : (m : M) (x : Y) → reads (eval_all project (env m)) x → key m ≡ key_of x
  pub sound : (m : M) (x : Y) → IsKept m → reads (eval_all project (env m)) x → Q x
  pub complete : (x : Y) → Q x → (m : M) × IsKept m × ((y : Y) → reads (eval_all project (env m)) y → y ≡ x)

module _ {M Y K : Type 0} {project : List Term} {order : List (Term × Key)} {reads : Row → Y → Type 0} {Q : Y → Type 0} {S : K → K → Ordering} {key_of : Y → K}
    {env : M → List Row} {IsKept : M → Type 0} (by : ByKey project order reads Q S key_of env IsKept) (kept : List M) (is : (m : M) → Has kept m → IsKept m) where
  apart : IsAntisymmetric S → IsAscending (λ a b. a ≡ b → ⊥) kept → IsAscending (λ a b. is_eq (sorts order env a b) ≡ false) kept
  apart exact = IsAscending-map_on _ _ kept (λ a b ha hb other. false_from_ne_true _ (λ tied.
      let tie = sym (ap is_eq (by.sorted a b (is a ha) (is b hb))) ∙ tied in
      other (by.one a b (is a ha) (is b hb) (exact (by.key a) (by.key b) ((Equal-is (S (by.key a) (by.key b))).0 tie)))))

  sorts-kept_Less : (R : Y → Y → Ordering) → ((x y : Y) → S (key_of x) (key_of y) ≡ Less → R x y ≡ Less) → (a b : M) (x y : Y) → Has kept a → Has kept b
      → reads (eval_all project (env a)) x → reads (eval_all project (env b)) y → sorts order env a b ≡ Less → R x y ≡ Less
  sorts-kept_Less R rises a b x y ha hb ra rb h = rises x y (sym (λ i. S (by.read a x ra i) (by.read b y rb i)) ∙ sym (by.sorted a b (is a ha) (is b hb)) ∙ h)

-- what is shown of a text is the answer of its query
pub IsShown-Answers : {sql : List ℕ} {params : Row} {query : Query} (asked : TableQuery sql params query) (db : Database) (rows : List Row) → IsShown asked db rows → Answers db (record { lets = []; body = query }) params rows
IsShown-Answers asked db rows h = h

module _ {Y K : Type 0} {params : Row} {terms project : List Term} {order : List (Term × Key)} (db : Database) (reads : Row → Y → Type 0)
    (R : Y → Y → Ordering) (Q : Y → Type 0) {S : K → K → Ordering} (exact : IsAntisymmetric S) (key_of : Y → K)
    (rises : (x y : Y) → S (key_of x) (key_of y) ≡ Less → R x y ≡ Less) where
  -- of one table: WHERE keeps the rows that meet P
  pub Lists-of_rows : {t : ℕ} {sql : List ℕ} (asked : TableQuery sql params (from_table t terms project order)) (P : Row → Type 0) → IsNumbered (db.trees t)
      → ((r : Row) → Has (db.trees t) r → (keeps terms params r ≡ true) ↔ P r)
      → ByKey project order reads Q S key_of (λ r. params ∷ r ∷ []) (λ r. Has (db.trees t) r × P r)
      → (rows : List Row) (items : List Y) → IsShown asked db rows → AreRead reads rows items → Lists R Q items
  Lists-of_rows {t} asked P rising tested by =
      let kept = filter (keeps terms params) (db.trees t) in
      let is : (r : Row) → Has kept r → Has (db.trees t) r × P r = λ r has.
      let it = filter_has (keeps terms params) (db.trees t) r has in (it.0, (tested r it.0).0 it.1) in
      let differ = ascending-filter _ (keeps terms params) (db.trees t) (IsNumbered-rows_differ (db.trees t) rising) in
      Lists-of_table db params terms project order reads R Q t (apart by kept is exact differ) (sorts-kept_Less by kept is R rises) (λ r x has. by.sound r x (is r has))
      (λ x q. let it = by.complete x q in (it.0, has_filter (keeps terms params) (db.trees t) it.0 it.1.0 ((tested it.0 it.1.0).1 it.1.1), it.2))

  -- of two: ON and WHERE keep the pairs that meet P
  pub Lists-of_pairs : {t u : ℕ} {Shows : List Row → Type 0} (answers : (rows : List Row) → Shows rows → Answers db (record { lets = []; body = from_both t u terms project order }) params rows) (P : Row → Row → Type 0)
      → IsNumbered (db.trees t) → IsNumbered (db.trees u)
      → ((r q : Row) → Has (db.trees t) r → Has (db.trees u) q → (keeps_both terms params r q ≡ true) ↔ P r q)
      → ByKey project order reads Q S key_of (λ (q : Row × Row). params ∷ q.0 ∷ q.1 ∷ []) (λ q. Has (db.trees t) q.0 × Has (db.trees u) q.1 × P q.0 q.1)
      → (rows : List Row) (items : List Y) → Shows rows → AreRead reads rows items → Lists R Q items
  Lists-of_pairs {t} {u} answers P one two tested by rows items h =
      let kept = pairs_kept terms params (db.trees t) (db.trees u) in
      let joins = keeps_both terms params in
      let is : (q : Row × Row) → Has kept q → Has (db.trees t) q.0 × Has (db.trees u) q.1 × P q.0 q.1 = λ q has.
      let it = pairs-sound joins (db.trees u) (db.trees t) q has in (it.0, it.1, (tested q.0 q.1 it.0 it.1).0 it.2) in
      let differ = pairs-differ joins (db.trees t) (db.trees u) one two in
      Lists-of_join db params terms project order reads R Q t u (apart by kept is exact differ) (sorts-kept_Less by kept is R rises) (λ q x has. by.sound q x (is q has))
      (λ x q.
      let it = by.complete x q in
      let m : Row × Row = it.0 in
      (m, pairs-complete joins (db.trees u) (db.trees t) m.0 m.1 it.1.0 it.1.1 ((tested m.0 m.1 it.1.0 it.1.1).1 it.1.2), it.2)) rows items (answers rows h)
