-- What is read of a list in an order: the items list a set in their own order.
use Rattle.std.specs.{Prelude.{Contains}, List.{AllByRecursion}, List.Sorted.{IsStrictlySortedBy}, Ordering.{is_eq}, declared.cmp.Ordering.{Ordering}}
use Rattle.std.specs.{declared.cmp.Ordering.TheVariants.{Less}, Cmp.{IsTotalOrder, on_total}}
use Rattle.std.proofs.Common.{◌≡◌, inl, inr, ℕ, List, [], ◌∷◌, map, filter, sym, subst, refl, false}
use Rattle.sqlite.specs.{Order.{Row}, Term.{Term, eval_all}, Tree.{IsAscending}, Effect.{Database, Answers}}
use Rattle.sqlite_sql.{specs.Query.{sort_cmp}, proofs.QueryLemmas.{key_cmp_total}}
use Rattle.sqlite_value.specs.declared.keys.Key.{Key}
use Rattle.sqlite_rules.specs.Lists.{Has}
use Rattle.sqlite_keyed.specs.Lists.{sort_by}
use Rattle.table_access.{specs.{Reading.{AreRead}, Statements.{from_table, from_both, keeps, pairs_kept, shows}}, proofs.Members.{contains_has, has_contains}}
use Rattle.table_access.proofs.Ordered.{Answers-in_order, Answers-joined_in_order, sort_by-strictly_sorted, sort_by-sound, sort_by-complete}
use Rattle.broker_core.{specs.Listing.{Lists}, proofs.Lists.{Contains-empty, Contains-cons_cases, Contains-here, Contains-later}}

-- ---- what is read of a list, by members

-- if rows are read into items one by one, each item is read of a row of the list
pub AreRead-sound : {A B : Type 0} (reads : A → B → Type 0) (rows : List A) (items : List B) (x : B) → AreRead reads rows items → Contains items x → (row : A) × Has rows row × reads row x
AreRead-sound reads [] [] x read c = absurd (Contains-empty x c)
AreRead-sound {A} {B} reads (r ∷ rows) (y ∷ items) x read c = elim (Contains-cons_cases y items x c) [
  | inl same ↦ (r, inl refl, subst (reads r) same read.0)
  | inr there ↦ let rest = AreRead-sound reads rows items x read.1 there in (rest.0, inr rest.1, rest.2)
]
AreRead-sound reads _ _ x read c = absurd read

-- if rows are read into items one by one, each row is read into an item of the list
pub AreRead-complete : {A B : Type 0} (reads : A → B → Type 0) (rows : List A) (items : List B) (row : A) → AreRead reads rows items → Has rows row → (x : B) × Contains items x × reads row x
AreRead-complete reads [] items row read has = absurd has
AreRead-complete reads (r ∷ rows) [] row read has = absurd read
AreRead-complete reads (r ∷ rows) (y ∷ items) row read (inl same) = (y, Contains-here y items, subst (λ z. reads z y) (sym same) read.0)
AreRead-complete reads (r ∷ rows) (y ∷ items) row read (inr there) = let rest = AreRead-complete reads rows items row read.1 there in (rest.0, Contains-later y items rest.0 rest.1, rest.2)

pub AreRead-map : {A B X : Type 0} (reads : A → B → Type 0) (show : X → A) (xs : List X) (items : List B) → AreRead reads (map show xs) items → AreRead (λ x. reads (show x)) xs items
AreRead-map reads show [] [] read = tt
AreRead-map reads show (x ∷ xs) (y ∷ items) read = (read.0, AreRead-map reads show xs items read.1)
AreRead-map reads show _ _ read = absurd read

-- ---- a list in order is read into a list in order

module _ {M Y : Type 0} (by : M → M → Ordering) (P : M → Type 0) (reads : M → Y → Type 0) (R : Y → Y → Ordering) (Q : Y → Type 0) (less : (a b : M) (x y : Y) → P a → P b → reads a x → reads b y → by a b ≡ Less → R x y ≡ Less)
    (sound : (m : M) (x : Y) → P m → reads m x → Q x) (whole : (x : Y) → Q x → (m : M) × P m × ((y : Y) → reads m y → y ≡ x)) where
  AreRead-above : (m : M) (x : Y) → P m → reads m x → (ns : List M) (ys : List Y) → ((n : M) → Has ns n → P n) → AllByRecursion (λ n. by m n ≡ Less) ns → AreRead reads ns ys → AllByRecursion (λ y. R x y ≡ Less) ys
  AreRead-above m x there is [] [] each low read = tt
  AreRead-above m x there is (n ∷ ns) (y ∷ ys) each low read = (less m n x y there (each n (inl refl)) is read.0 low.0, AreRead-above m x there is ns ys (λ o has. each o (inr has)) low.1 read.1)
  AreRead-above m x there is _ _ each low read = absurd read

  AreRead-strictly_sorted : (ms : List M) (items : List Y) → ((m : M) → Has ms m → P m) → IsStrictlySortedBy by ms → AreRead reads ms items → IsStrictlySortedBy R items
  unfolding IsStrictlySortedBy
  AreRead-strictly_sorted [] [] each up read = tt
  AreRead-strictly_sorted (m ∷ ms) (x ∷ items) each up read = (AreRead-above m x (each m (inl refl)) read.0 ms items (λ n has. each n (inr has)) up.0 read.1, AreRead-strictly_sorted ms items (λ n has. each n (inr has)) up.1 read.1)
  AreRead-strictly_sorted _ _ each up read = absurd read

  -- what is read of a list of what meets P lists what meets Q
  pub Lists-AreRead : (ms : List M) (items : List Y) → Lists by P ms → AreRead reads ms items → Lists R Q items
  Lists-AreRead ms items listed read = record {
    sorted = AreRead-strictly_sorted ms items (λ m has. (listed.exactly m).0 (has_contains ms m has)) listed.sorted read;
    exactly = λ x. (
      λ c. let it = AreRead-sound reads ms items x read c in sound it.0 x ((listed.exactly it.0).0 (has_contains ms it.0 it.1)) it.2,
      λ q.
          let m = whole x q in
          let y = AreRead-complete reads ms items m.0 read (contains_has ms m.0 ((listed.exactly m.0).1 m.1)) in
          subst (Contains items) (m.2 y.0 y.2) y.1,
    );
  }

-- ---- what a query shows in its order

-- how two compare by the terms of an ORDER BY, each term evaluated in the one's rows and in the other's
abbrev pub sorts : {M : Type 0} → List (Term × Key) → (M → List Row) → M → M → Ordering
sorts order env a b = sort_cmp order (env a) (env b)

pub sorts-IsTotalOrder : {M : Type 0} (order : List (Term × Key)) (env : M → List Row) → IsTotalOrder (sorts order env)
sorts-IsTotalOrder order env = on_total (λ m. eval_all (map (λ k. k.0) order) (env m)) (key_cmp_total (map (λ k. k.1) order) 0)

Lists-sort_by : {M : Type 0} (by : M → M → Ordering) → IsTotalOrder by → (kept : List M) → IsAscending (λ a b. is_eq (by a b) ≡ false) kept → Lists by (Has kept) (sort_by by kept)
Lists-sort_by by total kept apart = record {
  sorted = sort_by-strictly_sorted by total kept apart;
  exactly = λ m. (λ c. contains_has kept m (sort_by-sound by total kept m c), λ has. sort_by-complete by total kept m (has_contains kept m has));
}

module _ {Y : Type 0} (db : Database) (params : Row) (terms project : List Term) (order : List (Term × Key)) (reads : Row → Y → Type 0) (R : Y → Y → Ordering) (Q : Y → Type 0) where
  -- SELECT project FROM a table WHERE terms ORDER BY order, if no two rows tie
  pub Lists-of_table : (t : ℕ) → let kept = filter (keeps terms params) (db.trees t) in let env : Row → List Row = λ r. params ∷ r ∷ [] in
      IsAscending (λ a b. is_eq (sorts order env a b) ≡ false) kept
      → ((a b : Row) (x y : Y) → Has kept a → Has kept b → reads (eval_all project (env a)) x → reads (eval_all project (env b)) y → sorts order env a b ≡ Less → R x y ≡ Less)
      → ((r : Row) (x : Y) → Has kept r → reads (eval_all project (env r)) x → Q x)
      → ((x : Y) → Q x → (r : Row) × Has kept r × ((y : Y) → reads (eval_all project (env r)) y → y ≡ x))
      → (rows : List Row) (items : List Y) → Answers db (record { lets = []; body = from_table t terms project order }) params rows → AreRead reads rows items → Lists R Q items
  Lists-of_table t apart less sound whole rows items h read =
      let kept = filter (keeps terms params) (db.trees t) in
      let env : Row → List Row = λ r. params ∷ r ∷ [] in
      Lists-AreRead (sorts order env) (Has kept) (λ r. reads (eval_all project (env r))) R Q less sound whole (sort_by (sorts order env) kept) items (Lists-sort_by (sorts order env) (sorts-IsTotalOrder order env) kept apart)
      (AreRead-map reads (shows project params) (sort_by (sorts order env) kept) items (subst (λ rs. AreRead reads rs items) (Answers-in_order db params t terms project order rows h apart) read))

  -- SELECT project FROM a table JOIN another WHERE terms ORDER BY order, if no two pairs tie
  pub Lists-of_join : (t u : ℕ) → let kept = pairs_kept terms params (db.trees t) (db.trees u) in let env : Row × Row → List Row = λ q. params ∷ q.0 ∷ q.1 ∷ [] in
      IsAscending (λ a b. is_eq (sorts order env a b) ≡ false) kept
      → ((a b : Row × Row) (x y : Y) → Has kept a → Has kept b → reads (eval_all project (env a)) x → reads (eval_all project (env b)) y → sorts order env a b ≡ Less → R x y ≡ Less)
      → ((q : Row × Row) (x : Y) → Has kept q → reads (eval_all project (env q)) x → Q x)
      → ((x : Y) → Q x → (q : Row × Row) × Has kept q × ((y : Y) → reads (eval_all project (env q)) y → y ≡ x))
      → (rows : List Row) (items : List Y) → Answers db (record { lets = []; body = from_both t u terms project order }) params rows → AreRead reads rows items → Lists R Q items
  Lists-of_join t u apart less sound whole rows items h read =
      let kept = pairs_kept terms params (db.trees t) (db.trees u) in
      let env : Row × Row → List Row = λ q. params ∷ q.0 ∷ q.1 ∷ [] in
      Lists-AreRead (sorts order env) (Has kept) (λ q. reads (eval_all project (env q))) R Q less sound whole (sort_by (sorts order env) kept) items (Lists-sort_by (sorts order env) (sorts-IsTotalOrder order env) kept apart)
      (AreRead-map reads (λ q. eval_all project (env q)) (sort_by (sorts order env) kept) items (subst (λ rs. AreRead reads rs items) (Answers-joined_in_order db params t u terms project order rows h apart) read))
