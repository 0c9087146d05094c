-- ORDER BY with LIMIT: the first rows of what the same query shows without it; and the row with the greatest number.
use Rattle.std.specs.{Prelude.{option_map}, List.{AllByRecursion}, Ordering.{ordering_reverse}}
use Rattle.std.proofs.Common.{◌≡◌, ℕ, pos, List, [], ◌∷◌, ◌++◌, map, filter, take, reverse, cond, refl, sym, ap, ◌∙◌, Option, slice_get, Less, Greater, is_gt, is_eq}
use Rattle.std.proofs.{lemmas.Grind.{reverse_onto}, lemmas.Option.{slice_get-map}, lemmas.List.Sorted.{IsPermutation-reverse}}
use Rattle.sqlite_trees.proofs.ListLemmas.{all-permutation}
use Rattle.sqlite_keyed.{specs.Lists.{insert_sorted, sort_by}, proofs.ListLemmas.{ascending_weaker, ascending-filter, first_taken, filter_all}}
use Rattle.sqlite_keyed.proofs.RuleLemmas.{each_true}
use Rattle.sqlite_value.{specs.declared.keys.Key.{Key}, proofs.OrderLemmas.{value_cmp_total, then-Equal}}
use Rattle.sqlite_sql.specs.Query.{sort_cmp}
use Rattle.sqlite.specs.{declared.types.Value.TheVariants.{Null, Int}, Order.{Row, column, value_cmp}, Term.{Term, col}, Tree.{IsAscending, rowid}}
use Rattle.sqlite.specs.{Query.{IsAnswer}, Program.{overlay}, Command.TheVariants.{Select}, Effect.{Database, Answers}, State.{State, Shown}}
use Rattle.table_access.specs.{Columns.{whole_at}, Sound.{IsNumbered}, Statements.{from_table, from_both, up_to, newest, keeps, shows}}
use Rattle.table_access.proofs.{Ordered.{Answers-in_order}, ReadLemmas.{number_found, option_map-compose}, Steps.{Means, Shown-Answers}}

-- ---- LIMIT

module _ (db : Database) (params : Row) (t : ℕ) (terms project : List Term) (order : List (Term × Key)) (n : ℕ) (rows : List Row)
    (h : Answers db (record { lets = []; body = up_to n (from_table t terms project order) }) params rows) where
  -- the first rows of an answer of the query without LIMIT
  pub up_to-take_rows : (all : List Row) × Answers db (record { lets = []; body = from_table t terms project order }) params all × (rows ≡ take n all)
  up_to-take_rows =
      let a : IsAnswer (up_to n (from_table t terms project order)) (overlay db.trees []) params rows = h.answer Null in
      let all = map (λ o. o.1) a.ordered in
      (all, record { typed = h.typed; answer = λ lost. record { staged = a.staged; grouped = a.grouped; kept = a.kept; distinct = a.distinct; ordered = a.ordered; same = a.same; sorted = a.sorted; shown = refl } }, a.shown)

-- the first rows of an answer of the query of two tables without LIMIT
pub up_to-take_joined : (db : Database) (params : Row) (t u : ℕ) (terms project : List Term) (order : List (Term × Key)) (n : ℕ) (rows : List Row) → Answers db (record { lets = []; body = up_to n (from_both t u terms project order) }) params rows
    → (all : List Row) × Answers db (record { lets = []; body = from_both t u terms project order }) params all × (rows ≡ take n all)
up_to-take_joined db params t u terms project order n rows h =
    let a : IsAnswer (up_to n (from_both t u terms project order)) (overlay db.trees []) params rows = h.answer Null in
    let all = map (λ o. o.1) a.ordered in
    (all, record { typed = h.typed; answer = λ lost. record { staged = a.staged; grouped = a.grouped; kept = a.kept; distinct = a.distinct; ordered = a.ordered; same = a.same; sorted = a.sorted; shown = refl } }, a.shown)

-- ---- a list that sort_cmp-newest, sorted

module _ {X : Type 0} (cmp : X → X → Rattle.std.specs.declared.cmp.Ordering.Ordering) where
  insert_sorted-greatest_last : (x : X) (ys : List X) → AllByRecursion (λ y. cmp x y ≡ Greater) ys → insert_sorted cmp x ys ≡ ys ++ x ∷ []
  insert_sorted-greatest_last x [] all = refl
  insert_sorted-greatest_last x (y ∷ ys) all = ap (λ o. cond (is_gt o) (y ∷ insert_sorted cmp x ys) (x ∷ y ∷ ys)) all.0 ∙ ap (λ l. y ∷ l) (insert_sorted-greatest_last x ys all.1)

  -- sorting a list whose elements fall sort_by-reverse it round
  pub sort_by-reverse : (xs : List X) → IsAscending (λ a b. cmp a b ≡ Greater) xs → sort_by cmp xs ≡ reverse xs
  sort_by-reverse [] down = refl
  sort_by-reverse (x ∷ xs) down = ap (insert_sorted cmp x) (sort_by-reverse xs down.1) ∙ insert_sorted-greatest_last x (reverse xs) (all-permutation _ xs (reverse xs) (IsPermutation-reverse xs) down.0) ∙ sym (reverse_onto xs x [])

-- ---- the row with the greatest number

module _ (params : Row) where
  sort_cmp-newest : (a b : Row) → value_cmp (rowid a) (rowid b) ≡ Less → sort_cmp newest (params ∷ a ∷ []) (params ∷ b ∷ []) ≡ Greater
  sort_cmp-newest a b less = then-Equal (value_cmp (rowid b) (rowid a)) ∙ value_cmp_total.antisymm (rowid b) (rowid a) ∙ ap ordering_reverse less

  -- SELECT project FROM a table WHERE terms ORDER BY its number DESC LIMIT n
  pub Answers-newest : (db : Database) (t : ℕ) (terms project : List Term) (n : ℕ) (rows : List Row) → IsNumbered (db.trees t) → Answers db (record { lets = []; body = up_to n (from_table t terms project newest) }) params rows
      → rows ≡ take n (map (shows project params) (reverse (filter (keeps terms params) (db.trees t))))
  Answers-newest db t terms project n rows numbered h =
      let kept = filter (keeps terms params) (db.trees t) in
      let down : IsAscending (λ a b. sort_cmp newest (params ∷ a ∷ []) (params ∷ b ∷ []) ≡ Greater) kept = ascending_weaker _ _ sort_cmp-newest kept (ascending-filter _ (keeps terms params) (db.trees t) numbered.0) in
      let all = up_to-take_rows db params t terms project newest n rows h in
      all.2 ∙ ap (take n) (Answers-in_order db params t terms project newest all.0 all.1 (ascending_weaker _ _ (λ a b e. ap is_eq e) kept down))
      ∙ ap (λ l. take n (map (shows project params) l)) (sort_by-reverse (λ a b. sort_cmp newest (params ∷ a ∷ []) (params ∷ b ∷ [])) kept down)

-- SELECT number FROM a table ORDER BY number DESC LIMIT 1, as `find_number` reads it
pub Shown-newest_number : (sql : List ℕ) (old new : State) (t : ℕ) (names : List (List ℕ)) → Means old.now.schema sql (Select (record { lets = []; body = up_to 1 (from_table t [] (col 1 0 ∷ []) newest) }) names) → IsNumbered (old.now.trees t)
    → (rows : List Row) → Shown sql [] old new rows → (found : Option ℕ) → option_map (λ n. Int (pos n)) found ≡ option_map (λ row. column row 0) (slice_get rows 0)
    → option_map pos found ≡ option_map (whole_at 0) (slice_get (reverse (old.now.trees t)) 0)
Shown-newest_number sql old new t names means numbered rows h found read =
    let all = old.now.trees t in
    let is : rows ≡ take 1 (map (shows (col 1 0 ∷ []) []) (reverse all)) =
    Answers-newest [] old.now t [] (col 1 0 ∷ []) 1 rows numbered (Shown-Answers sql [] old new _ names means rows h) ∙ ap (λ l. take 1 (map (shows (col 1 0 ∷ []) []) (reverse l))) (filter_all (keeps [] []) all (each_true all)) in
    number_found found rows read ∙ ap (λ l. option_map (whole_at 0) (slice_get l 0)) is ∙ ap (option_map (whole_at 0)) (first_taken (map (shows (col 1 0 ∷ []) []) (reverse all)) ∙ slice_get-map (shows (col 1 0 ∷ []) []) (reverse all) 0)
    ∙ option_map-compose (whole_at 0) (shows (col 1 0 ∷ []) []) (slice_get (reverse all) 0)
