-- ORDER BY: if no two rows tie, the answer is the list of what WHERE keeps, sorted.
use Rattle.std.specs.{List.{AllByRecursion, flat_map}, List.Sorted.{IsPermutation, IsSorted, IsStrictlySortedBy}, Prelude.{Contains}, Cmp.{IsTotalOrder}}
use Rattle.std.specs.Ordering.{ordering_reverse}
use Rattle.std.proofs.Common.{◌≡◌, ℕ, List, [], ◌∷◌, map, filter, true, false, cond, refl, sym, ap, subst, ◌∙◌, Ordering, Less, Equal, Greater, is_gt, is_eq, true≢false}
use Rattle.std.proofs.lemmas.List.Sorted.{Contains-permutation, IsPermutation-sym}
use Rattle.sqlite_keyed.{specs.Lists.{insert_sorted, sort_by}, proofs.ListLemmas.{map-map, map-flat_map, flat_map_same_on, all_weaker, ascending-map}}
use Rattle.sqlite_keyed.proofs.SortLemmas.{sorted_is-sort_by, sort_by-map, IsPermutation-sort_by}
use Rattle.sqlite_sql.{specs.Query.{sort_cmp, output_cmp}, proofs.QueryLemmas.{output_cmp_total}}
use Rattle.sqlite_value.specs.declared.keys.Key.{Key}
use Rattle.sqlite.specs.{declared.types.Value.TheVariants.{Null}, Order.{Row}, Term.{Term, eval_all}, Tree.{IsAscending}}
use Rattle.sqlite.specs.{Query.{Query, IsAnswer, output, Output}, Program.{overlay}, Effect.{Database, Answers}}
use Rattle.table_access.specs.Statements.{from_table, from_both, keeps, keeps_both, pairs_kept, shows}
use Rattle.table_access.proofs.Steps.{overlay-nil, flat_map-filter, kept-outputs}

-- ---- sorted lists

module _ {X : Type 0} (cmp : X → X → Ordering) where
  all-insert : (P : X → Type 0) (new : X) (xs : List X) → P new → AllByRecursion P xs → AllByRecursion P (insert_sorted cmp new xs)
  all-insert P new [] h all = (h, tt)
  all-insert P new (x ∷ xs) h all = elim (is_gt (cmp new x)) as (λ b. AllByRecursion P (cond b (x ∷ insert_sorted cmp new xs) (new ∷ x ∷ xs))) [ true ↦ (all.0, all-insert P new xs h all.1) | false ↦ (h, all) ]

  all-sorted : (P : X → Type 0) (xs : List X) → AllByRecursion P xs → AllByRecursion P (sort_by cmp xs)
  all-sorted P [] all = tt
  all-sorted P (x ∷ xs) all = all-insert P x _ all.0 (all-sorted P xs all.1)

module _ {X : Type 0} (cmp : X → X → Ordering) (total : IsTotalOrder cmp) where
  rises-insert : (new : X) (xs : List X) → AllByRecursion (λ y. is_eq (cmp new y) ≡ false) xs → IsStrictlySortedBy cmp xs → IsStrictlySortedBy cmp (insert_sorted cmp new xs)
  unfolding IsStrictlySortedBy
  rises-insert new [] apart up = (tt, tt)
  rises-insert new (x ∷ xs) apart up = go (cmp new x) refl (rises-insert new xs apart.1 up.1)
    where
      go : (o : Ordering) → cmp new x ≡ o → IsStrictlySortedBy cmp (insert_sorted cmp new xs) → IsStrictlySortedBy cmp (cond (is_gt o) (x ∷ insert_sorted cmp new xs) (new ∷ x ∷ xs))
      go Less e more = ((e, all_weaker _ (λ y. cmp new y ≡ Less) (λ y. total.trans new x y e) xs up.0), up)
      go Equal e more = absurd (true≢false (sym (ap is_eq e) ∙ apart.0))
      go Greater e more = (all-insert cmp _ new xs (total.antisymm x new ∙ ap ordering_reverse e) up.0, more)

  -- a list with no ties sort_by-strictly_sorted, once it is sorted
  pub sort_by-strictly_sorted : (xs : List X) → IsAscending (λ a b. is_eq (cmp a b) ≡ false) xs → IsStrictlySortedBy cmp (sort_by cmp xs)
  unfolding IsStrictlySortedBy
  sort_by-strictly_sorted [] apart = tt
  sort_by-strictly_sorted (x ∷ xs) apart = rises-insert x _ (all-sorted cmp _ xs apart.0) (sort_by-strictly_sorted xs apart.1)

  -- and it has the same elements
  pub sort_by-sound : (xs : List X) (x : X) → Contains (sort_by cmp xs) x → Contains xs x
  sort_by-sound xs x = Contains-permutation (sort_by cmp xs) xs x (IsPermutation-sort_by cmp total xs)

  -- an element of the list is one of the sorted list too
  pub sort_by-complete : (xs : List X) (x : X) → Contains xs x → Contains (sort_by cmp xs) x
  sort_by-complete xs x = Contains-permutation xs (sort_by cmp xs) x (IsPermutation-sym _ _ (IsPermutation-sort_by cmp total xs))

-- ---- an answer

-- what a query with no groups shows of the matches, sorted
IsSorted-answer : {M : Type 0} (q : Query) (kept ordered : List Output) (matches : List M) (env : M → List Row) → kept ≡ map (λ m. output q (env m)) matches → IsPermutation kept ordered → IsSorted (output_cmp q) ordered
    → IsAscending (λ a b. is_eq (sort_cmp q.order (env a) (env b)) ≡ false) matches
    → map (λ (o : Output). o.1) ordered ≡ map (λ m. eval_all q.project (env m)) (sort_by (λ a b. sort_cmp q.order (env a) (env b)) matches)
IsSorted-answer {M} q kept ordered matches env is same sorted apart =
    let total = output_cmp_total q in
    let kept-outputs = map (λ m. output q (env m)) matches in
    let is_sorted : ordered ≡ sort_by (output_cmp q) kept-outputs =
    sorted_is-sort_by (output_cmp q) total kept-outputs ordered (ascending-map (λ a b. is_eq (output_cmp q a b) ≡ false) (λ m. output q (env m)) matches apart) (subst (λ xs. IsPermutation xs ordered) is same) sorted in
    ap (map (λ (o : Output). o.1)) (is_sorted ∙ sort_by-map (output_cmp q) (λ m. output q (env m)) matches) ∙ map-map _ _ _

-- SELECT project FROM a table WHERE terms ORDER BY order
pub Answers-in_order : (db : Database) (params : Row) (t : ℕ) (terms project : List Term) (order : List (Term × Key)) (rows : List Row) → Answers db (record { lets = []; body = from_table t terms project order }) params rows
    → IsAscending (λ a b. is_eq (sort_cmp order (params ∷ a ∷ []) (params ∷ b ∷ [])) ≡ false) (filter (keeps terms params) (db.trees t))
    → rows ≡ map (shows project params) (sort_by (λ a b. sort_cmp order (params ∷ a ∷ []) (params ∷ b ∷ [])) (filter (keeps terms params) (db.trees t)))
Answers-in_order db params t terms project order rows h apart =
    let q = from_table t terms project order in
    let answer : IsAnswer q (overlay db.trees []) params rows = h.answer Null in
    answer.shown ∙ IsSorted-answer q answer.kept answer.ordered (filter (keeps terms params) (db.trees t)) (λ r. params ∷ r ∷ []) (kept-outputs db params t terms project order rows h) answer.same answer.sorted apart

-- SELECT project FROM a table JOIN another WHERE terms ORDER BY order
pub Answers-joined_in_order : (db : Database) (params : Row) (t u : ℕ) (terms project : List Term) (order : List (Term × Key)) (rows : List Row) → Answers db (record { lets = []; body = from_both t u terms project order }) params rows
    → IsAscending (λ a b. is_eq (sort_cmp order (params ∷ a.0 ∷ a.1 ∷ []) (params ∷ b.0 ∷ b.1 ∷ [])) ≡ false) (pairs_kept terms params (db.trees t) (db.trees u))
    → rows ≡ map (λ p. eval_all project (params ∷ p.0 ∷ p.1 ∷ [])) (sort_by (λ a b. sort_cmp order (params ∷ a.0 ∷ a.1 ∷ []) (params ∷ b.0 ∷ b.1 ∷ [])) (pairs_kept terms params (db.trees t) (db.trees u)))
Answers-joined_in_order db params t u terms project order rows h apart =
    let q = from_both t u terms project order in
    let answer : IsAnswer q (overlay db.trees []) params rows = h.answer Null in
    let staged = answer.grouped ∙ ap (flat_map _) (overlay-nil db.trees t) ∙ flat_map_same_on _ (λ r. map (λ s. params ∷ r ∷ s ∷ []) (filter (keeps_both terms params r) (db.trees u))) (λ r. ap (flat_map _) (overlay-nil db.trees u) ∙ flat_map-filter (keeps_both terms params r) (λ s. params ∷ r ∷ s ∷ []) (db.trees u)) (db.trees t) in
    let pairs : flat_map (λ r. map (λ s. params ∷ r ∷ s ∷ []) (filter (keeps_both terms params r) (db.trees u))) (db.trees t) ≡ map (λ (p : Row × Row). params ∷ p.0 ∷ p.1 ∷ []) (pairs_kept terms params (db.trees t) (db.trees u)) =
    sym (map-flat_map (λ (p : Row × Row). params ∷ p.0 ∷ p.1 ∷ []) (λ r. map (λ s. (r, s)) (filter (keeps_both terms params r) (db.trees u))) (db.trees t) ∙ flat_map_same_on _ _ (λ r. map-map (λ (p : Row × Row). params ∷ p.0 ∷ p.1 ∷ []) (λ s. (r, s)) (filter (keeps_both terms params r) (db.trees u))) (db.trees t)) in
    let kept : answer.kept ≡ map (λ (p : Row × Row). output q (params ∷ p.0 ∷ p.1 ∷ [])) (pairs_kept terms params (db.trees t) (db.trees u)) = answer.distinct ∙ ap (map (output q)) (staged ∙ pairs) ∙ map-map _ _ _ in
    answer.shown ∙ IsSorted-answer q answer.kept answer.ordered (pairs_kept terms params (db.trees t) (db.trees u)) (λ (p : Row × Row). params ∷ p.0 ∷ p.1 ∷ []) kept answer.same answer.sorted apart
