-- The rows that a JOIN shows, in any order: one of each pair that it keeps.
use Rattle.std.{specs.{List.{flat_map}, List.Sorted.{IsPermutation}, Prelude.{Contains}}, proofs.Common.{◌≡◌, ℕ, List, [], ◌∷◌, map, filter, sym, subst, ◌∙◌}}
use Rattle.std.proofs.lemmas.List.Sorted.{Contains-permutation, IsPermutation-sym}
use Rattle.sqlite.specs.{Order.{Row}, Term.{Term, eval_all}, Effect.{Database, Answers}}
use Rattle.sqlite_keyed.proofs.ListLemmas.{map-map, map-flat_map, flat_map_same_on}
use Rattle.sqlite_rules.specs.Lists.{Has}
use Rattle.sqlite_value.specs.declared.keys.Key.{Key}
use Rattle.table_access.{specs.{Reading.{AreRead}, Statements.{from_both, keeps_both, pairs_kept}}, proofs.Joins.{IsPermutation-joined_rows}}
use Rattle.table_access.proofs.Members.{contains_has, has_contains, has_map, map_has}
use Rattle.broker_tables.proofs.Listed.{AreRead-sound, AreRead-complete}

module _ (db : Database) (params : Row) (t u : ℕ) (terms project : List Term) (order : List (Term × Key)) (rows : List Row) (h : Answers db (record { lets = []; body = from_both t u terms project order }) params rows) where
  abbrev kept : List (Row × Row)
  kept = pairs_kept terms params (db.trees t) (db.trees u)

  abbrev pub shown_of : Row × Row → Row
  shown_of q = eval_all project (params ∷ q.0 ∷ q.1 ∷ [])

  IsPermutation-shown_pairs : IsPermutation (map shown_of kept) rows
  IsPermutation-shown_pairs =
      let list : map shown_of kept ≡ flat_map (λ r. map (λ s. eval_all project (params ∷ r ∷ s ∷ [])) (filter (keeps_both terms params r) (db.trees u))) (db.trees t) =
      map-flat_map shown_of (λ r. map (λ s. (r, s)) (filter (keeps_both terms params r) (db.trees u))) (db.trees t)
      ∙ flat_map_same_on _ _ (λ r. map-map shown_of (λ s. (r, s)) (filter (keeps_both terms params r) (db.trees u))) (db.trees t) in
      subst (λ xs. IsPermutation xs rows) (sym list) (IsPermutation-joined_rows db params t u terms project order rows h)

  -- each row is that of a pair that is kept
  pub rows-of_kept_pair : (row : Row) → Has rows row → (q : Row × Row) × Has kept q × (row ≡ shown_of q)
  rows-of_kept_pair row has = map_has shown_of kept row (contains_has (map shown_of kept) row (Contains-permutation rows (map shown_of kept) row (IsPermutation-sym (map shown_of kept) rows IsPermutation-shown_pairs) (has_contains rows row has)))

  -- and each pair that is kept has a row
  pub pair_shown : (q : Row × Row) → Has kept q → Has rows (shown_of q)
  pair_shown q has = contains_has rows (shown_of q) (Contains-permutation (map shown_of kept) rows (shown_of q) IsPermutation-shown_pairs (has_contains (map shown_of kept) (shown_of q) (has_map shown_of kept q has)))

-- what is read of them
module _ {Y : Type 0} (db : Database) (params : Row) (terms project : List Term) (reads : Row → Y → Type 0) (rows : List Row) (items : List Y)
    (read : AreRead reads rows items) (t u : ℕ) (h : Answers db (record { lets = []; body = from_both t u terms project [] }) params rows) where
  -- each item is read of a pair that ON and WHERE keep
  pub items-of_kept_pair : (x : Y) → Contains items x
      → (q : Row × Row) × Has (pairs_kept terms params (db.trees t) (db.trees u)) q × reads (eval_all project (params ∷ q.0 ∷ q.1 ∷ [])) x
  items-of_kept_pair x c =
      let row = AreRead-sound reads rows items x read c in
      let q = rows-of_kept_pair db params t u terms project [] rows h row.0 row.1 in
      (q.0, q.1, subst (λ y. reads y x) q.2 row.2)

  -- and of each pair that they keep an item is read
  pub items-has_kept_pair : (q : Row × Row) → Has (pairs_kept terms params (db.trees t) (db.trees u)) q
      → (y : Y) × Contains items y × reads (eval_all project (params ∷ q.0 ∷ q.1 ∷ [])) y
  items-has_kept_pair q has = AreRead-complete reads rows items (eval_all project (params ∷ q.0 ∷ q.1 ∷ [])) read (pair_shown db params t u terms project [] rows h q has)
