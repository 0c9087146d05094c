-- SELECT from two tables.
use Rattle.std.{specs.{List.{flat_map}, List.Sorted.{IsPermutation}}, proofs.Common.{ℕ, List, [], ◌∷◌, map, filter, sym, ap, subst₂, ◌∙◌}}
use Rattle.std.proofs.lemmas.List.Sorted.{IsPermutation-map}
use Rattle.sqlite_keyed.proofs.ListLemmas.{map-map, map-flat_map, flat_map_same_on}
use Rattle.sqlite.specs.{declared.types.Value.TheVariants.{Null}, Order.{Row}, Term.{Term, eval_all}, Query.{Query, IsAnswer, output, Output}}
use Rattle.sqlite.specs.{Program.{overlay}, Effect.{Database, Answers}}
use Rattle.sqlite_value.specs.declared.keys.Key.{Key}
use Rattle.table_access.{specs.Statements.{from_both, keeps_both}, proofs.Steps.{overlay-nil, flat_map-filter}}

module _ (db : Database) (params : Row) (t u : ℕ) (terms project : List Term) (order : List (Term × Key)) (rows : List Row) (h : Answers db (record { lets = []; body = from_both t u terms project order }) params rows) where
  abbrev q : Query
  q = from_both t u terms project order

  answer : IsAnswer q (overlay db.trees []) params rows
  answer = h.answer Null

  -- for each row of the first table, the rows of the second that WHERE and ON keep
  pub IsPermutation-joined_rows : IsPermutation (flat_map (λ r. map (λ s. eval_all project (params ∷ r ∷ s ∷ [])) (filter (keeps_both terms params r) (db.trees u))) (db.trees t)) rows
  IsPermutation-joined_rows =
      let staged = answer.grouped ∙ ap (flat_map _) (overlay-nil db.trees t) ∙ flat_map_same_on _ (λ r. map (λ s. params ∷ r ∷ s ∷ []) (filter (keeps_both terms params r) (db.trees u))) (λ r. ap (flat_map _) (overlay-nil db.trees u) ∙ flat_map-filter (keeps_both terms params r) (λ s. params ∷ r ∷ s ∷ []) (db.trees u)) (db.trees t) in
      let shown = ap (map (λ (o : Output). o.1)) (answer.distinct ∙ ap (map (output q)) staged) ∙ map-map _ _ _
      ∙ map-flat_map (λ (e : List Row). (output q e).1) (λ (r : Row). map (λ s. params ∷ r ∷ s ∷ []) (filter (keeps_both terms params r) (db.trees u))) (db.trees t)
      ∙ flat_map_same_on _ _ (λ r. map-map (λ (e : List Row). (output q e).1) (λ (s : Row). params ∷ r ∷ s ∷ []) (filter (keeps_both terms params r) (db.trees u))) (db.trees t) in
      subst₂ IsPermutation shown (sym answer.shown) (IsPermutation-map (λ (o : Output). o.1) answer.kept answer.ordered answer.same)
