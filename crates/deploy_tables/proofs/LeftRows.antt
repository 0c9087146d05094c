-- A LEFT JOIN also shows a row that names nothing of the other table, with NULL for the other's columns. If each row
-- names one, it shows what the JOIN shows.
use Rattle.std.specs.List.{flat_map, list_all}
use Rattle.std.proofs.Common.{◌≡◌, ◌∙◌, ◌⊎◌, inl, inr, ℕ, List, [], ◌∷◌, ◌++◌, Bool, true, false, ◌&&◌, cond, filter, refl, sym, ap, subst}
use Rattle.std.proofs.lemmas.List.Sorted.{Contains-permutation}
use Rattle.sqlite.specs.{declared.types.Value.TheVariants.{Null}, Order.{Row}, Tree.{Trees}, Term.{Term, Env, holds, eval_all}}
use Rattle.sqlite.specs.{Query.{Query, inner, end, IsAnswer, Output, output}, Program.{overlay}, Effect.{Database, Answers}}
use Rattle.sqlite_keyed.proofs.RuleLemmas.{first_of_both}
use Rattle.sqlite_sql.specs.Query.{left, or_nulls}
use Rattle.sqlite_value.specs.declared.keys.Key.{Key}
use Rattle.sqlite_typing.specs.Types.{accepts_program}
use Rattle.sqlite_rules.specs.Lists.{Has}
use Rattle.table_access.{specs.Statements.{from_both}, proofs.Members.{has_filter, filter_has, has_map, map_has, has_contains, contains_has}}
use Rattle.table_access.proofs.{Steps.{overlay-nil}, Answered.{IsPermutation-has_each}}
use Rattle.broker_core.proofs.Judgement.{Contains-flat_map, Contains-from_flat_map}

-- SELECT project FROM a table LEFT JOIN another ON ons WHERE terms ORDER BY order; by one test
abbrev pub from_left_by : ℕ → ℕ → List Term → List Term → List Term → List (Term × Key) → Query
from_left_by t u ons terms project order = record (from_both t u terms project order) { from = inner t (left u ons end) }

abbrev pub from_left : ℕ → ℕ → Term → List Term → List Term → List (Term × Key) → Query
from_left t u on = from_left_by t u (on ∷ [])

-- ---- lists

flat_map-same_on : {X Y : Type 0} (f g : X → List Y) (xs : List X) → ((x : X) → Has xs x → f x ≡ g x) → flat_map f xs ≡ flat_map g xs
flat_map-same_on f g [] same = refl
flat_map-same_on f g (x ∷ xs) same = λ i. same x (inl refl) i ++ flat_map-same_on f g xs (λ y has. same y (inr has)) i

-- what is kept by one test and then by another
flat_map-filter_twice : {X Y : Type 0} (a b : X → Bool) (f : X → Y) (xs : List X)
    → flat_map (λ x. cond (b x) (f x ∷ []) []) (filter (λ x. a x && true) xs) ≡ flat_map (λ x. cond (a x && b x) (f x ∷ []) []) xs
flat_map-filter_twice a b f [] = refl
flat_map-filter_twice {X} {Y} a b f (x ∷ xs) = elim (a x) as (λ t. flat_map (λ x. cond (b x) (f x ∷ []) []) (cond (t && true) (x ∷ filter (λ x. a x && true) xs) (filter (λ x. a x && true) xs)) ≡ cond (t && b x) (f x ∷ []) [] ++ flat_map (λ x. cond (a x && b x) (f x ∷ []) []) xs) [
  | true ↦ ap (λ more. cond (b x) (f x ∷ []) [] ++ more) (flat_map-filter_twice a b f xs)
  | false ↦ flat_map-filter_twice a b f xs
]

or_nulls-not_null : (rows : List Row) (row : Row) → Has rows row → or_nulls rows ≡ rows
or_nulls-not_null [] row has = absurd has
or_nulls-not_null (r ∷ rows) row has = refl

-- one of them, or the row with NULL
or_nulls-has : (rows : List Row) (row : Row) → Has (or_nulls rows) row → Has rows row ⊎ (row ≡ [])
or_nulls-has [] row (inl is) = inr is
or_nulls-has [] row (inr none) = absurd none
or_nulls-has (r ∷ rows) row has = inl has

-- there is always one
or_nulls-some : (rows : List Row) → (row : Row) × Has (or_nulls rows) row
or_nulls-some [] = ([], inl refl)
or_nulls-some (r ∷ rows) = (r, inl refl)

-- ---- the JOIN

module _ (db : Database) (params : Row) (t u : ℕ) (on : Term) (terms project : List Term) (order : List (Term × Key)) (rows : List Row)
    (typed : accepts_program db.schema [] (from_both t u (on ∷ terms) project order) params ≡ true)
    (each : (r : Row) → Has (db.trees t) r → (s : Row) × Has (db.trees u) s × (holds (params ∷ r ∷ s ∷ []) on ≡ true)) where
  abbrev there : Trees
  there = overlay db.trees []

  abbrev Env2 : Row → Row → Env
  Env2 r s = params ∷ r ∷ s ∷ []

  -- the rows that go with one
  flat_map-one_row : (r : Row) → Has (there t) r
      → flat_map (λ s. cond (list_all (holds (Env2 r s)) terms) (Env2 r s ∷ []) []) (or_nulls (filter (λ s. holds (Env2 r s) on && true) (there u)))
      ≡ flat_map (λ s. cond (holds (Env2 r s) on && list_all (holds (Env2 r s)) terms) (Env2 r s ∷ []) []) (there u)
  flat_map-one_row r has =
      let s = each r (subst (λ rs. Has rs r) (overlay-nil db.trees t) has) in
      let here = subst (λ rs. Has rs s.0) (sym (overlay-nil db.trees u)) s.1 in
      ap (flat_map (λ s. cond (list_all (holds (Env2 r s)) terms) (Env2 r s ∷ []) []))
      (or_nulls-not_null (filter (λ s. holds (Env2 r s) on && true) (there u)) s.0 (has_filter (λ s. holds (Env2 r s) on && true) (there u) s.0 here (ap (λ b. b && true) s.2)))
      ∙ flat_map-filter_twice (λ s. holds (Env2 r s) on) (λ s. list_all (holds (Env2 r s)) terms) (Env2 r) (there u)

  pub Answers-from_left_as_join : Answers db (record { lets = []; body = from_left t u on terms project order }) params rows
      → Answers db (record { lets = []; body = from_both t u (on ∷ terms) project order }) params rows
  Answers-from_left_as_join h = record {
    typed = typed;
    answer = λ lost.
        let a = h.answer lost in record {
          staged = a.staged;
          grouped = a.grouped ∙ flat_map-same_on _ _ (there t) flat_map-one_row;
          kept = a.kept;
          distinct = a.distinct;
          ordered = a.ordered;
          same = a.same;
          sorted = a.sorted;
          shown = a.shown;
        };
  }

-- ---- what it shows, with a row that names nothing too

flat_map-complete : {X Y : Type 0} (f : X → List Y) (xs : List X) (x : X) (y : Y) → Has xs x → Has (f x) y → Has (flat_map f xs) y
flat_map-complete f xs x y has here = contains_has (flat_map f xs) y (Contains-flat_map f xs x y (has_contains xs x has) (has_contains (f x) y here))

flat_map-has_source : {X Y : Type 0} (f : X → List Y) (xs : List X) (y : Y) → Has (flat_map f xs) y → (x : X) × Has xs x × Has (f x) y
flat_map-has_source f xs y has = let it = Contains-from_flat_map f xs y (has_contains (flat_map f xs) y has) in (it.0, contains_has xs it.0 it.1, contains_has (f it.0) y it.2)

cond-has : {X : Type 0} (b : Bool) (x y : X) → Has (cond b (x ∷ []) []) y → (b ≡ true) × (y ≡ x)
cond-has true x y (inl is) = (refl, is)
cond-has true x y (inr none) = absurd none
cond-has false x y none = absurd none

module _ (db : Database) (params : Row) (t u : ℕ) (ons terms project : List Term) (order : List (Term × Key)) (rows : List Row)
    (h : Answers db (record { lets = []; body = from_left_by t u ons terms project order }) params rows) where
  abbrev q : Query
  q = from_left_by t u ons terms project order

  abbrev all : Trees
  all = overlay db.trees []

  abbrev pub goes : Row → Row → Bool
  goes r s = list_all (holds (params ∷ r ∷ s ∷ [])) ons

  abbrev keeps : Row → Row → Bool
  keeps r s = list_all (holds (params ∷ r ∷ s ∷ [])) terms

  -- those that go with a row, or the row with NULL
  abbrev pub beside : Row → List Row
  beside r = or_nulls (filter (goes r) (db.trees u))

  abbrev shown_of : Row → List Env
  shown_of r = flat_map (λ s. cond (keeps r s) ((params ∷ r ∷ s ∷ []) ∷ []) []) (or_nulls (filter (goes r) (all u)))

  answer : IsAnswer q (overlay db.trees []) params rows
  answer = h.answer Null

  -- a row is shown of each that WHERE keeps, with one that goes with it, or NULL
  pub rows-has_env : (r s : Row) → Has (db.trees t) r → Has (beside r) s → keeps r s ≡ true → Has rows (eval_all project (params ∷ r ∷ s ∷ []))
  rows-has_env r s hr hs kept =
      let env : Env = params ∷ r ∷ s ∷ [] in
      let one : Has (shown_of r) env =
      flat_map-complete (λ s. cond (keeps r s) ((params ∷ r ∷ s ∷ []) ∷ []) []) (or_nulls (filter (goes r) (all u))) s env
      (subst (λ ss. Has (or_nulls (filter (goes r) ss)) s) (sym (overlay-nil db.trees u)) hs) (subst (λ b. Has (cond b (env ∷ []) []) env) (sym kept) (inl refl)) in
      let staged : Has answer.staged env = subst (λ es. Has es env) (sym answer.grouped) (flat_map-complete shown_of (all t) r env (subst (λ rs. Has rs r) (sym (overlay-nil db.trees t)) hr) one) in
      let put = subst (λ os. Has os (output q env)) (sym answer.distinct) (has_map (output q) answer.staged env staged) in
      let sorted = contains_has answer.ordered (output q env) (Contains-permutation answer.kept answer.ordered (output q env) answer.same (has_contains answer.kept (output q env) put)) in
      subst (λ rs. Has rs (eval_all project env)) (sym answer.shown) (has_map (λ (o : Output). o.1) answer.ordered (output q env) sorted)

  -- and no other row is
  pub rows-of_env : (row : Row) → Has rows row
      → (r s : Row) × Has (db.trees t) r × (Has (db.trees u) s × (goes r s ≡ true) ⊎ (s ≡ [])) × (keeps r s ≡ true) × (row ≡ eval_all project (params ∷ r ∷ s ∷ []))
  rows-of_env row has =
      let o = map_has (λ (o : Output). o.1) answer.ordered row (subst (λ rs. Has rs row) answer.shown has) in
      let kept = subst (λ os. Has os o.0) answer.distinct (IsPermutation-has_each answer.kept answer.ordered o.0 answer.same o.1) in
      let env = map_has (output q) answer.staged o.0 kept in
      let of_r = flat_map-has_source shown_of (all t) env.0 (subst (λ es. Has es env.0) answer.grouped env.1) in
      let r = of_r.0 in
      let of_s = flat_map-has_source (λ s. cond (keeps r s) ((params ∷ r ∷ s ∷ []) ∷ []) []) (or_nulls (filter (goes r) (all u))) env.0 of_r.2 in
      let s = of_s.0 in
      let is = cond-has (keeps r s) (params ∷ r ∷ s ∷ []) env.0 of_s.2 in (
        r,
        s,
        subst (λ rs. Has rs r) (overlay-nil db.trees t) of_r.1,
        elim (or_nulls-has (filter (goes r) (db.trees u)) s (subst (λ ss. Has (or_nulls (filter (goes r) ss)) s) (overlay-nil db.trees u) of_s.1)) [
          | inl one ↦ inl (filter_has (goes r) (db.trees u) s one)
          | inr null ↦ inr null
        ],
        is.0,
        o.2 ∙ ap (λ (o : Output). o.1) env.2 ∙ ap (eval_all project) {y = params ∷ r ∷ s ∷ []} is.1,
      )

  -- one that goes with it is beside a row
  pub beside-has : (r s : Row) → Has (db.trees u) s → goes r s ≡ true → Has (beside r) s
  beside-has r s has go = let one = has_filter (goes r) (db.trees u) s has go in subst (λ ss. Has ss s) (sym (or_nulls-not_null (filter (goes r) (db.trees u)) s one)) one

  -- a row is shown of each that WHERE keeps, with some row beside it
  pub rows-has_some_env : (r : Row) → Has (db.trees t) r → ((s : Row) → keeps r s ≡ true) → (s : Row) × Has rows (eval_all project (params ∷ r ∷ s ∷ []))
  rows-has_some_env r has kept = let s = or_nulls-some (filter (goes r) (db.trees u)) in (s.0, rows-has_env r s.0 has s.1 (kept s.0))

module _ (db : Database) (params : Row) (t u : ℕ) (on : Term) (terms project : List Term) (order : List (Term × Key)) (rows : List Row)
    (h : Answers db (record { lets = []; body = from_left t u on terms project order }) params rows) where
  abbrev goes_by : Row → Row → Bool
  goes_by = goes db params t u (on ∷ []) terms project order rows h

  -- if the row with NULL isn't shown, there is one that goes with it
  pub rows-not_null_goes_with : (r : Row) → Has (db.trees t) r → list_all (holds (params ∷ r ∷ [] ∷ [])) terms ≡ true → (¬ Has rows (eval_all project (params ∷ r ∷ [] ∷ [])))
      → (s : Row) × Has (db.trees u) s × (holds (params ∷ r ∷ s ∷ []) on ≡ true)
  rows-not_null_goes_with r hr kept none = go (filter (goes_by r) (db.trees u)) refl
    where
      go : (xs : List Row) → filter (goes_by r) (db.trees u) ≡ xs → (s : Row) × Has (db.trees u) s × (holds (params ∷ r ∷ s ∷ []) on ≡ true)
      go [] is = absurd (none (rows-has_env db params t u (on ∷ []) terms project order rows h r [] hr (subst (λ ss. Has (or_nulls ss) []) (sym is) (inl refl)) kept))
      go (s ∷ xs) is = let it = filter_has (goes_by r) (db.trees u) s (subst (λ ss. Has ss s) (sym is) (inl refl)) in (s, it.0, first_of_both _ true it.1)
