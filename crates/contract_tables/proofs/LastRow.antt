-- The last row that passes a test is at the place of its number; and the last one after one more row.
use Rattle.std.specs.{Prelude.{option_map, if◌then◌else◌}, List.{last_or, enumerate_from}}
use Rattle.std.proofs.Common.{◌≡◌, ◌⊎◌, ◌==◌, ◌+◌, ◌-◌, inl, inr, ℕ, suc, List, [], ◌∷◌, ◌++◌, length, filter, Bool, true, false, ◌&&◌, cond, refl, sym, ap, ◌∙◌, slice_get, Some, None, Option, arith}
use Rattle.std.proofs.{lemmas.Bool.{eqb-true, ne_eqb, cond-false}, lemmas.List.Elements.{filter-append}}
use Rattle.sqlite_rules.specs.Lists.{Has}
use Rattle.sqlite_keyed.proofs.RuleLemmas.{first_of_both, second_of_both}
use Rattle.table_access.proofs.Members.{filter_has}
use Rattle.broker_core.specs.{State.{State as Broker, Verification, last_row, latest_result}, Text.{same_version}, declared.command.Version.{Version}}
use Rattle.broker_core.proofs.Judgement.{same_version-equal}
use Rattle.contract_tables.specs.Verified.{result_with}

last_or-has : {X : Type 0} (o : Option X) (xs : List X) (x : X) → last_or o xs ≡ Some x → (o ≡ Some x) ⊎ Has xs x
last_or-has o [] x is = inl is
last_or-has o (y ∷ xs) x is = elim (last_or-has (Some y) xs x is) [ inl same ↦ inr (inl (let it : y ≡ x = cc in sym it)) | inr there ↦ inr (inr there) ]

-- an entry of a numbered list is the element at the place of its number
enumerate_from-placed : {X : Type 0} (n : ℕ) (rows : List X) (e : ℕ × X) → Has (enumerate_from n rows) e → (i : ℕ) × (e.0 ≡ n + i) × (slice_get rows i ≡ Some e.1)
enumerate_from-placed n [] e has = absurd has
enumerate_from-placed {X} n (y ∷ rows) e (inl same) = (0, ap (λ (z : ℕ × X). z.0) same ∙ (let it : n ≡ n + 0 = omega arith in it), ap (λ (z : ℕ × X). Some z.1) (sym same))
enumerate_from-placed n (y ∷ rows) e (inr later) = let at = enumerate_from-placed (n + 1) rows e later in (suc at.0, at.1 ∙ (let it : n + 1 + at.0 ≡ n + suc at.0 = omega arith in it), at.2)

last_row-kept : {X : Type 0} (test : X → Bool) (rows : List X) (e : ℕ × X) → last_row test rows ≡ Some e → Has (enumerate_from 1 rows) e × (test e.1 ≡ true)
last_row-kept test rows e is = elim (last_or-has None (filter (λ e. test e.1) (enumerate_from 1 rows)) e is) [
  | inl wrong ↦ absurd cc
  | inr there ↦ filter_has (λ e. test e.1) (enumerate_from 1 rows) e there
]

pub last_row-at_its_number : {X : Type 0} (test : X → Bool) (rows : List X) (e : ℕ × X) → last_row test rows ≡ Some e
    → (if e.0 == 0 then None else slice_get rows (e.0 - 1)) ≡ Some e.1
last_row-at_its_number test rows e is =
    let at = enumerate_from-placed 1 rows e (last_row-kept test rows e is).0 in
    let place : e.0 - 1 ≡ at.0 = omega (arith, at.1) in
    cond-false (e.0 == 0) None (slice_get rows (e.0 - 1)) (ne_eqb e.0 0 (λ none. omega (arith, none, at.1))) ∙ ap (slice_get rows) place ∙ at.2

-- ---- one more row

enumerate_from-push : {X : Type 0} (n : ℕ) (rows : List X) (x : X) → enumerate_from n (rows ++ x ∷ []) ≡ enumerate_from n rows ++ (n + length rows, x) ∷ []
enumerate_from-push n [] x = ap (λ k. (k, x) ∷ []) (let e : n ≡ n + 0 = omega arith in e)
enumerate_from-push n (y ∷ rows) x =
    let count : n + 1 + length rows ≡ n + length (y ∷ rows) = omega arith in
    ap (λ more. (n, y) ∷ more) (enumerate_from-push (n + 1) rows x ∙ ap (λ k. enumerate_from (n + 1) rows ++ (k, x) ∷ []) count)

last_or-push : {X : Type 0} (b : Bool) (o : Option X) (xs : List X) (x : X) → last_or o (xs ++ cond b (x ∷ []) []) ≡ cond b (Some x) (last_or o xs)
last_or-push true o [] x = refl
last_or-push false o [] x = refl
last_or-push b o (y ∷ xs) x = last_or-push b (Some y) xs x

-- one more row is the last that passes, if it passes
pub last_row-append_one : {X : Type 0} (test : X → Bool) (rows : List X) (x : X)
    → last_row test (rows ++ x ∷ []) ≡ cond (test x) (Some (length rows + 1, x)) (last_row test rows)
last_row-append_one test rows x =
    ap (λ es. last_or None (filter (λ e. test e.1) es)) (enumerate_from-push 1 rows x)
    ∙ ap (last_or None) (filter-append (λ e. test e.1) (enumerate_from 1 rows) ((1 + length rows, x) ∷ []))
    ∙ last_or-push (test x) None (filter (λ e. test e.1) (enumerate_from 1 rows)) (1 + length rows, x)
    ∙ ap (λ k. cond (test x) (Some (k, x)) (last_row test rows)) (let e : 1 + length rows ≡ length rows + 1 = omega arith in e)

-- ---- the latest result

-- the latest result is the one with its number
pub latest_result-result_with : (s : Broker) (content : ℕ) (v : Version) (e : ℕ × Verification) → latest_result s content v ≡ Some e → result_with s e.0 ≡ Some e.1
latest_result-result_with s content v e is = last_row-at_its_number (λ r. r.content == content && same_version r.version v) s.results e is

-- and one for the content, of the version
pub latest_result-content_version : (s : Broker) (content : ℕ) (v : Version) (e : ℕ × Verification) → latest_result s content v ≡ Some e → (e.1.content ≡ content) × (e.1.version ≡ v)
latest_result-content_version s content v e is =
    let both = (last_row-kept (λ r. r.content == content && same_version r.version v) s.results e is).1 in
    (eqb-true e.1.content content (first_of_both _ _ both), same_version-equal e.1.version v (second_of_both _ _ both))

-- what is said of a result, with the mark whether the broker checked it, which is looked up by its number
pub option_map-with_mark : {A B : Type 0} (s : Broker) (o : Option (ℕ × Verification)) (f : ℕ × Verification → A) (make_item : A → Bool → B) (number : A → ℕ)
    (a : A) (checked : Bool) → ((e : ℕ × Verification) → o ≡ Some e → (result_with s e.0 ≡ Some e.1) × (number (f e) ≡ e.0)) → Some a ≡ option_map f o
    → ((r : Verification) → result_with s (number a) ≡ Some r → checked ≡ r.checked) → Some (make_item a checked) ≡ option_map (λ e. make_item (f e) e.1.checked) o
option_map-with_mark s None f make_item number a checked is_present row mark = absurd cc
option_map-with_mark s (Some e) f make_item number a checked is_present row mark =
    let same : a ≡ f e = cc in
    let it = is_present e refl in
    let checked_is = mark e.1 (ap (result_with s) (ap number same ∙ it.1) ∙ it.0) in
    λ i. Some (make_item (same i) (checked_is i))
