-- The rules that are alive, step by step, and the best of them.
use Rattle.std.specs.{Ordering.{is_lt, is_le, ordering_index, ordering_reverse}, List.{AllByRecursion, Contains}}
use Rattle.std.specs.{List.Sorted.{IsPermutation, IsSortedBy, IsSortedByKey, IsPartitionedBy, IsPartitionPoint}, Cmp.{IsTotalOrder}}
use Rattle.std.proofs.Common.{◌≡◌, ◌≢◌, ◌⊎◌, inl, inr, ℕ, zero, suc, ◌+◌, ◌-◌, ◌^◌, ◌<◌, ◌≤◌, Bool, true, false, cond, ltb, leb, List, [], ◌∷◌, ◌++◌, map, length, length-append, get_or, min, Option, None, Some, option_map, option_and_then, MatchOption, slice_get, refl, sym, ap, ◌∙◌, subst, ⊎_elim, arith, add-one, true≢false, ltb-true, ltb-false, eqb, ne_eqb, IsTrue, ◌↔◌, Ordering, Less, Equal, Greater, eq-zero-or-pos}
use Rattle.std.proofs.lemmas.List.Elements.{Contains-append_left, Contains-append_right, Contains-append_cases, Contains-push}
use Rattle.std.proofs.lemmas.List.Sorted.{Contains-permutation, IsPermutation-map, IsPermutation-sym, searchable_from_sorted, IsPartitionedBy-ltb, IsPartitionedBy-leb}
use Rattle.std.proofs.lemmas.Option.{same_Some, slice_get-get_or, slice_get-map, slice_get_cases, slice_get_within, get_or_from_slice_get}
use Rattle.std.proofs.{lemmas.Bool.{cases_Bool, cases_lt, cases_eq}, lemmas.Bool.Decides.{nat_tests}, Math.Nat.{min-le_left, min-eq_left, min-eq_right}}
use Rattle.std.proofs.{lemmas.Cmp.{nat_list_cmp_total, on_total}, lemmas.List.{length-map, map_push, get_or-map, map-append}}
use Rattle.pact_paths.specs.{Weights.{token_weight, weight, is_alive, exact_tokens}, Paths.{Token, Step, Location}, Asked.{asked, asked_cmp, sort_key}}
use Rattle.pact_paths.specs.Spelling.{path_text}
use Rattle.pact_paths.proofs.WalkLemmas.{is_alive-root, exact_tokens-root, is_alive-past_end, exact_tokens-past_end, is_alive-step, exact_tokens-step, exact_tokens-le_length, weight-dead, asked-of_alive}
use Rattle.pact_rules.specs.{Rules.{BodyRule, IsInOrder, IsBefore}, Choice.{best, pick, beats, outranks, chosen, IsChoice, IsOwnPlace}}
use Rattle.pact_rules.specs.{Walks.{Walk, IsWalkTo, IsAlive, rule_asks, step_count, survivor, own_place, own_place_of}, Survivors.{survivor_view, StaysOf}}
use Rattle.pact_rules.specs.{RuleViews.{rule_view}, declared.table.Candidate.{Candidate}, declared.walk.Survivor.{Survivor}, Candidates.{preferred, outdoes}}
use Rattle.pact_rules.proofs.ChoiceLemmas.{AllByRecursion-slice_get, IsChoice-of_IsChosen}
use Rattle.pact_rules.specs.declared.table.BodyRule as code

-- ---- elements of a list

-- an element of a list has an index in it
pub Contains-has_index : {A : Type 0} (xs : List A) (x : A) → Contains xs x → (k : ℕ) × (k < length xs) × (slice_get xs k ≡ Some x)
Contains-has_index xs x h = (h.0, h.1, slice_get-get_or xs h.0 x h.1 ∙ ap (λ y. Some y) h.2)

pub Contains-slice_get : {A : Type 0} (xs : List A) (k : ℕ) (x : A) → slice_get xs k ≡ Some x → Contains xs x
Contains-slice_get xs k x is = (k, slice_get_within xs k x is, get_or_from_slice_get xs k x x is)

Contains-singleton : {A : Type 0} (x y : A) → Contains (y ∷ []) x → x ≡ y
Contains-singleton x y (zero, lt, is) = sym is
Contains-singleton x y (suc k, lt, is) = absurd (omega (arith, lt))

-- one more element at the end
pub Contains-push_one : {A : Type 0} (xs : List A) (y x : A) → Contains (xs ++ y ∷ []) x ↔ (Contains xs x ⊎ (x ≡ y))
Contains-push_one xs y x = (
  λ h. ⊎_elim inl (λ last. inr (Contains-singleton x y last)) (Contains-append_cases xs (y ∷ []) x h),
  λ h. ⊎_elim (Contains-append_left xs (y ∷ []) x) (λ is. subst (Contains (xs ++ y ∷ [])) (sym is) (Contains-push xs y)) h,
)

-- the same elements in another order
pub Contains-of_permutation : {A B : Type 0} (f : A → B) (xs ys : List A) → IsPermutation xs ys → (y : B) → Contains (map f ys) y ↔ Contains (map f xs) y
Contains-of_permutation f xs ys h y = (
  Contains-permutation (map f ys) (map f xs) y (IsPermutation-sym (map f xs) (map f ys) (IsPermutation-map f xs ys h)),
  Contains-permutation (map f xs) (map f ys) y (IsPermutation-map f xs ys h),
)

pub IsSortedBy-map : {A B : Type 0} (f : A → B) (lt : B → B → Bool) (d : A) (xs : List A) → IsSortedBy (λ a b. lt (f a) (f b)) xs → IsSortedBy lt (map f xs)
IsSortedBy-map f lt d xs up = λ k e low high.
    let within : k + 1 < length xs = omega (arith, high, length-map xs f) in
    ap (lt (get_or (map f xs) (k + 1) e)) (get_or-map f xs k d e (omega (arith, within)))
    ∙ ap (λ b. lt b (f (get_or xs k d))) (get_or-map f xs (k + 1) d e within)
    ∙ up k d low within

-- ---- no step

pub IsAlive-root : (rules : List BodyRule) (e : ℕ × ℕ) → ((e.0 < length rules) × (e.1 ≡ 0)) ↔ IsAlive rules [] e
IsAlive-root rules e = (
  λ h. ⊎_elim (λ here. let r = here.0 in (r, here.2, is_alive-root r.path, h.1 ∙ sym (exact_tokens-root r.path))) (λ past. absurd (omega (arith, h.0, past.0))) (slice_get_cases rules e.0).1,
  λ h. (slice_get_within rules e.0 h.0 h.1, h.3 ∙ exact_tokens-root h.0.path),
)

pub Contains-push_start : (xs more : List Survivor) (k : ℕ) (e : ℕ × ℕ) → more ≡ xs ++ record { index = k; exact = 0 } ∷ []
    → (Contains (map survivor_view xs) e ↔ ((e.0 < k) × (e.1 ≡ 0))) → Contains (map survivor_view more) e ↔ ((e.0 < k + 1) × (e.1 ≡ 0))
Contains-push_start xs more k e is h =
    let ys = map survivor_view xs in
    let same : map survivor_view more ≡ ys ++ (k, 0) ∷ [] = ap (map survivor_view) is ∙ map_push survivor_view xs (record { index = k; exact = 0 }) in (
      λ has. ⊎_elim (λ before. let i = h.0 before in (omega (arith, i.0), i.1)) (λ now. let i : e.0 ≡ k = ap (λ (p : ℕ × ℕ). p.0) now in (omega (arith, i), ap (λ (p : ℕ × ℕ). p.1) now))
          ((Contains-push_one ys (k, 0) e).0 (subst (λ zs. Contains zs e) same has)),
      λ i. subst (λ zs. Contains zs e) (sym same) ((Contains-push_one ys (k, 0) e).1
          (⊎_elim (λ now. inr (both e k now i.1)) (λ ne. let apart : e.0 ≡ k → ⊥ = ne in inl (h.1 (omega (arith, i.0, apart), i.1))) (cases_eq e.0 k))),
    )
  where
    both : (e : ℕ × ℕ) (k : ℕ) → e.0 ≡ k → e.1 ≡ 0 → e ≡ (k, 0)
    both e k now none = ap (λ n. (n, e.1)) now ∙ ap (λ n. (k, n)) none

-- ---- one step more

is_alive-false_stays : (ts : List Token) (at : Location) (s : Step) → is_alive ts at ≡ false → is_alive ts (at ++ s ∷ []) ≡ false
is_alive-false_stays ts at s dead =
    ⊎_elim (λ more.
    let ws = map (λ t. token_weight t s) ts in
    let lt : length at < length ws = omega (arith, more, length-map ts (λ t. token_weight t s)) in
    is_alive-step ts at s (get_or ws (length at) 0) more (slice_get-get_or ws (length at) 0 lt) ∙ rw dead refl)
    (λ past. is_alive-past_end ts at s past ∙ dead) (cases_lt (length at) (length ts))

pub is_alive-push : (ts : List Token) (at : Location) (s : Step) → is_alive ts (at ++ s ∷ []) ≡ true → is_alive ts at ≡ true
is_alive-push ts at s h = ⊎_elim (λ is. is) (λ is. absurd (true≢false (sym h ∙ is_alive-false_stays ts at s is))) (cases_Bool (is_alive ts at))

-- an entry's rule lives on by the step: it asks nothing of it, or this very step
pub IsAlive-rule_asks : (rules : List BodyRule) (at : Location) (s : Step) (e : ℕ × ℕ) → IsAlive rules (at ++ s ∷ []) e → (n : ℕ)
    → (rule_asks rules (length at) (e.0, n) ≡ None) ⊎ (rule_asks rules (length at) (e.0, n) ≡ Some s)
IsAlive-rule_asks rules at s e h n =
    let here : rule_asks rules (length at) (e.0, n) ≡ asked h.0.path (length at) = ap (option_and_then (λ (r : BodyRule). asked r.path (length at))) h.1 in
    ⊎_elim (λ none. inl (here ∙ none)) (λ this. inr (here ∙ this)) (asked-of_alive h.0.path at s h.2)

-- it was an entry before
pub IsAlive-before_step : (rules : List BodyRule) (at : Location) (s : Step) (e : ℕ × ℕ) → (h : IsAlive rules (at ++ s ∷ []) e) → IsAlive rules at (e.0, exact_tokens h.0.path at)
IsAlive-before_step rules at s e h = (h.0, h.1, is_alive-push h.0.path at s h.2, refl)

pub asked_cmp-Equal : (a b : Option Step) → a ≡ b → asked_cmp a b ≡ Equal
asked_cmp-Equal a b is = ap (asked_cmp a) (sym is) ∙ itself (asked_cmp a a) (nat_list_cmp_total.antisymm (sort_key a) (sort_key a)) where
  itself : (o : Ordering) → o ≡ ordering_reverse o → o ≡ Equal
  itself Less h = absurd cc
  itself Equal h = refl
  itself Greater h = absurd cc

pub exact_tokens-within_path : (exact : ℕ) (path : List Token) (at : Location) → exact ≡ exact_tokens path at → exact ≤ length path
exact_tokens-within_path exact path at is = subst (λ n. n ≤ length path) (sym is) (exact_tokens-le_length path at)

-- ---- the run of those that ask the same

pub asked_cmp-total : IsTotalOrder asked_cmp
asked_cmp-total = on_total sort_key nat_list_cmp_total

-- a sorted list under a function is sorted by its values
pub IsSortedBy-unmap : {A B : Type 0} (f : A → B) (lt : B → B → Bool) (xs : List A) → IsSortedBy lt (map f xs) → IsSortedBy (λ a b. lt (f a) (f b)) xs
IsSortedBy-unmap f lt xs up = λ k d low high.
    let within : k + 1 < length (map f xs) = omega (arith, high, length-map xs f) in
    ap (lt (f (get_or xs (k + 1) d))) (sym (get_or-map f xs k d (f d) (omega (arith, high))))
    ∙ ap (λ b. lt b (get_or (map f xs) k (f d))) (sym (get_or-map f xs (k + 1) d (f d) high))
    ∙ up k (f d) low within

ordering_index-is_lt : (o : Ordering) → ltb (ordering_index o) 1 ≡ is_lt o
ordering_index-is_lt Less = refl
ordering_index-is_lt o = refl

ordering_index-is_le : (o : Ordering) → leb (ordering_index o) 1 ≡ is_le o
ordering_index-is_le Less = refl
ordering_index-is_le o = refl

module _ (asks : ℕ × ℕ → Option Step) (w : Option Step) (xs : List Survivor) where
  abbrev order_of : Survivor → Ordering
  order_of y = asked_cmp (asks (survivor_view y)) w

  pub IsPartitionedBy-is_lt : IsSortedBy (λ a b. is_lt (asked_cmp (asks a) (asks b))) (map survivor_view xs) → IsPartitionedBy (λ y. is_lt (order_of y)) xs
  IsPartitionedBy-is_lt up = λ i j d le lt e.
      let rises = searchable_from_sorted asked_cmp-total (λ y. asks (survivor_view y)) xs w (IsSortedBy-unmap survivor_view (λ a b. is_lt (asked_cmp (asks a) (asks b))) xs up) in
      sym (ordering_index-is_lt (order_of (get_or xs i d))) ∙ IsPartitionedBy-ltb (λ y. ordering_index (order_of y)) xs 1 rises i j d le lt (ordering_index-is_lt (order_of (get_or xs j d)) ∙ e)

  pub IsPartitionedBy-is_le : IsSortedBy (λ a b. is_lt (asked_cmp (asks a) (asks b))) (map survivor_view xs) → IsPartitionedBy (λ y. is_le (order_of y)) xs
  IsPartitionedBy-is_le up = λ i j d le lt e.
      let rises = searchable_from_sorted asked_cmp-total (λ y. asks (survivor_view y)) xs w (IsSortedBy-unmap survivor_view (λ a b. is_lt (asked_cmp (asks a) (asks b))) xs up) in
      sym (ordering_index-is_le (order_of (get_or xs i d))) ∙ IsPartitionedBy-leb (λ y. ordering_index (order_of y)) xs 1 rises i j d le lt (ordering_index-is_le (order_of (get_or xs j d)) ∙ e)

  -- an entry that asks this is of the run
  pub IsPartitionPoint-run : (from to k : ℕ) (e : ℕ × ℕ)
      → IsPartitionPoint (λ y. is_lt (order_of y) ≡ true) (λ y. is_lt (order_of y) ≡ false) xs from
      → IsPartitionPoint (λ y. is_le (order_of y) ≡ true) (λ y. is_le (order_of y) ≡ false) xs to
      → slice_get (map survivor_view xs) k ≡ Some e → asks e ≡ w → (from ≤ k) × (k < to)
  IsPartitionPoint-run from to k e first last there is =
      let d : Survivor = record { index = 0; exact = 0 } in
      let within : k < length xs = omega (arith, slice_get_within (map survivor_view xs) k e there, length-map xs survivor_view) in
      let here : survivor_view (get_or xs k d) ≡ e = sym (get_or-map survivor_view xs k d e within) ∙ get_or_from_slice_get (map survivor_view xs) k e e there in
      let equal : order_of (get_or xs k d) ≡ Equal = ap (λ x. asked_cmp (asks x) w) here ∙ asked_cmp-Equal (asks e) w is in (
        ⊎_elim (λ lt. absurd (true≢false (sym (first.0 k d (omega arith) lt) ∙ ap is_lt equal))) (λ le. le) (cases_lt k from),
        ⊎_elim (λ lt. lt) (λ le. absurd (true≢false (sym (ap is_le equal) ∙ last.1 k d le within))) (cases_lt k to),
      )

-- ---- what a step leaves

pub survivor-is_alive : (rules : List BodyRule) (next : Location) (x : ℕ × ℕ) (r : BodyRule) → slice_get rules x.0 ≡ Some r → (o : Option (ℕ × ℕ)) → o ≡ survivor x.0 r.path next
    → (e : ℕ × ℕ) → (o ≡ Some e) ↔ ((x.0 ≡ e.0) × IsAlive rules next e)
survivor-is_alive rules next x r there o is e = (by (is_alive r.path next) refl, back) where
  by : (b : Bool) → is_alive r.path next ≡ b → o ≡ Some e → (x.0 ≡ e.0) × IsAlive rules next e
  by true alive now =
      let same : (x.0, exact_tokens r.path next) ≡ e = same_Some (x.0, exact_tokens r.path next) e (ap (λ b. cond b (Some (x.0, exact_tokens r.path next)) None) (sym alive) ∙ sym is ∙ now) in
      let index : x.0 ≡ e.0 = ap (λ (p : ℕ × ℕ). p.0) same in
      (index, (r, ap (slice_get rules) (sym index) ∙ there, alive, sym (ap (λ (p : ℕ × ℕ). p.1) same)))
  by false dead now =
      let gone : None ≡ Some e = ap (λ b. cond b (Some (x.0, exact_tokens r.path next)) None) (sym dead) ∙ sym is ∙ now in absurd cc

  back : (x.0 ≡ e.0) × IsAlive rules next e → o ≡ Some e
  back h =
      let same : r ≡ h.1.0 = same_Some r h.1.0 (sym there ∙ ap (slice_get rules) h.0 ∙ h.1.1) in
      is ∙ ap (λ (q : BodyRule). survivor x.0 q.path next) same
      ∙ ap (λ b. cond b (Some (x.0, exact_tokens h.1.0.path next)) None) h.1.2
      ∙ ap (λ n. Some (n, exact_tokens h.1.0.path next)) h.0 ∙ ap (λ n. Some (e.0, n)) (sym h.1.3)

pub Contains-push_survivor : (left more : List Survivor) (next : Survivor) (o : Option Survivor) → o ≡ Some next → more ≡ left ++ next ∷ []
    → (e : ℕ × ℕ) → Contains (map survivor_view more) e ↔ (Contains (map survivor_view left) e ⊎ (option_map survivor_view o ≡ Some e))
Contains-push_survivor left more next o is pushed e =
    let same : map survivor_view more ≡ map survivor_view left ++ survivor_view next ∷ [] = ap (map survivor_view) pushed ∙ map_push survivor_view left next in
    let both = Contains-push_one (map survivor_view left) (survivor_view next) e in (
      λ h. ⊎_elim inl (λ now. inr (ap (option_map survivor_view) is ∙ ap (λ p. Some p) (sym now))) (both.0 (subst (λ zs. Contains zs e) same h)),
      λ h. subst (λ zs. Contains zs e) (sym same) (both.1 (⊎_elim inl (λ now. inr (sym (same_Some (survivor_view next) e (sym (ap (option_map survivor_view) is) ∙ now)))) h)),
    )

pub Contains-no_survivor : (left more : List Survivor) (o : Option Survivor) → ((next : Survivor) → o ≡ Some next → ⊥) → more ≡ left
    → (e : ℕ × ℕ) → Contains (map survivor_view more) e ↔ (Contains (map survivor_view left) e ⊎ (option_map survivor_view o ≡ Some e))
Contains-no_survivor left more None none is e = (λ h. inl (subst (λ zs. Contains (map survivor_view zs) e) is h), λ h. ⊎_elim (λ before. subst (λ zs. Contains (map survivor_view zs) e) (sym is) before) (λ now. absurd cc) h)
Contains-no_survivor left more (Some next) none is e = absurd (none next refl)

pub StaysOf-next : (rules : List BodyRule) (xs : List (ℕ × ℕ)) (from k : ℕ) (next : Location) (e x : ℕ × ℕ) (A B P : Type 0) → from ≤ k → slice_get xs k ≡ Some x
    → (A ↔ StaysOf rules xs from k next e) → (B ↔ (A ⊎ P)) → (P ↔ ((x.0 ≡ e.0) × IsAlive rules next e)) → B ↔ StaysOf rules xs from (k + 1) next e
StaysOf-next rules xs from k next e x A B P le there before more now = (
  λ b. ⊎_elim (λ a. let h = before.0 a in (h.0, h.1, omega (arith, h.2), h.3, h.4))
      (λ p. let h = now.0 p in (k, le, omega arith, ap (option_map (λ (x : ℕ × ℕ). x.0)) there ∙ ap (λ n. Some n) h.0, h.1)) (more.0 b),
  λ h. more.1 (⊎_elim (λ is. let same : h.0 ≡ k = is in inr (now.1 (same_Some x.0 e.0 (sym (ap (option_map (λ (x : ℕ × ℕ). x.0)) there) ∙ ap (λ n. option_map (λ (x : ℕ × ℕ). x.0) (slice_get xs n)) (sym same) ∙ h.3), h.4)))
      (λ ne. let apart : h.0 ≡ k → ⊥ = ne in inl (before.1 (h.0, h.1, omega (arith, h.2, apart), h.3, h.4))) (cases_eq h.0 k)),
)

pub StaysOf-end : (rules : List BodyRule) (xs : List (ℕ × ℕ)) (from k to : ℕ) (next : Location) (e : ℕ × ℕ) (A : Type 0) → (k ≤ to) ⊎ (k ≡ from) → to ≤ k
    → (A ↔ StaysOf rules xs from k next e) → A ↔ StaysOf rules xs from to next e
StaysOf-end rules xs from k to next e A bound done h = (
  λ a. let s = h.0 a in (s.0, s.1, ⊎_elim (λ le. omega (arith, s.2, le)) (λ is. absurd (omega (arith, s.1, s.2, is))) bound, s.3, s.4),
  λ s. h.1 (s.0, s.1, omega (arith, s.2, done), s.3, s.4),
)

pub Contains-of_append : (left more all : List Survivor) → all ≡ left ++ more → (e : ℕ × ℕ) → Contains (map survivor_view all) e ↔ (Contains (map survivor_view left) e ⊎ Contains (map survivor_view more) e)
Contains-of_append left more all is e =
    let same : map survivor_view all ≡ map survivor_view left ++ map survivor_view more = ap (map survivor_view) is ∙ map-append survivor_view left more in (
      λ h. Contains-append_cases (map survivor_view left) (map survivor_view more) e (subst (λ zs. Contains zs e) same h),
      λ h. subst (λ zs. Contains zs e) (sym same) (⊎_elim (Contains-append_left (map survivor_view left) (map survivor_view more) e) (Contains-append_right (map survivor_view left) (map survivor_view more) e) h),
    )

-- the two runs have all that the step leaves
pub IsAlive-both_runs : (rules : List BodyRule) (w : Walk) (at : Location) (s : Step) (e : ℕ × ℕ) (f t g u : ℕ) (A B C : Type 0) → IsWalkTo rules w at
    → ((k : ℕ) (x : ℕ × ℕ) → slice_get w.alive k ≡ Some x → rule_asks rules (length at) x ≡ None → (f ≤ k) × (k < t))
    → ((k : ℕ) (x : ℕ × ℕ) → slice_get w.alive k ≡ Some x → rule_asks rules (length at) x ≡ Some s → (g ≤ k) × (k < u))
    → (A ↔ StaysOf rules w.alive f t (at ++ s ∷ []) e) → (B ↔ StaysOf rules w.alive g u (at ++ s ∷ []) e) → (C ↔ (A ⊎ B))
    → C ↔ IsAlive rules (at ++ s ∷ []) e
IsAlive-both_runs rules w at s e f t g u A B C h free asking a b c = (
  λ x. ⊎_elim (λ y. (a.0 y).4) (λ y. (b.0 y).4) (c.0 x),
  λ x.
      let n = exact_tokens x.0.path at in
      let place = Contains-has_index w.alive (e.0, n) ((h.alive (e.0, n)).1 (IsAlive-before_step rules at s e x)) in
      let index : option_map (λ (x : ℕ × ℕ). x.0) (slice_get w.alive place.0) ≡ Some e.0 = ap (option_map (λ (x : ℕ × ℕ). x.0)) place.2 in
      c.1 (⊎_elim (λ none. let i = free place.0 (e.0, n) place.2 none in inl (a.1 (place.0, i.0, i.1, index, x)))
      (λ this. let i = asking place.0 (e.0, n) place.2 this in inr (b.1 (place.0, i.0, i.1, index, x))) (IsAlive-rule_asks rules at s e x n)),
)

pub step_count-push : (at : Location) (s : Step) (steps : ℕ) → steps ≡ step_count at → min (steps + 1) (2 ^ 64 - 1) ≡ step_count (at ++ s ∷ [])
step_count-push at s steps is =
    let more : length (at ++ s ∷ []) ≡ length at + 1 = length-append at (s ∷ []) in
    ap (λ n. min (n + 1) (2 ^ 64 - 1)) is ∙ capped (length at) (cases_lt (length at) (2 ^ 64 - 1)) ∙ ap (λ n. min n (2 ^ 64 - 1)) (sym more)
  where
    capped : (n : ℕ) → (n < 2 ^ 64 - 1) ⊎ (2 ^ 64 - 1 ≤ n) → min (min n (2 ^ 64 - 1) + 1) (2 ^ 64 - 1) ≡ min (n + 1) (2 ^ 64 - 1)
    capped n h = ⊎_elim (λ lt. ap (λ m. min (m + 1) (2 ^ 64 - 1)) (min-eq_left (omega (arith, lt))))
        (λ le.
        let full : min n (2 ^ 64 - 1) ≡ 2 ^ 64 - 1 = min-eq_right le in
        let over : 2 ^ 64 - 1 ≤ (2 ^ 64 - 1) + 1 = omega arith in
        let far : 2 ^ 64 - 1 ≤ n + 1 = omega (arith, le) in
        ap (λ m. min (m + 1) (2 ^ 64 - 1)) full ∙ min-eq_right over ∙ sym (min-eq_right far)) h

-- an entry, and its rule
pub IsWalkTo-entry : (rules : List BodyRule) (steps : ℕ) (xs : List Survivor) (at : Location) (i : ℕ) (d : Survivor) → IsWalkTo rules (record { steps = steps; alive = map survivor_view xs }) at → i < length xs
    → (slice_get (map survivor_view xs) i ≡ Some (survivor_view (get_or xs i d))) × IsAlive rules at (survivor_view (get_or xs i d))
IsWalkTo-entry rules steps xs at i d h lt =
    let there : slice_get (map survivor_view xs) i ≡ Some (survivor_view (get_or xs i d)) = slice_get-map survivor_view xs i ∙ ap (option_map survivor_view) (slice_get-get_or xs i d lt) in
    (there, (h.alive (survivor_view (get_or xs i d))).0 (Contains-slice_get (map survivor_view xs) i (survivor_view (get_or xs i d)) there))

-- ---- a walk, from what was found and sorted

pub IsWalkTo-of_parts : (body before_of after_of : List BodyRule) (steps : ℕ) (before after : List Survivor) (at : Location) → before_of ≡ body → after_of ≡ body → steps ≡ step_count at
    → ((e : ℕ × ℕ) → Contains (map survivor_view after) e ↔ Contains (map survivor_view before) e)
    → ((e : ℕ × ℕ) → Contains (map survivor_view before) e ↔ IsAlive before_of at e)
    → ((at : Location) → steps ≡ step_count at → IsSortedByKey (rule_asks after_of (length at)) asked_cmp (map survivor_view after))
    → IsWalkTo body (record { steps = steps; alive = map survivor_view after }) at
IsWalkTo-of_parts body before_of after_of steps before after at same_before same_after count same found order = record {
  steps = count;
  alive = λ e. subst (λ rs. Contains (map survivor_view after) e ↔ IsAlive rs at e) same_before
      (λ h. (found e).0 ((same e).0 h), λ h. (same e).1 ((found e).1 h));
  order = subst (λ rs. IsSortedByKey (rule_asks rs (length at)) asked_cmp (map survivor_view after)) same_after (order at count);
}

pub IsAlive-at_start : (bs : List code.BodyRule) (xs : List Survivor) → ((e : ℕ × ℕ) → Contains (map survivor_view xs) e ↔ ((e.0 < length bs) × (e.1 ≡ 0)))
    → (e : ℕ × ℕ) → Contains (map survivor_view xs) e ↔ IsAlive (map rule_view bs) [] e
IsAlive-at_start bs xs h e =
    let same = length-map bs rule_view in
    let both = IsAlive-root (map rule_view bs) e in (
      λ x. let i = (h e).0 x in both.0 (omega (arith, i.0, same), i.1),
      λ a. let i = both.1 a in (h e).1 (omega (arith, i.0, same), i.1),
    )

-- ---- step_count steps

pub within : (n steps : ℕ) (at : Location) → steps ≡ step_count at → n ≤ steps → n ≤ length at
within n steps at is le = let lower : step_count at ≤ length at = min-le_left (length at) (2 ^ 64 - 1) in omega (arith, is, lower, le)

step_count-is_length : (n steps : ℕ) (at : Location) → steps ≡ step_count at → steps < n → n ≤ 60 → steps ≡ length at
step_count-is_length n steps at is lt few =
    ⊎_elim (λ more. let full : step_count at ≡ 2 ^ 64 - 1 = min-eq_right (omega (arith, more)) in absurd (omega (arith, is, full, lt, few)))
    (λ less. is ∙ min-eq_left less) (cases_lt (2 ^ 64 - 1) (length at))

pub survivor-past_end : (k e : ℕ) (path : List Token) (at : Location) (s : Step) → length path ≤ length at → is_alive path at ≡ true → e ≡ exact_tokens path at → Some (k, e) ≡ survivor k path (at ++ s ∷ [])
survivor-past_end k e path at s past alive exact =
    sym (rw (is_alive-past_end path at s past, alive) (ap (λ n. Some (k, n)) (exact_tokens-past_end path at s past ∙ sym exact)))

pub survivor-step : (k e w steps : ℕ) (path : List Token) (at : Location) (s : Step) → steps < length path → length path ≤ 60
    → slice_get (map (λ t. token_weight t s) path) steps ≡ Some w
    → steps ≡ step_count at → is_alive path at ≡ true → e ≡ exact_tokens path at → cond (ltb 0 w) (Some (k, e + cond (eqb w 2) 1 0)) None ≡ survivor k path (at ++ s ∷ [])
survivor-step k e w steps path at s lt few weighs count alive exact =
    let here : steps ≡ length at = step_count-is_length (length path) steps at count lt few in
    let more : length at < length path = omega (arith, here, lt) in
    let is = ap (slice_get (map (λ t. token_weight t s) path)) (sym here) ∙ weighs in
    sym (ap (λ b. cond b (Some (k, exact_tokens path (at ++ s ∷ []))) None) (is_alive-step path at s w more is ∙ rw alive refl)
    ∙ ap (λ n. cond (ltb 0 w) (Some (k, n)) None) (exact_tokens-step path at s w more is ∙ ap (λ n. n + cond (eqb w 2) 1 0) (sym exact)))

-- ---- the best

-- greater in the first number, or else in the second, or else less in the third
abbrev pub IsAhead : ℕ → ℕ → ℕ → ℕ → ℕ → ℕ → Type 0
IsAhead w l i v m j = (v < w) ⊎ ((v ≡ w) × ((m < l) ⊎ ((m ≡ l) × (i < j))))

IsAhead-of_outranks : (w v l m i j : ℕ) → outranks w v l m (ltb i j) ≡ true → IsAhead w l i v m j
IsAhead-of_outranks w v l m i j h = grind (arith, nat_tests)

IsAhead-of_not_outranks : (w v l m i j : ℕ) → outranks w v l m (ltb i j) ≡ false → i ≢ j → IsAhead v m j w l i
IsAhead-of_not_outranks w v l m i j h ne = grind (arith, nat_tests)

IsAhead-trans : (w l i v m j u n k : ℕ) → IsAhead w l i v m j → IsAhead v m j u n k → IsAhead w l i u n k
IsAhead-trans w l i v m j u n k h g = grind arith

abbrev pub IsBestOf : List BodyRule → Location → List (ℕ × ℕ) → ℕ → Option Candidate → Type 0
IsBestOf rules at xs n found =
    MatchOption found ((k : ℕ) (e : ℕ × ℕ) (s : BodyRule) → k < n → slice_get xs k ≡ Some e → slice_get rules e.0 ≡ Some s → weight s.path at ≡ 0)
    (λ f. (r : BodyRule) × (slice_get rules f.index ≡ Some r) × (0 < f.weight) × (f.weight ≡ weight r.path at) × (f.tokens ≡ length r.path)
    × ((k : ℕ) (e : ℕ × ℕ) (s : BodyRule) → k < n → slice_get xs k ≡ Some e → slice_get rules e.0 ≡ Some s → e.0 ≢ f.index → 0 < weight s.path at
    → IsAhead f.weight f.tokens f.index (weight s.path at) (length s.path) e.0))

-- up to the next place: what holds of those before, and of the one there
slice_get-up_to_next : (rules : List BodyRule) (xs : List (ℕ × ℕ)) (n : ℕ) (x : ℕ × ℕ) (r : BodyRule) (P : ℕ × ℕ → BodyRule → Type 0) → slice_get xs n ≡ Some x → slice_get rules x.0 ≡ Some r
    → ((k : ℕ) (e : ℕ × ℕ) (s : BodyRule) → k < n → slice_get xs k ≡ Some e → slice_get rules e.0 ≡ Some s → P e s) → P x r
    → (k : ℕ) (e : ℕ × ℕ) (s : BodyRule) → k < n + 1 → slice_get xs k ≡ Some e → slice_get rules e.0 ≡ Some s → P e s
slice_get-up_to_next rules xs n x r P there has before now = λ k e s lt at_k gets.
    ⊎_elim (λ is.
    let place : k ≡ n = is in
    let same : x ≡ e = same_Some x e (sym there ∙ ap (slice_get xs) (sym place) ∙ at_k) in
    let rule : r ≡ s = same_Some r s (sym has ∙ ap (λ (p : ℕ × ℕ). slice_get rules p.0) same ∙ gets) in
    subst (λ p. P p s) same (subst (P x) rule now))
    (λ ne. let apart : k ≡ n → ⊥ = ne in before k e s (omega (arith, lt, apart)) at_k gets) (cases_eq k n)

IsBestOf-first : (b : Bool) (rules : List BodyRule) (at : Location) (xs : List (ℕ × ℕ)) (n : ℕ) (c : Candidate) (x : ℕ × ℕ) (r : BodyRule) → ltb 0 c.weight ≡ b
    → c.index ≡ x.0 → c.weight ≡ weight r.path at → c.tokens ≡ length r.path → slice_get xs n ≡ Some x → slice_get rules x.0 ≡ Some r
    → ((k : ℕ) (e : ℕ × ℕ) (s : BodyRule) → k < n → slice_get xs k ≡ Some e → slice_get rules e.0 ≡ Some s → weight s.path at ≡ 0)
    → IsBestOf rules at xs (n + 1) (cond b (Some c) None)
IsBestOf-first true rules at xs n c x r test index heavy tokens there has none = (
  r,
  ap (slice_get rules) index ∙ has,
  ltb-true 0 c.weight test,
  heavy,
  tokens,
  slice_get-up_to_next rules xs n x r (λ e s. e.0 ≢ c.index → 0 < weight s.path at → IsAhead c.weight c.tokens c.index (weight s.path at) (length s.path) e.0) there has
      (λ k e s lt at_k gets ne pos. absurd (omega (arith, pos, none k e s lt at_k gets))) (λ ne pos. absurd (ne (sym index))),
)
IsBestOf-first false rules at xs n c x r test index heavy tokens there has none =
    slice_get-up_to_next rules xs n x r (λ e s. weight s.path at ≡ 0) there has none (sym heavy ∙ le_zero (ltb-false 0 c.weight test))
  where
    le_zero : {n : ℕ} → n ≤ 0 → n ≡ 0
    le_zero le = omega (arith, le)

IsBestOf-next : (b : Bool) (rules : List BodyRule) (at : Location) (xs : List (ℕ × ℕ)) (n : ℕ) (c f : Candidate) (x : ℕ × ℕ) (r : BodyRule) → outdoes c f ≡ b
    → c.index ≡ x.0 → c.weight ≡ weight r.path at → c.tokens ≡ length r.path → slice_get xs n ≡ Some x → slice_get rules x.0 ≡ Some r
    → IsBestOf rules at xs n (Some f) → IsBestOf rules at xs (n + 1) (cond b (Some c) (Some f))
IsBestOf-next true rules at xs n c f x r test index heavy tokens there has h =
    let ahead : IsAhead c.weight c.tokens c.index f.weight f.tokens f.index = IsAhead-of_outranks c.weight f.weight c.tokens f.tokens c.index f.index test in
    let old : (k : ℕ) (e : ℕ × ℕ) (s : BodyRule) → k < n → slice_get xs k ≡ Some e → slice_get rules e.0 ≡ Some s → e.0 ≢ c.index → 0 < weight s.path at → IsAhead c.weight c.tokens c.index (weight s.path at) (length s.path) e.0
    = λ k e s lt at_k gets ne pos.
    ⊎_elim (λ is.
    let place : e.0 ≡ f.index = is in
    let rule : h.0 ≡ s = same_Some h.0 s (sym h.1 ∙ ap (slice_get rules) (sym place) ∙ gets) in
    ahead_as c.weight c.tokens c.index f.weight f.tokens f.index (weight s.path at) (length s.path) e.0 (h.3 ∙ ap (λ (q : BodyRule). weight q.path at) rule) (h.4 ∙ ap (λ (q : BodyRule). length q.path) rule) (sym place) ahead)
    (λ apart. IsAhead-trans c.weight c.tokens c.index f.weight f.tokens f.index (weight s.path at) (length s.path) e.0 ahead (h.5 k e s lt at_k gets apart pos)) (cases_eq e.0 f.index) in (
      r,
      ap (slice_get rules) index ∙ has,
      ahead_positive c.weight c.tokens c.index f.weight f.tokens f.index ahead h.2,
      heavy,
      tokens,
      slice_get-up_to_next rules xs n x r (λ e s. e.0 ≢ c.index → 0 < weight s.path at → IsAhead c.weight c.tokens c.index (weight s.path at) (length s.path) e.0) there has
          old (λ ne pos. absurd (ne (sym index))),
    )
  where
    ahead_as : (w l i v m j v' m' j' : ℕ) → v ≡ v' → m ≡ m' → j ≡ j' → IsAhead w l i v m j → IsAhead w l i v' m' j'
    ahead_as w l i v m j v' m' j' e f g h = subst (λ a. IsAhead w l i a m' j') e (subst (λ a. IsAhead w l i v a j') f (subst (IsAhead w l i v m) g h))

    ahead_positive : (w l i v m j : ℕ) → IsAhead w l i v m j → 0 < v → 0 < w
    ahead_positive w l i v m j h pos = grind arith
IsBestOf-next false rules at xs n c f x r test index heavy tokens there has h = (
  h.0,
  h.1,
  h.2,
  h.3,
  h.4,
  slice_get-up_to_next rules xs n x r (λ e s. e.0 ≢ f.index → 0 < weight s.path at → IsAhead f.weight f.tokens f.index (weight s.path at) (length s.path) e.0) there has h.5
      (λ ne pos. ahead_by c.weight c.tokens c.index f.weight f.tokens f.index (weight r.path at) (length r.path) x.0 heavy tokens index
      (IsAhead-of_not_outranks c.weight f.weight c.tokens f.tokens c.index f.index test (λ same. ne (sym index ∙ same)))),
)
  where
    ahead_by : (w l i v m j w' l' i' : ℕ) → w ≡ w' → l ≡ l' → i ≡ i' → IsAhead v m j w l i → IsAhead v m j w' l' i'
    ahead_by w l i v m j w' l' i' e f g h = subst (λ a. IsAhead v m j a l' i') e (subst (λ a. IsAhead v m j w a i') f (subst (IsAhead v m j w l) g h))

-- one more entry
pub IsBestOf-preferred : (rules : List BodyRule) (at : Location) (xs : List (ℕ × ℕ)) (n : ℕ) (c : Candidate) (found : Option Candidate) (x : ℕ × ℕ) (r : BodyRule)
    → c.index ≡ x.0 → c.weight ≡ weight r.path at → c.tokens ≡ length r.path → slice_get xs n ≡ Some x → slice_get rules x.0 ≡ Some r
    → IsBestOf rules at xs n found → IsBestOf rules at xs (n + 1) (preferred c found)
IsBestOf-preferred rules at xs n c None x r index heavy tokens there has h = IsBestOf-first (ltb 0 c.weight) rules at xs n c x r refl index heavy tokens there has h
IsBestOf-preferred rules at xs n c (Some f) x r index heavy tokens there has h = IsBestOf-next (outdoes c f) rules at xs n c f x r refl index heavy tokens there has h

-- of two rules the one of the lower index has the lower text
IsInOrder-IsBefore : (rules : List BodyRule) → IsInOrder rules → (i j : ℕ) (r s : BodyRule) → slice_get rules i ≡ Some r → slice_get rules j ≡ Some s → i < j → IsBefore (path_text r.path) (path_text s.path)
IsInOrder-IsBefore [] order i j r s a b lt = absurd cc
IsInOrder-IsBefore (q ∷ rules) order zero zero r s a b lt = absurd (omega (arith, lt))
IsInOrder-IsBefore (q ∷ rules) order zero (suc j) r s a b lt = AllByRecursion-slice_get (λ (x : BodyRule). IsBefore (path_text r.path) (path_text x.path)) rules j s (subst (λ (q : BodyRule). AllByRecursion (λ (x : BodyRule). IsBefore (path_text q.path) (path_text x.path)) rules) (same_Some q r a) order.0) b
IsInOrder-IsBefore (q ∷ rules) order (suc i) zero r s a b lt = absurd (omega (arith, lt))
IsInOrder-IsBefore (q ∷ rules) order (suc i) (suc j) r s a b lt = IsInOrder-IsBefore rules order.1 i j r s a b (omega (arith, lt))

-- a rule of positive weight is one of the entries
IsWalkTo-positive_rule : (rules : List BodyRule) (w : Walk) (at : Location) → IsWalkTo rules w at → (j : ℕ) (s : BodyRule) → slice_get rules j ≡ Some s → 0 < weight s.path at
    → (k : ℕ) × (k < length w.alive) × (slice_get w.alive k ≡ Some (j, exact_tokens s.path at))
IsWalkTo-positive_rule rules w at h j s gets pos =
    let alive : is_alive s.path at ≡ true = ⊎_elim (λ is. is) (λ dead. absurd (omega (arith, pos, weight-dead s.path at dead))) (cases_Bool (is_alive s.path at)) in
    Contains-has_index w.alive (j, exact_tokens s.path at) ((h.alive (j, exact_tokens s.path at)).1 (s, gets, alive, refl))

-- the best of all entries is the choice
pub IsChoice-of_IsBestOf : (rules : List BodyRule) (w : Walk) (at : Location) (n : ℕ) (found : Option Candidate) → IsInOrder rules → IsWalkTo rules w at → length w.alive ≤ n
    → IsBestOf rules at w.alive n found → IsChoice rules at (option_map (λ (c : Candidate). c.index) found)
IsChoice-of_IsBestOf rules w at n None order h all best = λ j s gets.
    ⊎_elim (λ none. none) (λ pos. let k = IsWalkTo-positive_rule rules w at h j s gets pos in best k.0 (j, exact_tokens s.path at) s (omega (arith, k.1, all)) k.2 gets) (eq-zero-or-pos (weight s.path at))
IsChoice-of_IsBestOf rules w at n (Some f) order h all best = (
  best.0,
  best.1,
  subst (λ n. 0 < n) best.3 best.2,
  λ j s gets ne pos.
      let k = IsWalkTo-positive_rule rules w at h j s gets pos in
      let ahead = best.5 k.0 (j, exact_tokens s.path at) s (omega (arith, k.1, all)) k.2 gets ne pos in
      by_text (IsBefore (path_text best.0.path) (path_text s.path)) f.weight f.tokens f.index (weight s.path at) (length s.path) j (weight best.0.path at) (length best.0.path) best.3 best.4
      (IsInOrder-IsBefore rules order f.index j best.0 s best.1 gets) ahead,
)
  where
    by_text : (T : Type 0) (w l i v m j w' l' : ℕ) → w ≡ w' → l ≡ l' → (i < j → T) → IsAhead w l i v m j → (v < w') ⊎ ((v ≡ w') × ((m < l') ⊎ ((m ≡ l') × T)))
    by_text T w l i v m j w' l' e g lower h =
        ⊎_elim (λ lt. inl (omega (arith, lt, e))) (λ x. inr (x.0 ∙ e, ⊎_elim (λ lt. inl (omega (arith, lt, g))) (λ y. inr (y.0 ∙ g, lower y.1)) x.1)) h

-- ---- the own place

-- the chosen rule is in the list, at the index it is given with
abbrev pub IsThere : List BodyRule → Option (ℕ × BodyRule) → Type 0
IsThere rules o = MatchOption o (Unit {0}) (λ b. slice_get rules b.0 ≡ Some b.1)

IsThere-first_only : (b : Bool) (r : BodyRule) (rules : List BodyRule) → IsThere (r ∷ rules) (cond b (Some (0, r)) None)
IsThere-first_only true r rules = refl
IsThere-first_only false r rules = tt

IsThere-first_or_best : (t : Bool) (r : BodyRule) (rules : List BodyRule) (b : ℕ × BodyRule) → slice_get rules b.0 ≡ Some b.1 → IsThere (r ∷ rules) (cond t (Some (b.0 + 1, b.1)) (Some (0, r)))
IsThere-first_or_best true r rules b is = ap (slice_get (r ∷ rules)) (add-one b.0) ∙ is
IsThere-first_or_best false r rules b is = refl

IsThere-pick : (at : Location) (r : BodyRule) (rules : List BodyRule) (o : Option (ℕ × BodyRule)) → IsThere rules o → IsThere (r ∷ rules) (pick at r o)
IsThere-pick at r rules None is = IsThere-first_only (ltb 0 (weight r.path at)) r rules
IsThere-pick at r rules (Some b) is = IsThere-first_or_best (beats at b.1 r) r rules b is

-- the best rule at a location, if there is one, is in the list at the index it is given with
pub IsThere-best : (rules : List BodyRule) (at : Location) → IsThere rules (best rules at)
IsThere-best [] at = tt
IsThere-best (r ∷ rules) at = IsThere-pick at r rules (best rules at) (IsThere-best rules at)

step_count-eqb_length : (n steps : ℕ) (at : Location) → steps ≡ step_count at → n ≤ 60 → eqb n steps ≡ eqb n (length at)
step_count-eqb_length n steps at is few =
    ⊎_elim (λ more.
    let full : step_count at ≡ 2 ^ 64 - 1 = min-eq_right (omega (arith, more)) in
    let other : n ≡ steps → ⊥ = λ e. omega (arith, e, is, full, few) in
    let longer : n ≡ length at → ⊥ = λ e. omega (arith, e, more, few) in
    ne_eqb n steps other ∙ sym (ne_eqb n (length at) longer))
    (λ less. ap (eqb n) (is ∙ min-eq_left less)) (cases_lt (2 ^ 64 - 1) (length at))

own_place_of-eqb_steps : (o : Option (ℕ × BodyRule)) (rules : List BodyRule) (at : Location) (index steps n : ℕ) (path : List Token) → IsThere rules o → option_map (λ (b : ℕ × BodyRule). b.0) o ≡ Some index → slice_get (map (λ (r : BodyRule). r.path) rules) index ≡ Some path
    → steps ≡ step_count at → n ≡ length path → n ≤ 60 → eqb n steps ≡ own_place_of at o
own_place_of-eqb_steps None rules at index steps n path is e there count len few = absurd cc
own_place_of-eqb_steps (Some b) rules at index steps n path is e there count len few =
    let at_b : b.0 ≡ index = same_Some b.0 index e in
    let path_is : path ≡ b.1.path = same_Some path b.1.path (sym there ∙ ap (slice_get (map (λ (r : BodyRule). r.path) rules)) (sym at_b) ∙ slice_get-map (λ (r : BodyRule). r.path) rules b.0 ∙ ap (option_map (λ (r : BodyRule). r.path)) is) in
    step_count-eqb_length n steps at count few ∙ ap (λ m. eqb m (length at)) (len ∙ ap (λ (p : List Token). length p) path_is)

pub own_place-eqb_steps : (rules : List BodyRule) (at : Location) (index steps n : ℕ) (path : List Token) → Some index ≡ chosen rules at → slice_get (map (λ (r : BodyRule). r.path) rules) index ≡ Some path
    → steps ≡ step_count at → n ≡ length path → n ≤ 60 → eqb n steps ≡ own_place rules at
own_place-eqb_steps rules at index steps n path e there count len few = own_place_of-eqb_steps (best rules at) rules at index steps n path (IsThere-best rules at) (sym e) there count len few

eqb-IsTrue : (m n : ℕ) → IsTrue (eqb m n) ↔ (m ≡ n)
eqb-IsTrue m n = (λ h. grind (arith, nat_tests), λ e. grind (arith, nat_tests))

own_place_of-IsOwnPlace : (rules : List BodyRule) (at : Location) (o : Option (ℕ × BodyRule)) → IsThere rules o → IsChoice rules at (option_map (λ (b : ℕ × BodyRule). b.0) o) → IsTrue (own_place_of at o) ↔ IsOwnPlace rules at
own_place_of-IsOwnPlace rules at None there c = (
  λ h. absurd (true≢false (sym h)),
  λ own. let none : None ≡ Some own.0 = IsChoice-of_IsChosen rules at None c own.0 own.2 in absurd cc,
)
own_place_of-IsOwnPlace rules at (Some b) there c = (
  λ h. (b.0, b.1, c, there, (eqb-IsTrue (length b.1.path) (length at)).0 h),
  λ own.
      let i : b.0 ≡ own.0 = same_Some b.0 own.0 (IsChoice-of_IsChosen rules at (Some b.0) c own.0 own.2) in
      let r : b.1 ≡ own.1 = same_Some b.1 own.1 (sym there ∙ ap (slice_get rules) i ∙ own.3) in
      (eqb-IsTrue (length b.1.path) (length at)).1 (ap (λ (r : BodyRule). length r.path) r ∙ own.4),
)

-- what is computed says whether the location is the own place of the rule that is chosen there
pub own_place-IsOwnPlace : (rules : List BodyRule) (at : Location) (o : Option ℕ) (result : Bool) → o ≡ chosen rules at → IsChoice rules at o → result ≡ own_place rules at → IsTrue result ↔ IsOwnPlace rules at
own_place-IsOwnPlace rules at o result is c own =
    subst (λ b. IsTrue b ↔ IsOwnPlace rules at) (sym own) (own_place_of-IsOwnPlace rules at (best rules at) (IsThere-best rules at) (subst (IsChoice rules at) is c))
