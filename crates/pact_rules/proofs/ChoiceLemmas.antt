-- The best rule, and how a loop from the last index finds it.
use Rattle.std.specs.{Ordering.{is_lt}, Cmp.Lexicographic.{slice_cmp}, List.{AllByRecursion}}
use Rattle.std.proofs.Common.{◌≡◌, ◌≢◌, ◌⊎◌, ℕ, zero, suc, ◌+◌, ◌<◌, ◌≤◌, Bool, true, false, cond, ◌||◌, ◌&&◌, eqb, ltb, List, [], ◌∷◌, map, length, get_or, drop, Option, Some, None, option_map, Ordering, Less, nat_cmp, add-one, refl, sym, ap, ◌∙◌, subst, inl, inr, ⊎_elim, true≢false, arith, ltb-true, ltb-false, MatchOption, IfSome, slice_get}
use Rattle.std.proofs.{lemmas.Bool.{cases_eq}, lemmas.Bool.Decides.{nat_tests}, lemmas.Cmp.{nat_list_cmp_total}}
use Rattle.std.proofs.{lemmas.Option.{same_Some, slice_get-map, slice_get-get_or, slice_get_within}, lemmas.List.{drop-map, drop_more, length-map}}
use Rattle.pact_rules.specs.{declared.table.Candidate.{Candidate}, RuleViews.{rule_view}, Rules.{BodyRule, IsBefore, IsInOrder}}
use Rattle.pact_rules.specs.{Choice.{Beats, IsChosen, IsChoice, outranks, beats, pick, best, chosen}, Candidates.{better_of}}
use Rattle.pact_paths.specs.{Paths.{Location}, Spelling.{path_text}, Weights.{weight}}
use Rattle.pact_rules.specs.declared.table.BodyRule as code

-- ---- texts in order

IsBefore-not_after : (a b : List ℕ) → IsBefore a b → is_lt (slice_cmp nat_cmp b a) ≡ false
IsBefore-not_after a b h = rw (nat_list_cmp_total.antisymm b a, h) refl

IsBefore-asymmetric : (a b : List ℕ) → IsBefore a b → IsBefore b a → ⊥
IsBefore-asymmetric a b h k = true≢false (ap is_lt (sym k) ∙ IsBefore-not_after a b h)

-- ---- weights and lengths only

-- the first weighs more than the second, or as much and is at least as long; the texts don't count
abbrev AtLeast : Location → BodyRule → BodyRule → Type 0
AtLeast at r s = (weight s.path at < weight r.path at) ⊎ ((weight s.path at ≡ weight r.path at) × (length s.path ≤ length r.path))

outranks-false : (v w l m : ℕ) (t : Bool) → outranks v w l m t ≡ false → (v < w) ⊎ ((v ≡ w) × (l ≤ m))
outranks-false v w l m t h = grind (arith, nat_tests)

AtLeast-of_not_beats : (at : Location) (b r : BodyRule) → beats at b r ≡ false → AtLeast at r b
AtLeast-of_not_beats at b r h = outranks-false (weight b.path at) (weight r.path at) (length b.path) (length r.path) _ h

outranks-true : (v w l m : ℕ) (t : Bool) → outranks v w l m t ≡ true → (w < v) ⊎ ((w ≡ v) × ((m < l) ⊎ ((m ≡ l) × (t ≡ true))))
outranks-true v w l m t h = grind (arith, nat_tests)

is_lt-Less : (o : Ordering) → is_lt o ≡ true → o ≡ Less
is_lt-Less Less h = refl
is_lt-Less o h = absurd (true≢false (sym h))

Beats-of_beats : (at : Location) (b r : BodyRule) → beats at b r ≡ true → Beats at b r
Beats-of_beats at b r h =
    ⊎_elim inl (λ e. inr (e.0, ⊎_elim inl (λ f. inr (f.0, is_lt-Less _ f.1)) e.1))
    (outranks-true (weight b.path at) (weight r.path at) (length b.path) (length r.path) (is_lt (slice_cmp nat_cmp (path_text b.path) (path_text r.path))) h)

AtLeast-of_Beats : (at : Location) (r s : BodyRule) → Beats at r s → AtLeast at r s
AtLeast-of_Beats at r s h =
    let wr = weight r.path at in let ws = weight s.path at in let lr = length r.path in let ls = length s.path in
    ⊎_elim inl (λ e. inr (e.0, ⊎_elim (λ f. let lt : ls < lr = f in omega arith) (λ f. let is : ls ≡ lr = f.0 in omega arith) e.1)) h

AtLeast-trans_numbers : (wr ws wt lr ls lt : ℕ) → (ws < wr) ⊎ ((ws ≡ wr) × (ls ≤ lr)) → (wt < ws) ⊎ ((wt ≡ ws) × (lt ≤ ls)) → (wt < wr) ⊎ ((wt ≡ wr) × (lt ≤ lr))
AtLeast-trans_numbers wr ws wt lr ls lt h k = grind arith

AtLeast-trans : (at : Location) (r s t : BodyRule) → AtLeast at r s → AtLeast at s t → AtLeast at r t
AtLeast-trans at r s t h k = AtLeast-trans_numbers (weight r.path at) (weight s.path at) (weight t.path at) (length r.path) (length s.path) (length t.path) h k

Beats-by_numbers : (T : Type 0) (wr ws lr ls : ℕ) → T → (ws < wr) ⊎ ((ws ≡ wr) × (ls ≤ lr)) → (ws < wr) ⊎ ((ws ≡ wr) × ((ls < lr) ⊎ ((ls ≡ lr) × T)))
Beats-by_numbers T wr ws lr ls k h = ⊎_elim inl (λ e. inr (e.0, ⊎_elim (λ is. inr (is, k)) (λ ne. let apart : ls ≡ lr → ⊥ = ne in inl (omega arith)) (cases_eq ls lr))) h

Beats-by_text : (at : Location) (r s : BodyRule) → AtLeast at r s → IsBefore (path_text r.path) (path_text s.path) → Beats at r s
Beats-by_text at r s h k = Beats-by_numbers _ (weight r.path at) (weight s.path at) (length r.path) (length s.path) k h

Beats-equal_numbers : (A B : Type 0) (wr ws lr ls : ℕ) → (ws < wr) ⊎ ((ws ≡ wr) × ((ls < lr) ⊎ ((ls ≡ lr) × A))) → (wr < ws) ⊎ ((wr ≡ ws) × ((lr < ls) ⊎ ((lr ≡ ls) × B))) → A × B
Beats-equal_numbers A B wr ws lr ls h k =
    ⊎_elim (λ x. ⊎_elim (λ y. absurd (omega arith)) (λ y. let is : wr ≡ ws = y.0 in absurd (omega arith)) k)
    (λ x. let is : ws ≡ wr = x.0 in ⊎_elim (λ y. absurd (omega arith))
    (λ y. ⊎_elim (λ f. ⊎_elim (λ g. absurd (omega arith)) (λ g. let e : lr ≡ ls = g.0 in absurd (omega arith)) y.1)
    (λ f. let e : ls ≡ lr = f.0 in ⊎_elim (λ g. absurd (omega arith)) (λ g. (f.1, g.1)) y.1) x.1) k) h

-- no two rules are chosen
pub IsChosen-unique : (rules : List BodyRule) (at : Location) (i j : ℕ) → IsChosen rules at i → IsChosen rules at j → i ≡ j
IsChosen-unique rules at i j h k =
    ⊎_elim (λ e. e) (λ ne.
    let both = Beats-equal_numbers (IsBefore (path_text h.0.path) (path_text k.0.path)) (IsBefore (path_text k.0.path) (path_text h.0.path))
    (weight h.0.path at) (weight k.0.path at) (length h.0.path) (length k.0.path)
    (h.3 j k.0 k.1 (λ e. ne (sym e)) k.2) (k.3 i h.0 h.1 ne h.2) in
    absurd (IsBefore-asymmetric (path_text h.0.path) (path_text k.0.path) both.0 both.1)) (cases_eq i j)

-- ---- the best rule is the one that is chosen

abbrev pub IsBest : List BodyRule → Location → Option (ℕ × BodyRule) → Type 0
IsBest rules at o =
    MatchOption o ((j : ℕ) (s : BodyRule) → slice_get rules j ≡ Some s → weight s.path at ≡ 0)
    (λ b. (slice_get rules b.0 ≡ Some b.1) × (0 < weight b.1.path at)
    × ((j : ℕ) (s : BodyRule) → slice_get rules j ≡ Some s → j ≢ b.0 → 0 < weight s.path at → Beats at b.1 s))

pub AllByRecursion-slice_get : {A : Type 0} (P : A → Type 0) (xs : List A) (i : ℕ) (x : A) → AllByRecursion P xs → slice_get xs i ≡ Some x → P x
AllByRecursion-slice_get P [] i x h e = cc
AllByRecursion-slice_get P (y ∷ xs) zero x h e = subst P (same_Some _ _ e) h.0
AllByRecursion-slice_get P (y ∷ xs) (suc i) x h e = AllByRecursion-slice_get P xs i x h.1 e

zero-not_positive : {A : Type 0} (n : ℕ) → n ≡ 0 → 0 < n → A
zero-not_positive n e h = absurd (omega arith)

IsBest-first_only : (at : Location) (r : BodyRule) (rules : List BodyRule) → IsBest rules at None → (b : Bool) → ltb 0 (weight r.path at) ≡ b → IsBest (r ∷ rules) at (cond b (Some (0, r)) None)
IsBest-first_only at r rules none true test = (
  refl,
  ltb-true 0 (weight r.path at) test,
  λ j. elim j as (λ j. (s : BodyRule) → slice_get (r ∷ rules) j ≡ Some s → j ≢ 0 → 0 < weight s.path at → Beats at r s) [
    | zero ↦ λ s e ne p. absurd (ne refl)
    | suc k ↦ λ s e ne p. zero-not_positive (weight s.path at) (none k s e) p
  ],
)
IsBest-first_only at r rules none false test = λ j. elim j as (λ j. (s : BodyRule) → slice_get (r ∷ rules) j ≡ Some s → weight s.path at ≡ 0) [
  | zero ↦ λ s e. let low : weight r.path at ≤ 0 = ltb-false 0 (weight r.path at) test in
      subst (λ (x : BodyRule). weight x.path at ≡ 0) (same_Some r s e) (omega arith)
  | suc k ↦ λ s e. none k s e
]

Beats-positive_weight : (wr lr wb lb : ℕ) → (wb < wr) ⊎ ((wb ≡ wr) × (lb ≤ lr)) → 0 < wb → 0 < wr
Beats-positive_weight wr lr wb lb h p = grind arith

IsBest-first_or_best : (at : Location) (r : BodyRule) (rules : List BodyRule) (b : ℕ × BodyRule) → AllByRecursion (λ s. IsBefore (path_text r.path) (path_text s.path)) rules → IsBest rules at (Some b)
    → (t : Bool) → beats at b.1 r ≡ t → IsBest (r ∷ rules) at (cond t (Some (b.0 + 1, b.1)) (Some (0, r)))
IsBest-first_or_best at r rules b before is true test = (
  ap (slice_get (r ∷ rules)) (add-one b.0) ∙ is.0,
  is.1,
  λ j. elim j as (λ j. (s : BodyRule) → slice_get (r ∷ rules) j ≡ Some s → j ≢ b.0 + 1 → 0 < weight s.path at → Beats at b.1 s) [
    | zero ↦ λ s e ne p. subst (λ x. Beats at b.1 x) (same_Some r s e) (Beats-of_beats at b.1 r test)
    | suc k ↦ λ s e ne p. is.2 k s e (λ same. ne (ap suc same ∙ sym (add-one b.0))) p
  ],
)
IsBest-first_or_best at r rules b before is false test =
    let over : AtLeast at r b.1 = AtLeast-of_not_beats at b.1 r test in (
      refl,
      Beats-positive_weight (weight r.path at) (length r.path) (weight b.1.path at) (length b.1.path) over is.1,
      λ j. elim j as (λ j. (s : BodyRule) → slice_get (r ∷ rules) j ≡ Some s → j ≢ 0 → 0 < weight s.path at → Beats at r s) [
        | zero ↦ λ s e ne p. absurd (ne refl)
        | suc k ↦ λ s e ne p.
            let earlier = AllByRecursion-slice_get (λ (x : BodyRule). IsBefore (path_text r.path) (path_text x.path)) rules k s before e in
            ⊎_elim (λ same. Beats-by_text at r s (subst (λ x. AtLeast at r x) (same_Some b.1 s (sym is.0 ∙ ap (slice_get rules) (sym same) ∙ e)) over) earlier)
            (λ ne. Beats-by_text at r s (AtLeast-trans at r b.1 s over (AtLeast-of_Beats at b.1 s (is.2 k s e ne p))) earlier)
            (cases_eq k b.0)
      ],
    )

IsBest-pick : (at : Location) (r : BodyRule) (rules : List BodyRule) (o : Option (ℕ × BodyRule)) → AllByRecursion (λ s. IsBefore (path_text r.path) (path_text s.path)) rules → IsBest rules at o → IsBest (r ∷ rules) at (pick at r o)
IsBest-pick at r rules None before is = IsBest-first_only at r rules is (ltb 0 (weight r.path at)) refl
IsBest-pick at r rules (Some b) before is = IsBest-first_or_best at r rules b before is (beats at b.1 r) refl

pub IsBest-best : (rules : List BodyRule) (at : Location) → IsInOrder rules → IsBest rules at (best rules at)
IsBest-best [] at h = λ j s e. cc
IsBest-best (r ∷ rules) at h = IsBest-pick at r rules (best rules at) h.0 (IsBest-best rules at h.1)

IsChoice-of_IsBest : (rules : List BodyRule) (at : Location) (o : Option (ℕ × BodyRule)) → IsBest rules at o → IsChoice rules at (option_map (λ b. b.0) o)
IsChoice-of_IsBest rules at None h = h
IsChoice-of_IsBest rules at (Some b) h = (b.1, h.0, h.1, h.2)

-- of rules in order of their texts, what is computed is the one that beats each other of positive weight, if any
pub IsChoice-chosen : (rules : List BodyRule) (at : Location) → IsInOrder rules → IsChoice rules at (chosen rules at)
IsChoice-chosen rules at h = IsChoice-of_IsBest rules at (best rules at) (IsBest-best rules at h)

-- ---- the loop from the last index

-- a best rule as the loop keeps it
abbrev pub as_candidate : ℕ → Location → Option (ℕ × BodyRule) → Option Candidate
as_candidate k at None = None
as_candidate k at (Some b) = Some (record { index = b.0 + k; weight = weight b.1.path at; tokens = length b.1.path })

outranks-no_tie_break : (v w l m : ℕ) → outranks v w l m false ≡ (ltb w v || (eqb v w && ltb m l))
outranks-no_tie_break v w l m = grind (arith, nat_tests)

pub as_candidate-first_or_best : (at : Location) (r : BodyRule) (b : ℕ × BodyRule) (k : ℕ) (t : Bool) → as_candidate k at (cond t (Some (b.0 + 1, b.1)) (Some (0, r)))
    ≡ cond t (as_candidate (k + 1) at (Some b)) (Some (record { index = k; weight = weight r.path at; tokens = length r.path }))
as_candidate-first_or_best at r b k true = ap (λ n. Some (record { index = n; weight = weight b.1.path at; tokens = length b.1.path })) (omega arith)
as_candidate-first_or_best at r b k false = ap (λ n. Some (record { index = n; weight = weight r.path at; tokens = length r.path })) (omega arith)

pub as_candidate-first_or_none : (at : Location) (r : BodyRule) (k : ℕ) (t : Bool) → as_candidate k at (cond t (Some (0, r)) None)
    ≡ cond t (Some (record { index = k; weight = weight r.path at; tokens = length r.path })) None
as_candidate-first_or_none at r k true = ap (λ n. Some (record { index = n; weight = weight r.path at; tokens = length r.path })) (omega arith)
as_candidate-first_or_none at r k false = refl

pub as_candidate-pick : (at : Location) (r : BodyRule) (rules : List BodyRule) (k : ℕ) (o : Option (ℕ × BodyRule)) → AllByRecursion (λ s. IsBefore (path_text r.path) (path_text s.path)) rules → IsBest rules at o
    → as_candidate k at (pick at r o) ≡ better_of (record { index = k; weight = weight r.path at; tokens = length r.path }) (as_candidate (k + 1) at o)
as_candidate-pick at r rules k None before is = as_candidate-first_or_none at r k _
as_candidate-pick at r rules k (Some b) before is =
    let earlier = AllByRecursion-slice_get (λ (x : BodyRule). IsBefore (path_text r.path) (path_text x.path)) rules b.0 b.1 before is.0 in
    as_candidate-first_or_best at r b k (beats at b.1 r)
    ∙ ap (λ t. cond t (as_candidate (k + 1) at (Some b)) (Some (record { index = k; weight = weight r.path at; tokens = length r.path })))
    (ap (outranks (weight b.1.path at) (weight r.path at) (length b.1.path) (length r.path)) (IsBefore-not_after (path_text r.path) (path_text b.1.path) earlier)
    ∙ outranks-no_tie_break (weight b.1.path at) (weight r.path at) (length b.1.path) (length r.path))

IsInOrder-drop : (k : ℕ) (rules : List BodyRule) → IsInOrder rules → IsInOrder (drop k rules)
IsInOrder-drop zero rules h = h
IsInOrder-drop (suc k) [] h = tt
IsInOrder-drop (suc k) (r ∷ rules) h = IsInOrder-drop k rules h.1

pub as_candidate-drop : (at : Location) (r : BodyRule) (rules : List BodyRule) (k : ℕ) → IsInOrder rules → drop k rules ≡ r ∷ drop (k + 1) rules
    → as_candidate k at (best (drop k rules) at) ≡ better_of (record { index = k; weight = weight r.path at; tokens = length r.path }) (as_candidate (k + 1) at (best (drop (k + 1) rules) at))
as_candidate-drop at r rules k order is =
    let here : IsInOrder (r ∷ drop (k + 1) rules) = subst IsInOrder is (IsInOrder-drop k rules order) in
    ap (λ rs. as_candidate k at (best rs at)) is ∙ as_candidate-pick at r (drop (k + 1) rules) k (best (drop (k + 1) rules) at) here.0 (IsBest-best (drop (k + 1) rules) at here.1)

pub as_candidate-better_of : (at : Location) (rules : List BodyRule) (r : BodyRule) (k w n : ℕ) (found result : Option Candidate) → IsInOrder rules → drop k rules ≡ r ∷ drop (k + 1) rules
    → w ≡ weight r.path at → n ≡ length r.path → found ≡ as_candidate (k + 1) at (best (drop (k + 1) rules) at)
    → result ≡ better_of (record { index = k; weight = w; tokens = n }) found → result ≡ as_candidate k at (best (drop k rules) at)
as_candidate-better_of at rules r k w n found result order is ew en ef e =
    e ∙ ap (λ v. better_of (record { index = k; weight = v; tokens = n }) found) ew
    ∙ ap (λ m. better_of (record { index = k; weight = weight r.path at; tokens = m }) found) en
    ∙ ap (better_of (record { index = k; weight = weight r.path at; tokens = length r.path })) ef
    ∙ sym (as_candidate-drop at r rules k order is)

pub drop-rule_view : (xs : List code.BodyRule) (k : ℕ) (x : code.BodyRule) → k < length xs → x ≡ get_or xs k x → drop k (map rule_view xs) ≡ rule_view x ∷ drop (k + 1) (map rule_view xs)
drop-rule_view xs k x lt is =
    drop-map rule_view k xs ∙ ap (map rule_view) (drop_more xs k x lt ∙ ap (λ y. y ∷ drop (k + 1) xs) (sym is)) ∙ ap (λ ys. rule_view x ∷ ys) (sym (drop-map rule_view (k + 1) xs))

-- the element at an index within a list, under a function, is the element at that index of the mapped list
pub slice_get-map_within : {A B : Type 0} (f : A → B) (xs : List A) (i : ℕ) (x : A) → i < length xs → x ≡ get_or xs i x → slice_get (map f xs) i ≡ Some (f x)
slice_get-map_within f xs i x lt is = slice_get-map f xs i ∙ ap (option_map f) (slice_get-get_or xs i x lt ∙ ap (λ y. Some y) (sym is))

-- a field of the rule at an index of a table
pub slice_get-rule_field : {B : Type 0} (field : BodyRule → B) (xs : List code.BodyRule) (body : List BodyRule) (i : ℕ) (x : code.BodyRule) → map rule_view xs ≡ body
    → i < length body → x ≡ get_or xs i x
    → slice_get (map field body) i ≡ Some (field (rule_view x))
slice_get-rule_field field xs body i x same within is =
    let inside : i < length xs = omega (arith, ap length same, length-map xs rule_view) in
    ap (λ rs. slice_get (map field rs) i) (sym same) ∙ slice_get-map field (map rule_view xs) i ∙ ap (option_map field) (slice_get-map_within rule_view xs i x inside is)

-- a index that is chosen is one of the table
pub IsChoice-within : (rules : List BodyRule) (at : Location) (o : Option ℕ) → IsChoice rules at o → IfSome o (λ i. i < length rules)
IsChoice-within rules at None h = tt
IsChoice-within rules at (Some i) h = slice_get_within rules i h.0 h.1

-- the index that is chosen is the only one
pub IsChoice-of_IsChosen : (rules : List BodyRule) (at : Location) (o : Option ℕ) → IsChoice rules at o → (i : ℕ) → IsChosen rules at i → o ≡ Some i
IsChoice-of_IsChosen rules at None h i k = zero-not_positive (weight k.0.path at) (h i k.0 k.1) k.2
IsChoice-of_IsChosen rules at (Some j) h i k = ap (λ n. Some n) (IsChosen-unique rules at j i h k)

-- there is one choice
pub IsChoice-unique : (rules : List BodyRule) (at : Location) (o p : Option ℕ) → IsChoice rules at o → IsChoice rules at p → o ≡ p
IsChoice-unique rules at None None h k = refl
IsChoice-unique rules at o (Some i) h k = IsChoice-of_IsChosen rules at o h i k
IsChoice-unique rules at (Some j) None h k = sym (IsChoice-of_IsChosen rules at None k j h)
