-- Weights of a path while a location grows by one step at its end.
use Rattle.std.proofs.Common.{◌≡◌, ◌⊎◌, inl, inr, ℕ, zero, suc, ◌+◌, ◌*◌, ◌^◌, ◌<◌, ◌≤◌, Bool, true, false, ◌&&◌, cond, eqb, ltb, leb, List, [], ◌∷◌, ◌++◌, map, length, filter, slice_get, zip, Some, None, option_and_then, get_or, option_map, ⊎_elim, refl, sym, ap, ◌∙◌, arith, mul-one, one-mul, mul-zero, zero-mul, mul_assoc, mul_comm, pow-suc, length-append, lt-ltb, le-leb, ltb-false, bytes_eq, true≢false, mul-pos, eq-zero-or-pos}
use Rattle.std.proofs.{lemmas.Slice.Eq.{bytes_eq-Decides}, lemmas.Bool.{and_parts, and_right, cases_lt, eqb-true}, lemmas.List.{length-map}}
use Rattle.std.proofs.{lemmas.List.Elements.{filter-append}, lemmas.List.Sums.{length-filter, count_by-le-length}, lemmas.Slice.Zip.{length-zip}}
use Rattle.std.proofs.lemmas.Option.{none-some, same_Some, slice_get-get_or, slice_get-map, slice_get_past}
use Rattle.pact_paths.specs.{Weights.{token_weight, token_weights, product, product_over, weight, is_alive, exact_tokens}, Asked.{only_step, asked}}
use Rattle.pact_paths.specs.Paths.{Token, named, indexed, any, Step, key, item, Location}

-- ---- no step

token_weights-root : (ts : List Token) → token_weights ts [] ≡ []
token_weights-root [] = refl
token_weights-root (t ∷ ts) = refl

-- every path is alive at the root, before any step
pub is_alive-root : (ts : List Token) → is_alive ts [] ≡ true
is_alive-root ts = ap (λ ws. ltb 0 (product ws)) (token_weights-root ts)

-- at the root no token of a path equals a step: there is none
pub exact_tokens-root : (ts : List Token) → exact_tokens ts [] ≡ 0
exact_tokens-root ts = ap (λ ws. length (filter (λ w. eqb w 2) ws)) (token_weights-root ts)

-- ---- one step more

token_weights-past_end : (ts : List Token) (at : Location) (s : Step) → length ts ≤ length at → token_weights ts (at ++ s ∷ []) ≡ token_weights ts at
token_weights-past_end [] at s h = refl
token_weights-past_end (t ∷ ts) [] s h = absurd (omega (arith, h))
token_weights-past_end (t ∷ ts) (l ∷ at) s h = ap (λ ws. token_weight t l ∷ ws) (token_weights-past_end ts at s (omega (arith, h)))

token_weights-step : (ts : List Token) (at : Location) (s : Step) (w : ℕ) → slice_get (map (λ t. token_weight t s) ts) (length at) ≡ Some w → token_weights ts (at ++ s ∷ []) ≡ token_weights ts at ++ w ∷ []
token_weights-step [] at s w e = absurd (none-some w e)
token_weights-step (t ∷ []) [] s w e = ap (λ v. v ∷ []) (same_Some (token_weight t s) w e)
token_weights-step (t ∷ u ∷ ts) [] s w e = ap (λ v. v ∷ []) (same_Some (token_weight t s) w e)
token_weights-step (t ∷ ts) (l ∷ at) s w e = ap (λ ws. token_weight t l ∷ ws) (token_weights-step ts at s w e)

-- a path that ends before the last step isn't touched by it
pub is_alive-past_end : (ts : List Token) (at : Location) (s : Step) → length ts ≤ length at → is_alive ts (at ++ s ∷ []) ≡ is_alive ts at
is_alive-past_end ts at s h = ap (λ ws. ltb 0 (product ws)) (token_weights-past_end ts at s h)

-- a step after the end of a path leaves the number of its exact tokens as it was
pub exact_tokens-past_end : (ts : List Token) (at : Location) (s : Step) → length ts ≤ length at → exact_tokens ts (at ++ s ∷ []) ≡ exact_tokens ts at
exact_tokens-past_end ts at s h = ap (λ ws. length (filter (λ w. eqb w 2) ws)) (token_weights-past_end ts at s h)

product-push : (ws : List ℕ) (w : ℕ) → product (ws ++ w ∷ []) ≡ product ws * w
product-push [] w = mul-one w ∙ sym (one-mul w)
product-push (v ∷ ws) w = ap (λ n. v * n) (product-push ws w) ∙ sym (mul_assoc v (product ws) w)

pub product_over-step : (ts : List Token) (at : Location) (s : Step) (w : ℕ) → slice_get (map (λ t. token_weight t s) ts) (length at) ≡ Some w → product_over ts (at ++ s ∷ []) ≡ product_over ts at * w
product_over-step ts at s w e = ap product (token_weights-step ts at s w e) ∙ product-push (token_weights ts at) w

ltb-product_positive : (p w : ℕ) → ltb 0 (p * w) ≡ (ltb 0 p && ltb 0 w)
ltb-product_positive p w = by_zero (eq-zero-or-pos p) (eq-zero-or-pos w) where
  by_zero : (p ≡ zero) ⊎ (zero < p) → (w ≡ zero) ⊎ (zero < w) → ltb 0 (p * w) ≡ (ltb 0 p && ltb 0 w)
  by_zero (inl e) k = ap (λ n. ltb 0 n) (ap (λ n. n * w) e ∙ zero-mul w) ∙ sym (ap (λ n. ltb 0 n && ltb 0 w) e)
  by_zero (inr h) (inl e) = ap (λ n. ltb 0 n) (ap (λ n. p * n) e ∙ mul-zero p) ∙ sym (and_right (ltb 0 p) (ltb 0 w) (ap (λ n. ltb 0 n) e))
  by_zero (inr h) (inr k) = lt-ltb 0 (p * w) (mul-pos h k) ∙ sym (ap (λ b. b && ltb 0 w) (lt-ltb 0 p h) ∙ lt-ltb 0 w k)

-- another path stays alive if and only if its next token counts at the step
pub is_alive-step : (ts : List Token) (at : Location) (s : Step) (w : ℕ) → length at < length ts → slice_get (map (λ t. token_weight t s) ts) (length at) ≡ Some w
    → is_alive ts (at ++ s ∷ []) ≡ (is_alive ts at && ltb 0 w)
is_alive-step ts at s w h e = ap (λ n. ltb 0 n) (product_over-step ts at s w e) ∙ ltb-product_positive (product_over ts at) w

length-cond_single : (w : ℕ) (b : Bool) → length (cond b (w ∷ []) []) ≡ cond b 1 0
length-cond_single w true = refl
length-cond_single w false = refl

-- a path that reaches to the next step has one exact token more if its token there counts 2, and else as many
pub exact_tokens-step : (ts : List Token) (at : Location) (s : Step) (w : ℕ) → length at < length ts → slice_get (map (λ t. token_weight t s) ts) (length at) ≡ Some w
    → exact_tokens ts (at ++ s ∷ []) ≡ exact_tokens ts at + cond (eqb w 2) 1 0
exact_tokens-step ts at s w h e =
    ap (λ ws. length (filter (λ v. eqb v 2) ws)) (token_weights-step ts at s w e)
    ∙ ap length (filter-append (λ v. eqb v 2) (token_weights ts at) (w ∷ []))
    ∙ length-append (filter (λ v. eqb v 2) (token_weights ts at)) (filter (λ v. eqb v 2) (w ∷ []))
    ∙ ap (λ n. exact_tokens ts at + n) (length-cond_single w (eqb w 2))

-- a path has at most as many exact tokens as it has tokens
pub exact_tokens-le_length : (ts : List Token) (at : Location) → exact_tokens ts at ≤ length ts
exact_tokens-le_length ts at =
    let ws = token_weights ts at in
    let test = λ (w : ℕ). eqb w 2 in
    omega (arith, length-filter test ws, count_by-le-length test ws, length-map (zip ts at) (λ (p : Token × Step). token_weight p.0 p.1), length-zip ts at)

-- ---- the weight is a power of two, by the tokens that are exact

-- what a token can count
data Counts : ℕ → Type 0 where
  none : Counts 0
  one : Counts 1
  two : Counts 2

Counts-cond : (b : Bool) → Counts (cond b 2 0)
Counts-cond true = two
Counts-cond false = none

Counts-token_weight : (t : Token) (s : Step) → Counts (token_weight t s)
Counts-token_weight (named n) (key k) = Counts-cond (bytes_eq n k)
Counts-token_weight (named n) (item j) = none
Counts-token_weight (indexed i) (key k) = none
Counts-token_weight (indexed i) (item j) = Counts-cond (eqb i j)
Counts-token_weight any (key k) = one
Counts-token_weight any (item j) = one

pow-double : (n : ℕ) → 2 * 2 ^ n ≡ 2 ^ suc n
pow-double n = mul_comm 2 (2 ^ n) ∙ sym (pow-suc 2 n)

product-power_cons : (w : ℕ) (ws : List ℕ) → Counts w → (product ws ≡ 0) ⊎ (product ws ≡ 2 ^ length (filter (λ v. eqb v 2) ws))
    → (w * product ws ≡ 0) ⊎ (w * product ws ≡ 2 ^ length (filter (λ v. eqb v 2) (w ∷ ws)))
product-power_cons w ws none h = inl (zero-mul (product ws))
product-power_cons w ws one (inl h) = inl (one-mul (product ws) ∙ h)
product-power_cons w ws one (inr h) = inr (one-mul (product ws) ∙ h)
product-power_cons w ws two (inl h) = inl (omega (arith, h))
product-power_cons w ws two (inr h) = inr (ap (λ m. 2 * m) h ∙ pow-double (length (filter (λ v. eqb v 2) ws)))

product-power_of_two : (ps : List (Token × Step)) → let ws = map (λ (p : Token × Step). token_weight p.0 p.1) ps in (product ws ≡ 0) ⊎ (product ws ≡ 2 ^ length (filter (λ v. eqb v 2) ws))
product-power_of_two [] = inr refl
product-power_of_two (p ∷ ps) = product-power_cons (token_weight p.0 p.1) (map (λ (p : Token × Step). token_weight p.0 p.1) ps) (Counts-token_weight p.0 p.1) (product-power_of_two ps)

-- a token that counts nothing makes the product 0, and else it is a power of two
pub product_over-power_of_two : (ts : List Token) (at : Location) → (product_over ts at ≡ 0) ⊎ (product_over ts at ≡ 2 ^ exact_tokens ts at)
product_over-power_of_two ts at = product-power_of_two (zip ts at)

-- a path that is alive and no longer than the location weighs 2 to the power of one more than its exact tokens
pub weight-alive : (ts : List Token) (at : Location) → length ts ≤ length at → is_alive ts at ≡ true → weight ts at ≡ 2 ^ (1 + exact_tokens ts at)
weight-alive ts at h e = by_power (product_over-power_of_two ts at) where
  by_power : (product_over ts at ≡ 0) ⊎ (product_over ts at ≡ 2 ^ exact_tokens ts at) → weight ts at ≡ 2 ^ (1 + exact_tokens ts at)
  by_power (inl k) = absurd (true≢false (sym e ∙ ap (λ n. ltb 0 n) k))
  by_power (inr k) =
      let up : suc (exact_tokens ts at) ≡ 1 + exact_tokens ts at = omega arith in
      ap (λ b. cond b (2 * product_over ts at) 0) (le-leb (length ts) (length at) h) ∙ ap (λ n. 2 * n) k ∙ pow-double (exact_tokens ts at) ∙ ap (λ n. 2 ^ n) up

-- a path that a step of the location rules out weighs nothing there
pub weight-dead : (ts : List Token) (at : Location) → is_alive ts at ≡ false → weight ts at ≡ 0
weight-dead ts at e = nothing (leb (length ts) (length at)) where
  nothing : (b : Bool) → cond b (2 * product_over ts at) 0 ≡ 0
  nothing true =
      let h : product_over ts at ≤ 0 = ltb-false 0 (product_over ts at) e in
      omega (arith, h)
  nothing false = refl

-- ---- what a path asks of the next step

cond-two_positive : (b : Bool) → ltb 0 (cond b 2 0) ≡ true → b ≡ true
cond-two_positive true h = refl
cond-two_positive false h = absurd (true≢false (sym h))

only_step-of_weight : (t : Token) (s : Step) → ltb 0 (token_weight t s) ≡ true → (only_step t ≡ None) ⊎ (only_step t ≡ Some s)
only_step-of_weight (named n) (key k) h = inr (ap (λ m. Some (key m)) ((bytes_eq-Decides n k).0 (cond-two_positive (bytes_eq n k) h)))
only_step-of_weight (named n) (item j) h = absurd (true≢false (sym h))
only_step-of_weight (indexed i) (key k) h = absurd (true≢false (sym h))
only_step-of_weight (indexed i) (item j) h = let same : i ≡ j = eqb-true i j (cond-two_positive (eqb i j) h) in inr (ap (λ m. Some (item m)) same)
only_step-of_weight any s h = inl refl

-- a path asks nothing from its end on
pub asked-past_end : (ts : List Token) (n : ℕ) → length ts ≤ n → asked ts n ≡ None
asked-past_end ts n h = ap (option_and_then only_step) (slice_get_past ts n h)

-- a path that lives on asks nothing of the step, or this very step
pub asked-of_alive : (ts : List Token) (at : Location) (s : Step) → is_alive ts (at ++ s ∷ []) ≡ true → (asked ts (length at) ≡ None) ⊎ (asked ts (length at) ≡ Some s)
asked-of_alive ts at s h =
    ⊎_elim (λ more.
    let t = get_or ts (length at) any in
    let there : slice_get ts (length at) ≡ Some t = slice_get-get_or ts (length at) any more in
    let counts : slice_get (map (λ t. token_weight t s) ts) (length at) ≡ Some (token_weight t s) = slice_get-map (λ t. token_weight t s) ts (length at) ∙ ap (option_map (λ t. token_weight t s)) there in
    let lives = (and_parts (is_alive ts at) (ltb 0 (token_weight t s)) (sym (is_alive-step ts at s (token_weight t s) more counts) ∙ h)).1 in
    let here : asked ts (length at) ≡ only_step t = ap (option_and_then only_step) there in
    ⊎_elim (λ none. inl (here ∙ none)) (λ this. inr (here ∙ this)) (only_step-of_weight t s lives))
    (λ past. inl (asked-past_end ts (length at) past)) (cases_lt (length at) (length ts))
