-- Reading paths, token by token.
use Rattle.std.specs.{List.{list_all, position_or_len}, Char.{is_ascii_digit}, Str.{all_ascii_digits}}
use Rattle.std.proofs.Common.{◌≡◌, ◌≢◌, ℕ, zero, suc, ◌-◌, ◌<◌, List, [], ◌∷◌, ◌++◌, length, Option, Some, None, option_map, Result, Ok, Err, MatchOption, Bor, eq-eqb, ne_eqb, refl, sym, ap, ◌∙◌, arith, append_assoc, Bool, true, false, not, ◌&&◌, cond, ltb, ltb-false, ◌≤◌, unwrap_or}
use Rattle.std.proofs.{lemmas.List.Sums.{prefix_len-le-length}, lemmas.List.{append-nil}}
use Rattle.pact_paths.specs.{Paths.{Token}, Outcome.{checked}, PathReading.{following, token_in, tokens_in, first_of_more, with_front, with_all}}
use Rattle.pact_paths.specs.{declared.path_reader.PathFault.{PathFault}, declared.path_reader.PathFault.TheVariants.{BadToken, TooManyTokens}}

pub after_is : (c : ℕ) (bs : List ℕ) (r : Option (Bor (List ℕ))) → MatchOption r ((rest : List ℕ) → bs ≢ c ∷ rest) (λ x. bs ≡ c ∷ x.now) → option_map (λ (x : Bor (List ℕ)). x.now) r ≡ following c bs
after_is c bs (Some x) h = sym (ap (following c) h ∙ rw (eq-eqb c c refl) refl)
after_is c [] None h = refl
after_is c (b ∷ bs) None h = sym (rw (ne_eqb b c (λ e. h bs (ap (λ a. a ∷ bs) e))) refl)

pub tokens_in-end : (total n : ℕ) (t : List ℕ) → length t ≡ 0 → tokens_in total n t ≡ Ok []
unfolding tokens_in
tokens_in-end total zero [] e = refl
tokens_in-end total (suc n) [] e = refl
tokens_in-end total n (b ∷ t) e = absurd (omega (arith, e))

pub tokens_in-too_many : (total : ℕ) (t : List ℕ) → 0 < length t → tokens_in total 0 t ≡ Err TooManyTokens
unfolding tokens_in
tokens_in-too_many total [] h = absurd (omega arith)
tokens_in-too_many total (b ∷ t) h = refl

pub tokens_in-bad_token : (total n : ℕ) (t : List ℕ) → 0 < length t → 0 < n → token_in t ≡ None → tokens_in total n t ≡ Err (BadToken (total - length t))
unfolding tokens_in
tokens_in-bad_token total n [] h p e = absurd (omega arith)
tokens_in-bad_token total zero (b ∷ t) h p e = absurd (omega arith)
tokens_in-bad_token total (suc n) (b ∷ t) h p e = ap (first_of_more (tokens_in total n) (BadToken (total - length (b ∷ t)))) e

pub tokens_in-more : (total n : ℕ) (t : List ℕ) (x : Token) (rest : List ℕ) → 0 < length t → 0 < n → token_in t ≡ Some (x, rest) → tokens_in total n t ≡ with_front x (tokens_in total (n - 1) rest)
unfolding tokens_in
tokens_in-more total n [] x rest h p e = absurd (omega arith)
tokens_in-more total zero (b ∷ t) x rest h p e = absurd (omega arith)
tokens_in-more total (suc n) (b ∷ t) x rest h p e =
    let down : suc n - 1 ≡ n = omega arith in
    ap (first_of_more (tokens_in total n) (BadToken (total - length (b ∷ t)))) e ∙ ap (λ k. with_front x (tokens_in total k rest)) (sym down)

pub with_all-front : (front : List Token) (x : Token) (r : Result (List Token) PathFault) → with_all front (with_front x r) ≡ with_all (front ++ x ∷ []) r
with_all-front front x (Ok ts) = ap (λ us. Ok us) (sym (append_assoc front (x ∷ []) ts))
with_all-front front x (Err e) = refl

pub with_all-none : (front : List Token) → with_all front (Ok []) ≡ Ok front
with_all-none front = ap (λ ts. Ok ts) (append-nil front)

-- a token in front changes no fault
pub checked-with_front : (x : Token) (r : Result (List Token) PathFault) → checked (with_front x r) ≡ checked r
checked-with_front x (Ok ts) = refl
checked-with_front x (Err e) = refl

pub with_all-empty : (r : Result (List Token) PathFault) → with_all [] r ≡ r
with_all-empty (Ok ts) = refl
with_all-empty (Err e) = refl

-- ---- tests over a text

pub list_all-ascii_digits : (ds : List ℕ) → list_all is_ascii_digit ds ≡ all_ascii_digits ds
list_all-ascii_digits [] = refl
list_all-ascii_digits (d ∷ ds) = ap (λ b. is_ascii_digit d && b) (list_all-ascii_digits ds)

unwrap_or-position : (k n : ℕ) (v : Bool) → ltb k n ≡ v → k ≤ n → unwrap_or (cond v (Some k) None) n ≡ k
unwrap_or-position k n true e h = refl
unwrap_or-position k n false e h = omega (arith, ltb-false k n e)

pub position_or_len-unwrap_or : (p : ℕ → Bool) (t : List ℕ) → unwrap_or (cond (ltb (position_or_len p t) (length t)) (Some (position_or_len p t)) None) (length t) ≡ position_or_len p t
position_or_len-unwrap_or p t = unwrap_or-position (position_or_len p t) (length t) (ltb (position_or_len p t) (length t)) refl (prefix_len-le-length (λ b. not (p b)) t)
