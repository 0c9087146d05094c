-- A route's tokens take a path if and only if its pieces fit the path's segments.
use Rattle.std.specs.{List.{onto_first}, Str.{bytes_eq}}
use Rattle.std.proofs.Common.{◌≡◌, ℕ, List, [], ◌∷◌, ◌++◌, length, Bool, true, false, cond, refl, sym, ap, ◌∙◌, arith, nat_lt, ◌==◌, ltb, ◌||◌, ◌&&◌, not}
use Rattle.std.proofs.{lemmas.Bool.{and_parts, not-true}, lemmas.Bool.Decides.{nat_tests}}
use Rattle.http_routes.{specs.Routes.{segments, is_parameter, fits, all_fit}, proofs.WalkLemmas.{takes, is_nil, after_segment}}

-- the tokens of a piece
abbrev pub piece_tokens : List ℕ → List ℕ
piece_tokens piece = cond (is_parameter piece) (256 ∷ []) piece

-- the tokens of the pieces that follow one, each after a slash
abbrev pub tokens_after : List (List ℕ) → List ℕ
tokens_after [] = []
tokens_after (piece ∷ more) = 47 ∷ (piece_tokens piece ++ tokens_after more)

-- the tokens of a route
abbrev pub tokens : List (List ℕ) → List ℕ
tokens [] = []
tokens (piece ∷ more) = piece_tokens piece ++ tokens_after more

-- bytes without a slash
abbrev pub is_literal : List ℕ → Bool
is_literal [] = true
is_literal (x ∷ w) = (ltb x 256 && not (x == 47)) && is_literal w

-- each piece is a parameter, or bytes without a slash
abbrev pub are_pieces : List (List ℕ) → Bool
are_pieces [] = true
are_pieces (piece ∷ more) = (is_parameter piece || is_literal piece) && are_pieces more

-- a path's first segment, and the other ones
abbrev pub first_part : List ℕ → List ℕ
first_part [] = []
first_part (b ∷ path) = cond (b == 47) [] (b ∷ first_part path)

abbrev pub more_parts : List ℕ → List (List ℕ)
more_parts [] = []
more_parts (b ∷ path) = cond (b == 47) (segments path) (more_parts path)

pub segments-parts : (path : List ℕ) → segments path ≡ first_part path ∷ more_parts path
segments-parts [] = refl
segments-parts (b ∷ path) = by (b == 47) (segments-parts path)
  where
    by : (v : Bool) → segments path ≡ first_part path ∷ more_parts path
        → cond v ([] ∷ segments path) (onto_first b (segments path)) ≡ cond v [] (b ∷ first_part path) ∷ cond v (segments path) (more_parts path)
    by true ih = refl
    by false ih = ap (λ parts. onto_first b parts) ih

and-assoc : (a b c : Bool) → (a && (b && c)) ≡ ((a && b) && c)
and-assoc true b c = refl
and-assoc false b c = refl

module _ (more : List (List ℕ)) (following : (path : List ℕ) → takes (tokens_after more) (after_segment path) ≡ all_fit more (more_parts path)) where
  -- nothing is left of a segment
  takes-end : (path : List ℕ) → takes (tokens_after more) path ≡ (bytes_eq [] (first_part path) && all_fit more (more_parts path))
  takes-end [] = following []
  takes-end (b ∷ path) = by (b == 47) refl (following (b ∷ path))
    where
      none : (more : List (List ℕ)) → (b == 47) ≡ false → takes (tokens_after more) (b ∷ path) ≡ false
      none [] e = refl
      none (piece ∷ more) e = let d : (47 == b) ≡ false = grind (arith, nat_tests) in rw d refl

      by : (v : Bool) → (b == 47) ≡ v → takes (tokens_after more) (cond v (b ∷ path) (after_segment path)) ≡ all_fit more (cond v (segments path) (more_parts path))
          → takes (tokens_after more) (b ∷ path) ≡ (bytes_eq [] (cond v [] (b ∷ first_part path)) && all_fit more (cond v (segments path) (more_parts path)))
      by true e h = h
      by false e h = none more e

  -- the rest of a piece that is no parameter
  takes-literal : (w path : List ℕ) → is_literal w ≡ true → takes (w ++ tokens_after more) path ≡ (bytes_eq w (first_part path) && all_fit more (more_parts path))
  takes-literal [] path l = takes-end path
  takes-literal (x ∷ w) [] l = refl
  takes-literal (x ∷ w) (b ∷ path) l = by (b == 47) refl (takes-literal w path (and_parts _ (is_literal w) l).1)
    where
      ends : (v : Bool) → (x == b) ≡ v → (b == 47) ≡ true → (v && takes (w ++ tokens_after more) path) ≡ false
      ends true e d =
          let n = not-true (x == 47) (and_parts (ltb x 256) _ (and_parts _ (is_literal w) l).0).1 in
          grind (arith, nat_tests)
      ends false e d = refl

      token : (x == 256) ≡ false
      token = let n = (and_parts (ltb x 256) _ (and_parts _ (is_literal w) l).0).0 in grind (arith, nat_tests)

      by : (v : Bool) → (b == 47) ≡ v → takes (w ++ tokens_after more) path ≡ (bytes_eq w (first_part path) && all_fit more (more_parts path))
          → takes (x ∷ (w ++ tokens_after more)) (b ∷ path) ≡ (bytes_eq (x ∷ w) (cond v [] (b ∷ first_part path)) && all_fit more (cond v (segments path) (more_parts path)))
      by true e h = rw token (ends (x == b) refl e)
      by false e h = rw token (ap (λ v. (x == b) && v) h ∙ and-assoc (x == b) (bytes_eq w (first_part path)) (all_fit more (more_parts path)))

  -- a parameter
  takes-parameter : (path : List ℕ) → takes (256 ∷ tokens_after more) path ≡ (nat_lt 0 (length (first_part path)) && all_fit more (more_parts path))
  takes-parameter [] = refl
  takes-parameter (b ∷ path) = by (b == 47)
    where
      some : nat_lt 0 (length (b ∷ first_part path)) ≡ true
      some = grind (arith, nat_tests)

      by : (v : Bool) → (not v && takes (tokens_after more) (after_segment path)) ≡ (nat_lt 0 (length (cond v [] (b ∷ first_part path))) && all_fit more (cond v (segments path) (more_parts path)))
      by true = refl
      by false = following path ∙ sym (ap (λ v. v && all_fit more (more_parts path)) some)

  -- a piece, and what follows it
  takes-piece : (piece path : List ℕ) → (is_parameter piece || is_literal piece) ≡ true → takes (piece_tokens piece ++ tokens_after more) path ≡ (fits piece (first_part path) && all_fit more (more_parts path))
  unfolding fits
  takes-piece piece path e = by (is_parameter piece) e
    where
      by : (v : Bool) → (v || is_literal piece) ≡ true → takes (cond v (256 ∷ []) piece ++ tokens_after more) path ≡ (cond v (nat_lt 0 (length (first_part path))) (bytes_eq piece (first_part path)) && all_fit more (more_parts path))
      by true e = takes-parameter path
      by false e = takes-literal piece path e

-- what follows a segment
takes-following : (more : List (List ℕ)) → are_pieces more ≡ true → (path : List ℕ) → takes (tokens_after more) (after_segment path) ≡ all_fit more (more_parts path)
takes-following [] good [] = refl
takes-following [] good (b ∷ path) = by (b == 47) (takes-following [] good path)
  where
    by : (v : Bool) → is_nil (after_segment path) ≡ all_fit [] (more_parts path) → is_nil (cond v (b ∷ path) (after_segment path)) ≡ all_fit [] (cond v (segments path) (more_parts path))
    by true ih = sym (ap (λ parts. all_fit [] parts) (segments-parts path))
    by false ih = ih
takes-following (piece ∷ more) good [] = refl
takes-following (piece ∷ more) good (b ∷ path) =
    let both = and_parts _ (are_pieces more) good in
    by (b == 47) refl (takes-piece more (takes-following more both.1) piece path both.0) (takes-following (piece ∷ more) good path)
  where
    by : (v : Bool) → (b == 47) ≡ v
        → takes (piece_tokens piece ++ tokens_after more) path ≡ (fits piece (first_part path) && all_fit more (more_parts path))
        → takes (tokens_after (piece ∷ more)) (after_segment path) ≡ all_fit (piece ∷ more) (more_parts path)
        → takes (tokens_after (piece ∷ more)) (cond v (b ∷ path) (after_segment path)) ≡ all_fit (piece ∷ more) (cond v (segments path) (more_parts path))
    by true e here ih =
        let d : (47 == b) ≡ true = grind (arith, nat_tests) in
        rw d (here ∙ sym (ap (λ parts. all_fit (piece ∷ more) parts) (segments-parts path)))
    by false e here ih = ih

-- a route's tokens and its pieces
pub takes-tokens : (piece : List ℕ) (more : List (List ℕ)) (path : List ℕ) → are_pieces (piece ∷ more) ≡ true → takes (tokens (piece ∷ more)) path ≡ all_fit (piece ∷ more) (segments path)
takes-tokens piece more path good =
    takes-piece more (takes-following more (and_parts _ (are_pieces more) good).1) piece path (and_parts _ (are_pieces more) good).0
    ∙ sym (ap (λ parts. all_fit (piece ∷ more) parts) (segments-parts path))
