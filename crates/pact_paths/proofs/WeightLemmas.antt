-- The product of a weight, token by token.
use Rattle.std.proofs.Common.{◌≡◌, ℕ, ◌+◌, ◌*◌, ◌^◌, ◌<◌, ◌≤◌, List, map, length, get_or, slice_get, option_map, Some, add-one, lit<, refl, sym, ap, ◌∙◌, arith}
use Rattle.std.proofs.{lemmas.Option.{slice_get-map, slice_get_read}, Math.Nat.{mul-le-mul_left, pow-le-pow_right}, lemmas.List.{length-map}}
use Rattle.pact_paths.specs.{Paths.{Token as PathToken, Step as PathStep}, Weights.{token_weight, product_over}, Locations.{step_view}, TokenView.{token_view}}
use Rattle.pact_paths.specs.{declared.path.Step.{Step}, declared.path.Token.{Token}}

abbrev pub of_parts : List Token → List Step → ℕ
of_parts ts ls = product_over (map token_view ts) (map step_view ls)

pub pow-mul_le : (p w k : ℕ) → p ≤ 2 ^ k → w ≤ 2 → p * w ≤ 2 ^ (k + 1)
pow-mul_le p w k a b =
    let up : p * w ≤ p * 2 = mul-le-mul_left p b in
    rw add-one (omega arith)

pub pow-within_60 : (k : ℕ) → k ≤ 60 → 2 ^ k ≤ 2 ^ 60
pow-within_60 k h = pow-le-pow_right {n = 2} (lit< tt) {i = k} {j = 60} h

-- the weight of the token at a index of a path
pub token_weight-slice_get : (ts : List Token) (tokens : List PathToken) (index : ℕ) (t : Token) (s : PathStep) (n : ℕ) → tokens ≡ map token_view ts → index < length tokens → t ≡ get_or ts index t → n ≡ token_weight (token_view t) s
    → slice_get (map (λ u. token_weight u s) tokens) index ≡ Some n
token_weight-slice_get ts tokens index t s n view within read e =
    let weigh = λ (u : PathToken). token_weight u s in
    let inside : index < length ts = omega (arith, ap length view, length-map ts token_view) in
    ap (λ us. slice_get (map weigh us) index) view ∙ slice_get-map weigh (map token_view ts) index ∙ ap (option_map weigh) (slice_get-map token_view ts index ∙ ap (option_map token_view) (slice_get_read ts (length ts) index t refl inside read))
    ∙ ap (λ m. Some m) (sym e)
