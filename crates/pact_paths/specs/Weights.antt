-- How much a path counts at a location: the weights of the Pact Specification, version 2, which version 3 keeps.
use Rattle.std.specs.Prelude.{ℕ, ◌*◌, List, [], ◌∷◌, map, length, bytes_eq, nat_le, nat_lt, Bool, ◌==◌, filter, if◌then◌else◌}
use Rattle.std.specs.List.{zip}
use Rattle.pact_paths.specs.Paths.{Token, named, indexed, any, Step, key, item, Location}

-- a name that equals a key, or an index that equals an index, counts 2; Any counts 1; all else counts 0
abbrev pub token_weight : Token → Step → ℕ
token_weight (named n) (key k) = if bytes_eq n k then 2 else 0
token_weight (indexed i) (item j) = if i == j then 2 else 0
token_weight any step = 1
token_weight (named n) (item j) = 0
token_weight (indexed i) (key k) = 0

-- each token's, with the step of the same index, as far as both lists go
abbrev pub token_weights : List Token → Location → List ℕ
token_weights tokens steps = map (λ p. token_weight p.0 p.1) (zip tokens steps)

abbrev pub product : List ℕ → ℕ
product [] = 1
product (n ∷ ns) = n * product ns

abbrev pub product_over : List Token → Location → ℕ
product_over tokens steps = product (token_weights tokens steps)

-- 0 if the path is longer than the location, else 2 for the root times the product
abbrev pub weight : List Token → Location → ℕ
weight tokens steps = if nat_le (length tokens) (length steps) then 2 * product_over tokens steps else 0

-- no step of the location rules the path out
abbrev pub is_alive : List Token → Location → Bool
is_alive tokens steps = nat_lt 0 (product_over tokens steps)

-- how many tokens equal the step of the same index
abbrev pub exact_tokens : List Token → Location → ℕ
exact_tokens tokens steps = length (filter (λ w. w == 2) (token_weights tokens steps))
