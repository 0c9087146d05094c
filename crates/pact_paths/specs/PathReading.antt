-- For private clauses: the reading of a text, computed from left to right as the code does it; each token takes what it
-- can. It is the one reading of `Readings`, which states the meaning.
use Rattle.std.specs.Prelude.{ℕ, zero, suc, ◌-◌, List, [], ◌∷◌, ◌++◌, length, take, drop, ◌==◌, nat_lt, Option, Some, None, option_map, option_and_then, Result, Ok, Err, if◌then◌else◌}
use Rattle.std.specs.Option.{option_or}
use Rattle.std.specs.List.{position_or_len, before_first, after_first}
use Rattle.std.specs.Str.Parse.{digits_value}
use Rattle.pact_paths.specs.Paths.{Token, named, indexed, any}
use Rattle.pact_paths.specs.Spelling.{is_special, is_index}
use Rattle.pact_paths.specs.declared.path_reader.PathFault.{PathFault}
use Rattle.pact_paths.specs.declared.path_reader.PathFault.TheVariants.{NoRoot, BadToken, TooManyTokens}

-- a token, and the text that follows it
abbrev pub Read : Type 0
Read = Option (Token × List ℕ)

-- the text after this byte, if it begins with it
abbrev pub following : ℕ → List ℕ → Option (List ℕ)
following c [] = None
following c (b ∷ bs) = if b == c then Some bs else None

-- the bytes before and after the first such byte
abbrev pub cut : ℕ → List ℕ → Option (List ℕ × List ℕ)
cut c bs =
    if nat_lt (position_or_len (λ b. b == c) bs) (length bs)
    then Some (before_first (λ b. b == c) bs, after_first (λ b. b == c) bs)
    else None

-- `*`
abbrev pub star : List ℕ → Read
star t = option_map (λ rest. (any, rest)) (following 42 t)

-- a name without quotes
abbrev pub plain : List ℕ → Read
plain t =
    let n = position_or_len is_special t in
    if nat_lt 0 n then Some (named (take n t), drop n t) else None

-- a name in quotes
abbrev pub quoted : List ℕ → Read
quoted t =
    option_and_then (λ parts. option_map (λ rest. (named parts.0, rest)) (following 93 parts.1))
    (option_and_then (cut 39) (following 39 t))

abbrev pub index : List ℕ → Read
index t =
    option_and_then (λ parts. if is_index parts.0 then Some (indexed (digits_value 10 parts.0), parts.1) else None)
    (cut 93 t)

abbrev pub closed_star : List ℕ → Read
closed_star t = option_map (λ rest. (any, rest)) (option_and_then (following 93) (following 42 t))

-- a token's text after its dot, and after its bracket
abbrev pub dotted : List ℕ → Read
dotted t = option_or (star t) (plain t)

abbrev pub bracketed : List ℕ → Read
bracketed t = option_or (closed_star t) (option_or (quoted t) (index t))

abbrev pub token_in : List ℕ → Read
token_in t = option_or (option_and_then dotted (following 46 t)) (option_and_then bracketed (following 91 t))

abbrev pub with_front : Token → Result (List Token) PathFault → Result (List Token) PathFault
with_front t (Ok ts) = Ok (t ∷ ts)
with_front t (Err e) = Err e

-- a token in front of the tokens that `more` reads after it, or the fault
abbrev pub first_of_more : (List ℕ → Result (List Token) PathFault) → PathFault → Read → Result (List Token) PathFault
first_of_more more fault None = Err fault
first_of_more more fault (Some read) = with_front read.0 (more read.1)

-- The tokens of what is left of a text of so many bytes, at most so many: a fault has the offset where reading stops.
unfoldable pub tokens_in : ℕ → ℕ → List ℕ → Result (List Token) PathFault
tokens_in total zero [] = Ok []
tokens_in total zero (b ∷ t) = Err TooManyTokens
tokens_in total (suc n) [] = Ok []
tokens_in total (suc n) (b ∷ t) =
    first_of_more (tokens_in total n) (BadToken (total - length (b ∷ t))) (token_in (b ∷ t))

-- what was read before, and what is still read
abbrev pub with_all : List Token → Result (List Token) PathFault → Result (List Token) PathFault
with_all front (Ok ts) = Ok (front ++ ts)
with_all front (Err e) = Err e

abbrev pub from_root : ℕ → Option (List ℕ) → Result (List Token) PathFault
from_root total None = Err NoRoot
from_root total (Some rest) = tokens_in total 60 rest

abbrev pub path_in : List ℕ → Result (List Token) PathFault
path_in text = from_root (length text) (following 36 text)

abbrev pub path_or_none : Result (List Token) PathFault → Option (List Token)
path_or_none (Ok tokens) = Some tokens
path_or_none (Err fault) = None

-- the path that a text is, or none
abbrev pub computed_path : List ℕ → Option (List Token)
computed_path text = path_or_none (path_in text)
