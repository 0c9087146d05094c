-- How path expressions are written: each token's spellings, and the canonical one.
--
-- The root `$` and the forms `.name`, `['name']`, `[n]`, `.*` and `[*]` are those of the Pact Specification, version
-- 3. Which characters a name may have, how many digits an index and how many tokens a path is this project's
-- own choice.
use Rattle.std.specs.Prelude.{◌≡◌, ◌≢◌, ◌⊎◌, ◌≤◌, ◌<◌, ◌^◌, ℕ, List, [], ◌∷◌, ◌++◌, length, codes, Bool, true, ◌==◌, ◌&&◌, not, nat_lt, nat_le, if◌then◌else◌, decimal}
use Rattle.std.specs.List.{list_any, list_all, flat_map, AllByRecursion}
use Rattle.std.specs.Str.{all_ascii_digits}
use Rattle.std.specs.Str.Parse.{digits_value}
use Rattle.pact_paths.specs.Paths.{Token, named, indexed, any}

-- a byte that no name without quotes has: . [ ] ' *
abbrev pub is_special : ℕ → Bool
is_special b = list_any (λ c. b == c) (codes ".[]'*")

-- a name that may follow a dot: one or more bytes, none of them special
abbrev pub is_plain : List ℕ → Bool
is_plain n = nat_lt 0 (length n) && list_all (λ b. not (is_special b)) n

-- a name that may be in quotes, the empty one too: no quote in it
abbrev pub IsQuotable : List ℕ → Type 0
IsQuotable n = AllByRecursion (λ b. b ≢ 39) n

-- one to nine ASCII digits
abbrev pub is_index : List ℕ → Bool
is_index ds = all_ascii_digits ds && (nat_lt 0 (length ds) && nat_le (length ds) 9)

-- the bytes are a spelling of the token:
--     .name       a name that may follow a dot
--     ['name']    a name that may be in quotes
--     [n]         the number that the digits write
--     .* or [*]   any key or index
abbrev pub IsSpelled : List ℕ → Token → Type 0
IsSpelled bytes (named n) =
    ((bytes ≡ codes "." ++ n) × (is_plain n ≡ true))
    ⊎ ((bytes ≡ codes "['" ++ n ++ codes "']") × IsQuotable n)
IsSpelled bytes (indexed i) =
    (ds : List ℕ) × (bytes ≡ codes "[" ++ ds ++ codes "]") × (is_index ds ≡ true) × (i ≡ digits_value 10 ds)
IsSpelled bytes any = (bytes ≡ codes ".*") ⊎ (bytes ≡ codes "[*]")

-- the bytes are spellings of the tokens, one after another
abbrev pub AreSpelled : List ℕ → List Token → Type 0
AreSpelled bytes [] = bytes ≡ []
AreSpelled bytes (t ∷ ts) =
    (front : List ℕ) × (rest : List ℕ) × (bytes ≡ front ++ rest) × IsSpelled front t × AreSpelled rest ts

-- the text is the root `$` and spellings of the tokens, of which there are at most 60
abbrev pub IsPathText : List ℕ → List Token → Type 0
IsPathText text tokens = (body : List ℕ) × (text ≡ codes "$" ++ body) × AreSpelled body tokens × (length tokens ≤ 60)

-- ---- the canonical spelling

abbrev pub name_text : List ℕ → List ℕ
name_text n = if is_plain n then codes "." ++ n else codes "['" ++ n ++ codes "']"

-- a name after a dot if it may follow one, else in quotes; an index without leading zeros; and `[*]`
abbrev pub token_text : Token → List ℕ
token_text (named n) = name_text n
token_text (indexed i) = codes "[" ++ decimal i ++ codes "]"
token_text any = codes "[*]"

abbrev pub path_text : List Token → List ℕ
path_text tokens = codes "$" ++ flat_map token_text tokens

-- what a token can hold: a name without quotes in it, and an index of at most nine digits
abbrev pub IsToken : Token → Type 0
IsToken (named n) = IsQuotable n
IsToken (indexed i) = i < 10 ^ 9
IsToken any = Unit {0}

abbrev pub IsPath : List Token → Type 0
IsPath tokens = (length tokens ≤ 60) × AllByRecursion IsToken tokens
