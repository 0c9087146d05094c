-- The token of a request (RFC 6750, section 2.1; what a token is, is this project's own choice).
use Rattle.std.specs.Prelude.{◌≡◌, ℕ, ◌==◌, List, [], ◌∷◌, take, drop, codes, if◌then◌else◌, Option, Some, None}
use Rattle.broker_names.specs.Name.{IsToken}
use Rattle.http_messages.specs.Fields.{same_name}

abbrev pub space : ℕ
space = 32

-- the bytes from the first that is no space
abbrev pub skip_spaces : List ℕ → List ℕ
skip_spaces [] = []
skip_spaces (b ∷ rest) = if b == space then skip_spaces rest else b ∷ rest

-- what follows one or more spaces
abbrev pub after_spaces : List ℕ → Option (List ℕ)
after_spaces [] = None
after_spaces (b ∷ rest) = if b == space then Some (skip_spaces rest) else None

-- what follows the scheme, which is compared without ASCII case
abbrev pub credentials : List ℕ → Option (List ℕ)
credentials value = if same_name (take 6 value) (codes "Bearer") then after_spaces (drop 6 value) else None

-- the credentials of exactly one field
abbrev pub only_credentials : List (List ℕ) → Option (List ℕ)
only_credentials [] = None
only_credentials (value ∷ []) = credentials value
only_credentials (value ∷ other ∷ values) = None

-- the token of the values of the fields named authorization, if they are one and its credentials are a token
abbrev pub IsTokenOf : List (List ℕ) → Option (List ℕ) → Type 0
IsTokenOf values (Some token) = (only_credentials values ≡ Some token) × IsToken token
IsTokenOf values None = (text : List ℕ) → only_credentials values ≡ Some text → ¬ (IsToken text)

-- there is a token in the values
abbrev pub HasTokenIn : List (List ℕ) → Type 0
HasTokenIn values = (token : List ℕ) × IsTokenOf values (Some token)
