-- When a reply's header has the expected value, if no rule is for that header (this project's own choice): spaces
-- and tabs at both ends and after commas don't count; and if a media type is expected without parameters, those
-- of the reply and the case of letters don't count either.
use Rattle.std.specs.Prelude.{◌≡◌, ◌==◌, ◌||◌, ◌&&◌, ℕ, Bool, not, List, [], ◌∷◌, map, if◌then◌else◌, bytes_eq, codes}
use Rattle.std.specs.List.{list_any}
use mathlib.Core.List.{reverse}
use Rattle.std.specs.Str.{str_to_ascii_lowercase}

-- a space or a tab
abbrev pub is_blank : ℕ → Bool
is_blank b = b == 32 || b == 9

-- without the blanks in front
abbrev pub without_front : List ℕ → List ℕ
without_front [] = []
without_front (b ∷ bs) = if is_blank b then without_front bs else b ∷ bs

-- without the blanks at the end
abbrev pub without_end : List ℕ → List ℕ
without_end bs = reverse (without_front (reverse bs))

-- a byte more in front of the first part
abbrev pub in_front : ℕ → List (List ℕ) → List (List ℕ)
in_front b [] = (b ∷ []) ∷ []
in_front b (part ∷ parts) = (b ∷ part) ∷ parts

-- the parts between the commas
abbrev pub parts_between : List ℕ → List (List ℕ)
parts_between [] = [] ∷ []
parts_between (b ∷ bs) = if b == 44 then [] ∷ parts_between bs else in_front b (parts_between bs)

-- what counts of a value: its parts between commas, each without the blanks in front, and none at the end of the whole
abbrev pub counting_parts : List ℕ → List (List ℕ)
counting_parts value = map without_front (parts_between (without_end value))

-- what is before the first semicolon
abbrev pub before_semicolon : List ℕ → List ℕ
before_semicolon [] = []
before_semicolon (b ∷ bs) = if b == 59 then [] else b ∷ before_semicolon bs

-- a media type that is expected without parameters, in a header whose name is in lower case
abbrev pub is_plain_type : List ℕ → List ℕ → Bool
is_plain_type name expected = bytes_eq name (codes "content-type") && not (list_any (λ b. b == 59) expected)

-- what counts of a value under the name, which is in lower case, if this one is expected
abbrev pub counted : List ℕ → List ℕ → List ℕ → List (List ℕ)
counted name expected value =
    counting_parts (if is_plain_type name expected then before_semicolon (str_to_ascii_lowercase value) else value)

-- what was sent is the expected value: what counts is the same
abbrev pub HasValue : List ℕ → List ℕ → List ℕ → Type 0
HasValue name expected sent = counted name expected expected ≡ counted name expected sent
