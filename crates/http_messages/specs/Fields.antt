-- The fields of a head by their names.
use Rattle.std.specs.Prelude.{◌≡◌, ℕ, ◌≤◌, ◌&&◌, Bool, List, [], ◌∷◌, length, map, bytes_eq, filter, nat_lt, nat_le}
use Rattle.std.specs.List.{list_all}
use Rattle.std.specs.Char.{to_ascii_lowercase, is_ascii_digit}
use Rattle.http_messages.specs.declared.fields.Field.{Field}
use Rattle.http_messages.specs.declared.fields.Field.TheVariants.{Absent, Once, Repeated}

-- the same name, without ASCII case
unfoldable pub same_name : List ℕ → List ℕ → Bool
same_name a b = bytes_eq (map to_ascii_lowercase a) (map to_ascii_lowercase b)

-- the values of the fields with this name, in order
abbrev pub values_named : List ℕ → List (List ℕ × List ℕ) → List (List ℕ)
values_named name fields = map (λ f. f.1) (filter (λ f. same_name f.0 name) fields)

-- no such field, one with this value, or several
abbrev pub IsField : List (List ℕ) → Field → Type 0
IsField values Absent = values ≡ []
IsField values (Once value) = values ≡ value.now ∷ []
IsField values Repeated = 2 ≤ length values

-- 1 to 10 digits
abbrev pub is_short_number : List ℕ → Bool
is_short_number text = nat_lt 0 (length text) && nat_le (length text) 10 && list_all is_ascii_digit text
