-- Names in a query, which is read as a form (the URL standard's application/x-www-form-urlencoded).
use Rattle.std.specs.Prelude.{◌≡◌, ℕ, ◌≤◌, List, [], ◌∷◌, length, map, filter, bytes_eq, Option, None, ok_or}
use Rattle.std.specs.String.{string_bytes}
use Rattle.std.specs.Str.Lossy.{utf8_lossy}
use Rattle.form_urlencoded.specs.Form.{raw_pairs, decode}
use Rattle.broker_names.specs.Name.{IsName}
use Rattle.broker_core.specs.Text.{Text}
use Rattle.broker_core.specs.declared.command.FormFault.TheVariants as fault
use Rattle.http_requests.specs.Names.{CommandPart, IsNamed}
use Rattle.http_requests.specs.declared.queries.Values.{Values}
use Rattle.http_requests.specs.declared.queries.Values.TheVariants.{Absent, Once, Repeated}

-- the text of encoded bytes; bytes that aren't UTF-8 become the replacement character
abbrev pub decoded_text : List ℕ → List ℕ
decoded_text bytes = utf8_lossy (decode bytes)

-- the values under a key, in order
abbrev pub values_at : List ℕ → List (List ℕ × List ℕ) → List (List ℕ)
values_at key pairs = map (λ p. decoded_text p.1) (filter (λ p. bytes_eq (decoded_text p.0) key) pairs)

-- no value, one, or several
abbrev pub AreValues : List (List ℕ) → Values → Type 0
AreValues values Absent = values ≡ []
AreValues values (Once value) = values ≡ string_bytes value ∷ []
AreValues values Repeated = 2 ≤ length values

-- the name that the only value is
abbrev pub IsOnce : List (List ℕ) → Option Text → Type 0
IsOnce [] name = name ≡ None
IsOnce (value ∷ []) name = IsNamed value name
IsOnce (value ∷ other ∷ values) name = name ≡ None

-- there is one value, and it is a name
abbrev pub IsOneName : List (List ℕ) → Type 0
IsOneName values = (value : List ℕ) × (values ≡ value ∷ []) × IsName value

-- the name under a key, which must be there exactly once
abbrev pub IsQueryName : Text → Text → CommandPart Text
IsQueryName key query r =
    (name : Option Text) × IsOnce (values_at key (raw_pairs query)) name × (r ≡ ok_or name (fault.Query key))
