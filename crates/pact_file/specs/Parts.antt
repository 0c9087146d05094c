-- The parts of an interaction, read from JSON data (Pact Specification, version 3). A part that isn't as it
-- must be is none.
use Rattle.std.specs.Prelude.{ℕ, ◌&&◌, List, [], ◌∷◌, ◌++◌, Option, Some, None, option_map, option_and_then, nat_le, codes, if◌then◌else◌}
use Rattle.std.specs.Option.{option_or, option_map_or}
use Rattle.std.specs.Str.{str_to_ascii_lowercase}
use Rattle.serde_json.specs.Data.{Data, object, Items, no_items, item, Members, no_members, member}
use Rattle.serde_json.specs.Find.{get, as_str, as_array, as_object, as_number, as_u64}
use Rattle.pact_rules.specs.RuleReading.{unless_null}
use Rattle.pact_file.specs.Pact.{State, Header}

-- an optional member: null counts as absent
abbrev pub optional_at : List ℕ → Data → Option Data
optional_at key d = option_and_then unless_null (get key d)

-- a member that is a text
abbrev pub text_at : List ℕ → Data → Option (List ℕ)
text_at key d = option_and_then as_str (get key d)

abbrev pub if_object : Data → Option Data
if_object (object ms) = Some (object ms)
if_object d = None

-- a member that is an object
abbrev pub object_at : List ℕ → Data → Option Data
object_at key d = option_and_then if_object (get key d)

-- a member that is a list
abbrev pub list_at : List ℕ → Data → Option Items
list_at key d = option_and_then as_array (get key d)

-- the values of a list
abbrev pub listed : Items → List Data
listed no_items = []
listed (item d ds) = d ∷ listed ds

-- the members of an object
abbrev pub members_listed : Members → List (List ℕ × Data)
members_listed no_members = []
members_listed (member k d ms) = (k, d) ∷ members_listed ms

-- each of them, if each is one
unfoldable pub all_of : {A B : Type 0} → (A → Option B) → List A → Option (List B)
all_of f [] = Some []
all_of f (x ∷ xs) = option_and_then (λ y. option_map (λ ys. y ∷ ys) (all_of f xs)) (f x)

-- ---- provider states

-- an object with a name, and parameters if they are given
abbrev pub state_in : Data → Option State
state_in d =
    option_map (λ name. record { name = name; params = optional_at (codes "params") d }) (text_at (codes "name") d)

abbrev pub one_state : Option Data → Option (List State)
one_state None = Some []
one_state (Some d) = option_map (λ name. record { name = name; params = None } ∷ []) (as_str d)

abbrev pub states_from : Option Data → Option Data → Option (List State)
states_from None older = one_state older
states_from (Some list) older = option_and_then (λ ds. all_of state_in (listed ds)) (as_array list)

-- the list under `providerStates`, or if it is absent the one state of the older spelling
unfoldable pub states_in : Data → Option (List State)
states_in d = states_from (optional_at (codes "providerStates") d) (optional_at (codes "providerState") d)

-- ---- the response

-- a whole number from 100 to 999
abbrev pub status_at : Data → Option ℕ
status_at d =
    option_and_then (λ n. if nat_le 100 n && nat_le n 999 then Some n else None)
    (option_and_then as_u64 (as_number d))

-- the status, 200 if it is absent
unfoldable pub status_in : Data → Option ℕ
status_in response = option_map_or status_at (optional_at (codes "status") response) (Some 200)

-- the value under `body`
abbrev pub body_in : Data → Option Data
body_in response = get (codes "body") response

-- ---- headers

abbrev pub following : List (List ℕ) → List ℕ
following [] = []
following (t ∷ ts) = (codes ", " ++ t) ++ following ts

-- the texts, with a comma and a space between each two
abbrev pub joined : List (List ℕ) → List ℕ
joined [] = []
joined (t ∷ ts) = t ++ following ts

-- a text, or a list of texts
abbrev pub header_value : Data → Option (List ℕ)
header_value d =
    option_or (as_str d) (option_and_then (λ ds. option_map joined (all_of as_str (listed ds))) (as_array d))

abbrev pub header_in : List ℕ × Data → Option Header
header_in m = option_map (λ value. record { name = str_to_ascii_lowercase m.0; value = value }) (header_value m.1)

-- the headers in the order of the file, none if they are absent
unfoldable pub headers_found : Data → Option (List Header)
headers_found response =
    option_map_or (λ d. option_and_then (λ ms. all_of header_in (members_listed ms)) (as_object d))
    (optional_at (codes "headers") response) (Some [])
