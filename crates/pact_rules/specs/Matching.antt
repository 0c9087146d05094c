-- What a matcher asks of an actual value.
use Rattle.std.specs.Prelude.{take, length, ℕ, ℤ, ◌==◌, Bool, true, false, not, ◌&&◌, ◌||◌, nat_le, List, [], ◌∷◌, Option, Some, None, is_some, option_map, option_and_then, if◌then◌else◌, bytes_eq, codes, nat_eq}
use Rattle.std.specs.Fmt.{signed_decimal}
use Rattle.std.specs.List.{list_all, list_any}
use Rattle.std.specs.Ordering.{int_eq}
pub use Rattle.pact_patterns.specs.Patterns.{pattern_of, is_pattern, is_found}
use Rattle.serde_json.specs.Data.{Data, null, boolean, number, string, array, object, Members, no_members, member}
use Rattle.serde_json.specs.Events.{items_len}
use Rattle.serde_json.specs.Find.{get_member, as_number, as_integer}
use Rattle.pact_rules.specs.Rules.{Matcher, equality, same_type, regex, include, integer, is_null, Entry}

-- ---- looking into a value

-- each key of the first is in the second
abbrev pub has_keys_of : Members → Members → Bool
has_keys_of no_members others = true
has_keys_of (member k d ms) others = is_some (get_member k others) && has_keys_of ms others

abbrev pub same_truth : Bool → Bool → Bool
same_truth true b = b
same_truth false b = not b

-- the same whole number; one that isn't whole is the same as none
abbrev pub same_whole : Option ℤ → Option ℤ → Bool
same_whole (Some m) (Some n) = int_eq m n
same_whole _ _ = false

-- ---- the matchers

abbrev pub kind : Data → ℕ
kind null = 0
kind (boolean b) = 1
kind (number n) = 2
kind (string s) = 3
kind (array ds) = 4
kind (object ms) = 5

abbrev pub same_kind : Data → Data → Bool
same_kind x y = nat_eq (kind x) (kind y)

-- one kind, with equal scalars and lists of one length
abbrev pub are_alike : Data → Data → Bool
are_alike null null = true
are_alike (boolean a) (boolean b) = same_truth a b
are_alike (number m) (number n) = same_whole (as_integer m) (as_integer n)
are_alike (string s) (string t) = bytes_eq s t
are_alike (array ds) (array es) = items_len ds == items_len es
are_alike (object ms) (object ns) = true
are_alike _ _ = false

-- where both are objects, of one key set
abbrev pub have_one_key_set : Data → Data → Bool
have_one_key_set (object ms) (object ns) = has_keys_of ms ns && has_keys_of ns ms
have_one_key_set _ _ = true

abbrev pub equal_here : Data → Data → Bool
equal_here x y = are_alike x y && have_one_key_set x y

abbrev pub at_least : Option ℕ → ℕ → Bool
at_least None n = true
at_least (Some min) n = nat_le min n

abbrev pub at_most : Option ℕ → ℕ → Bool
at_most None n = true
at_most (Some max) n = nat_le n max

-- where both are lists
abbrev pub within : Option ℕ → Option ℕ → Data → Data → Bool
within min max (array ds) (array es) = at_least min (items_len es) && at_most max (items_len es)
within min max _ _ = true

-- a text is itself, a whole number or truth value its JSON text; other values have none
abbrev pub text_form : Data → Option (List ℕ)
text_form (boolean b) = Some (if b then codes "true" else codes "false")
text_form (number n) = option_map signed_decimal (as_integer n)
text_form (string s) = Some s
text_form d = None

abbrev pub begins : List ℕ → List ℕ → Bool
begins part bs = bytes_eq part (take (length part) bs)

-- the part is somewhere in the text
abbrev pub contains : List ℕ → List ℕ → Bool
contains part [] = begins part []
contains part (b ∷ bs) = begins part (b ∷ bs) || contains part bs

abbrev pub passes : (List ℕ → Bool) → Option (List ℕ) → Bool
passes test None = false
passes test (Some t) = test t

abbrev pub holds : Matcher → Data → Data → Bool → Bool
holds equality x y own = equal_here x y
holds (same_type min max) x y own = same_kind x y && (not own || within min max x y)
holds (regex source) x y own = passes (is_found (pattern_of source)) (text_form y)
holds (include part) x y own = passes (contains part) (text_form y)
holds integer x y own = is_some (option_and_then as_integer (as_number y))
holds is_null x y own = nat_eq (kind y) 0

-- all of them, or any
abbrev pub entry_holds : Entry → Data → Data → Bool → Bool
entry_holds e x y own =
    if e.any then list_any (λ m. holds m x y own) e.matchers else list_all (λ m. holds m x y own) e.matchers
