-- Worked examples, computed from the definitions.
use Rattle.std.proofs.Common.{◌≡◌, ℕ, negsuc, Bool, true, false, List, Option, Result, [], ◌∷◌, Some, None, Ok, Err, codes, refl}
use Rattle.pact_rules.specs.{Outcome.{◌>>=◌}, declared.rule_fault.RuleFault.{RuleFault}}
use Rattle.pact_rules.specs.declared.rule_fault.RuleFault.TheVariants.{OldRules, BadPath, SamePathTwice, Unsupported, BadBound, Pattern, BadCombine}
use Rattle.pact_rules.specs.{Rules.{equality, same_type, regex, include, integer, is_null, Entry, BodyRule, HeaderRule, has_regex}, Choice.{chosen}}
use Rattle.pact_rules.specs.{Matching.{holds, entry_holds, has_keys_of}, Tables.{header_entry}, RuleReading.{found_in, table_in, no_pattern}, Walks.{own_place}}
use Rattle.serde_json.specs.Data.{Data, unsigned, negative, null, boolean, number, string, array, object, Items, no_items, item, Members, no_members, member}
use Rattle.pact_paths.specs.{Paths.{Token, named, indexed, any, key, Location}, PathReading.{tokens_in, computed_path}}
use Rattle.pact_paths.specs.Paths as paths

-- ---- the choice

abbrev type_entry : Entry
type_entry = record { any = false; matchers = same_type None None ∷ [] }

abbrev rule : List Token → BodyRule
rule path = record { path = path; entry = type_entry }

-- item1.level[1].id
abbrev deep : Location
deep = key (codes "item1") ∷ key (codes "level") ∷ paths.item 1 ∷ key (codes "id") ∷ []

abbrev item1_level : List Token → List Token
item1_level more = named (codes "item1") ∷ named (codes "level") ∷ more

abbrev any_level_id : List Token
any_level_id = any ∷ named (codes "level") ∷ any ∷ named (codes "id") ∷ []

-- of three that weigh 8 the longest is chosen, and not the first
chosen-most_tokens : chosen (rule (item1_level []) ∷ rule (item1_level (any ∷ [])) ∷ rule any_level_id ∷ []) deep ≡ Some 2
chosen-most_tokens = refl

-- the chosen-heaviest is chosen, and not the longest
chosen-heaviest : chosen (rule (item1_level []) ∷ rule (item1_level (any ∷ [])) ∷ rule (item1_level (indexed 1 ∷ [])) ∷ rule any_level_id ∷ []) deep ≡ Some 2
chosen-heaviest = refl

-- of one weight and length the lesser text is chosen
chosen-least_text : chosen (rule (named (codes "a") ∷ any ∷ []) ∷ rule (any ∷ named (codes "b") ∷ []) ∷ []) (key (codes "a") ∷ key (codes "b") ∷ []) ≡ Some 0
chosen-least_text = refl

-- a shorter path chosen-shorter_path, away from its own_place-same_length place
chosen-shorter_path : chosen (rule (named (codes "a") ∷ []) ∷ []) (key (codes "a") ∷ paths.item 0 ∷ []) ≡ Some 0
chosen-shorter_path = refl

own_place-longer_location : own_place (rule (named (codes "a") ∷ []) ∷ []) (key (codes "a") ∷ paths.item 0 ∷ []) ≡ false
own_place-longer_location = refl

own_place-same_length : own_place (rule (named (codes "a") ∷ []) ∷ []) (key (codes "a") ∷ []) ≡ true
own_place-same_length = refl

chosen-no_match : chosen (rule (named (codes "a") ∷ []) ∷ []) (key (codes "z") ∷ []) ≡ None
chosen-no_match = refl

chosen-no_rules : chosen [] [] ≡ None
chosen-no_rules = refl

-- which of some rules is chosen, and whether at its own_place-same_length place
abbrev choice : List BodyRule → Location → Option ℕ × Bool
choice rules at = (chosen rules at, own_place rules at)

choice-longest : choice (rule (item1_level []) ∷ rule (item1_level (any ∷ [])) ∷ rule any_level_id ∷ []) deep ≡ (Some 2, true)
choice-longest = refl

choice-heaviest : choice (rule (item1_level []) ∷ rule (item1_level (any ∷ [])) ∷ rule (item1_level (indexed 1 ∷ [])) ∷ rule any_level_id ∷ []) deep ≡ (Some 2, false)
choice-heaviest = refl

-- down one table: what a step rules out, and what is still too long
abbrev three : List BodyRule
three = rule (named (codes "a") ∷ named (codes "b") ∷ named (codes "c") ∷ []) ∷ rule (named (codes "a") ∷ any ∷ []) ∷ rule (any ∷ named (codes "b") ∷ []) ∷ []

choice-at_root : choice three [] ≡ (None, false)
choice-at_root = refl

choice-at_a : choice three (key (codes "a") ∷ []) ≡ (None, false)
choice-at_a = refl

choice-at_a_b : choice three (key (codes "a") ∷ key (codes "b") ∷ []) ≡ (Some 1, true)
choice-at_a_b = refl

choice-at_a_b_c : choice three (key (codes "a") ∷ key (codes "b") ∷ key (codes "c") ∷ []) ≡ (Some 0, true)
choice-at_a_b_c = refl

choice-at_a_x : choice three (key (codes "a") ∷ key (codes "x") ∷ []) ≡ (Some 1, true)
choice-at_a_x = refl

choice-at_a_x_y : choice three (key (codes "a") ∷ key (codes "x") ∷ key (codes "y") ∷ []) ≡ (Some 1, false)
choice-at_a_x_y = refl

choice-at_z : choice three (key (codes "z") ∷ []) ≡ (None, false)
choice-at_z = refl

choice-at_z_b : choice three (key (codes "z") ∷ key (codes "b") ∷ []) ≡ (Some 2, true)
choice-at_z_b = refl

own_place-least_text : own_place (rule (named (codes "a") ∷ any ∷ []) ∷ rule (any ∷ named (codes "b") ∷ []) ∷ []) (key (codes "a") ∷ key (codes "b") ∷ []) ≡ true
own_place-least_text = refl

-- ---- matchers

abbrev one : Data → Data
one n = array (item n no_items)

-- the least length counts only at the own_place-same_length place of the rule
same_type-least_at_own_place : holds (same_type (Some 1) None) (one (string (codes "a"))) (array no_items) true ≡ false
same_type-least_at_own_place = refl

same_type-least_elsewhere : holds (same_type (Some 1) None) (one (string (codes "a"))) (array no_items) false ≡ true
same_type-least_elsewhere = refl

same_type-other_kind : holds (same_type None None) (string (codes "a")) (number (unsigned 1)) true ≡ false
same_type-other_kind = refl

equality-other_number : holds equality (number (unsigned 1)) (number (unsigned 2)) true ≡ false
equality-other_number = refl

-- equality at a location compares the keys of two objects, not their values, which have locations of their own_place-same_length
equality-same_keys : holds equality (object (member (codes "a") null no_members)) (object (member (codes "a") (boolean true) no_members)) true ≡ true
equality-same_keys = refl

-- ---- the keys of objects, with any values

abbrev a_one : Members → Members
a_one more = member (codes "a") (number (unsigned 1)) more

has_keys_of-no_members : has_keys_of no_members no_members ≡ true
has_keys_of-no_members = refl

has_keys_of-more_keys : has_keys_of no_members (a_one no_members) ≡ true
has_keys_of-more_keys = refl

has_keys_of-missing_key : has_keys_of (a_one no_members) no_members ≡ false
has_keys_of-missing_key = refl

has_keys_of-other_value : has_keys_of (a_one no_members) (member (codes "a") null (member (codes "b") (number (unsigned 2)) no_members)) ≡ true
has_keys_of-other_value = refl

has_keys_of-other_key : has_keys_of (a_one (member (codes "c") (number (unsigned 2)) no_members)) (a_one (member (codes "b") (number (unsigned 2)) no_members)) ≡ false
has_keys_of-other_key = refl

-- ---- parts of texts

include-part_of_text : holds (include (codes "b")) null (string (codes "abc")) true ≡ true
include-part_of_text = refl

include-boolean : holds (include (codes "ru")) null (boolean true) true ≡ true
include-boolean = refl

include-null : holds (include []) null null true ≡ false
include-null = refl

entry_holds-one_of_two : entry_holds (record { any = true; matchers = is_null ∷ same_type None None ∷ [] }) (string (codes "Ada")) null true ≡ true
entry_holds-one_of_two = refl

entry_holds-none_of_two : entry_holds (record { any = true; matchers = is_null ∷ same_type None None ∷ [] }) (string (codes "Ada")) (number (unsigned 5)) true ≡ false
entry_holds-none_of_two = refl

-- ---- reading a table

abbrev entry : Items → Data
entry matchers = object (member (codes "matchers") (array matchers) no_members)

abbrev match : List ℕ → Members → Data
match name more = object (member (codes "match") (string name) more)

abbrev category : List ℕ → Members → Data
category name entries = object (member name (object entries) no_members)

abbrev by_type : Items
by_type = item (match (codes "type") no_members) no_items

abbrev at_root : Items → Data
at_root matchers = category (codes "body") (member (codes "$") (entry matchers) no_members)

found_in-old_rules : found_in computed_path no_pattern (object (member (codes "$.id") (match (codes "type") no_members) no_members)) ≡ Err OldRules
found_in-old_rules = refl

found_in-same_path : found_in computed_path no_pattern (category (codes "body") (member (codes "$.a") (entry no_items) (member (codes "$['a']") (entry no_items) no_members))) ≡ Err SamePathTwice
unfolding tokens_in
found_in-same_path = refl

found_in-same_name : found_in computed_path no_pattern (category (codes "header") (member (codes "A") (entry no_items) (member (codes "a") (entry no_items) no_members))) ≡ Err SamePathTwice
found_in-same_name = refl

found_in-bad_path : found_in computed_path no_pattern (category (codes "body") (member (codes "item") null no_members)) ≡ Err BadPath
found_in-bad_path = refl

-- combine is looked at before the matchers
found_in-combine_first : found_in computed_path no_pattern (category (codes "body") (member (codes "$") (object (member (codes "combine") (string (codes "XOR")) (member (codes "matchers") (array (item (match (codes "date") no_members) no_items)) no_members))) no_members)) ≡ Err BadCombine
unfolding tokens_in
found_in-combine_first = refl

-- another category is a fault before its form is one
found_in-unknown_category : found_in computed_path no_pattern (object (member (codes "cookies") null no_members)) ≡ Err (Unsupported (codes "cookies"))
found_in-unknown_category = refl

found_in-null_category : found_in computed_path no_pattern (object (member (codes "body") null no_members)) ≡ Ok (record { body = []; headers = [] })
found_in-null_category = refl

found_in-number_in_header : found_in computed_path no_pattern (category (codes "header") (member (codes "x") (entry (item (match (codes "number") no_members) no_items)) no_members)) ≡ Err (Unsupported (codes "number"))
found_in-number_in_header = refl

found_in-matcher_without_name : found_in computed_path no_pattern (at_root (item (object no_members) no_items)) ≡ Err (Unsupported (codes "?"))
unfolding tokens_in
found_in-matcher_without_name = refl

found_in-min_over_max : found_in computed_path no_pattern (at_root (item (match (codes "type") (member (codes "max") (number (unsigned 1)) (member (codes "min") (number (unsigned 2)) no_members))) no_items)) ≡ Err BadBound
unfolding tokens_in
found_in-min_over_max = refl

-- min and max beside another name than type are unknown keys, which are ignored
found_in-unknown_bounds : found_in computed_path no_pattern (at_root (item (match (codes "integer") (member (codes "min") (number (negative (negsuc 0))) no_members)) no_items))
    ≡ Ok (record { body = record { path = []; entry = record { any = false; matchers = integer ∷ [] } } ∷ []; headers = [] })
unfolding tokens_in
found_in-unknown_bounds = refl

found_in-refused_pattern : found_in computed_path no_pattern (at_root (item (match (codes "regex") (member (codes "regex") (string (codes "a")) no_members)) no_items)) ≡ Err Pattern
unfolding tokens_in
found_in-refused_pattern = refl

-- an entry without matchers is read, and isn't in the table
table_in-entry_without_effect : table_in computed_path no_pattern (object (member (codes "body") (object (member (codes "$") (entry no_items) no_members)) (member (codes "path") (number (unsigned 5)) no_members)))
    ≡ Ok (record { body = []; headers = [] })
unfolding tokens_in
table_in-entry_without_effect = refl

-- the entries are in the order of the paths' texts, here $.a and $.b, which isn't that of the keys
table_in-text_order : table_in computed_path no_pattern (category (codes "body") (member (codes "$.b") (entry by_type) (member (codes "$['a']") (entry by_type) no_members)))
    ≡ Ok (record { body = rule (named (codes "a") ∷ []) ∷ rule (named (codes "b") ∷ []) ∷ []; headers = [] })
unfolding tokens_in
table_in-text_order = refl

-- ---- the parts of a table

abbrev accept : HeaderRule
accept = record { name = codes "Accept"; entry = record { any = false; matchers = regex (codes "json") ∷ [] } }

header_entry-other_case : header_entry (accept ∷ []) (codes "aCCEPT") ≡ Some accept.entry
header_entry-other_case = refl

header_entry-no_such_name : header_entry (accept ∷ []) (codes "accepts") ≡ None
header_entry-no_such_name = refl

has_regex-of_header : has_regex (record { body = []; headers = accept ∷ [] }) ≡ true
has_regex-of_header = refl

has_regex-no_patterns : has_regex (record { body = rule [] ∷ []; headers = [] }) ≡ false
has_regex-no_patterns = refl

abbrev every_pattern : List ℕ → Bool
every_pattern source = true

abbrev by_pattern : Data
by_pattern = object (member (codes "match") (string (codes "regex")) (member (codes "regex") (string (codes "json")) no_members))

-- the entry of a header in a table that is read, and whether one has a pattern
abbrev header_in : Data → List ℕ → Result (Option Entry) RuleFault
header_in tree name = table_in computed_path every_pattern tree >>= (λ rules. Ok (header_entry rules.headers name))

abbrev has_regex_in : Data → Result Bool RuleFault
has_regex_in tree = table_in computed_path every_pattern tree >>= (λ rules. Ok (has_regex rules))

abbrev one_of_one : Data
one_of_one = category (codes "header") (member (codes "Content-Type") (object (member (codes "combine") (string (codes "OR")) (member (codes "matchers") (array (item by_pattern no_items)) no_members))) no_members)

header_in-one_matcher : header_in one_of_one (codes "content-TYPE") ≡ Ok (Some (record { any = true; matchers = regex (codes "json") ∷ [] }))
header_in-one_matcher = refl

header_in-part_of_name : header_in one_of_one (codes "content") ≡ Ok None
header_in-part_of_name = refl

header_in-two_matchers : header_in (category (codes "header") (member (codes "X") (entry (item (match (codes "equality") no_members) by_type)) no_members)) (codes "x")
    ≡ Ok (Some (record { any = false; matchers = equality ∷ same_type None None ∷ [] }))
header_in-two_matchers = refl

has_regex_in-header : has_regex_in one_of_one ≡ Ok true
has_regex_in-header = refl

has_regex_in-body : has_regex_in (at_root (item (match (codes "type") no_members) (item by_pattern no_items))) ≡ Ok true
unfolding tokens_in
has_regex_in-body = refl

has_regex_in-no_patterns : has_regex_in (object (member (codes "body") (object (member (codes "$") (entry no_items) no_members)) (member (codes "path") (number (unsigned 5)) no_members))) ≡ Ok false
unfolding tokens_in
has_regex_in-no_patterns = refl
