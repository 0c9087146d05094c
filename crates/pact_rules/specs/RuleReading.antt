-- Reading a table of rules, with the first fault in the order: the table's form, old rules, then the categories and
-- entries in the order of their keys; of an entry its path, the same path, its form, combine, then each of its
-- matchers; of a matcher its form, name, bounds and pattern. A table is the entries with an effect: those of
-- the body in the order of their paths' canonical text, those of headers in the order of their names without ASCII
-- case. The names are those of the Pact Specification, version 3.
use Rattle.std.specs.Prelude.{◌≡◌, ℕ, Bool, true, false, ◌&&◌, ◌||◌, not, List, [], ◌∷◌, codes, Option, Some, None, option_map, option_and_then, Result, Ok, Err, bytes_eq, is_some, nat_le, nat_lt, nat_eq, ◌^◌, if◌then◌else◌}
use Rattle.std.specs.List.{list_any}
use Rattle.std.specs.Option.{ok_or}
use Rattle.std.specs.Str.{str_eq_ignore_ascii_case}
use Rattle.pact_paths.specs.Paths.{Token}
use Rattle.pact_paths.specs.Spelling.{path_text}
use Rattle.pact_paths.specs.PathReading.{computed_path}
use Rattle.pact_paths.specs.declared.path_reader.PathFault.{PathFault}
use Rattle.pact_paths.specs.declared.path_reader.PathFault.TheVariants as read_fault
use Rattle.pact_paths.specs.Readings.{ReadsPaths}
use Rattle.pact_rules.specs.Outcome.{◌>>=◌, guard}
use Rattle.serde_json.specs.Data.{Num, unsigned, Data, null, Items, no_items, item, Members, no_members, member}
use Rattle.pact_rules.specs.Matching.{kind, begins, is_pattern}
use Rattle.pact_rules.specs.declared.rule_fault.RuleFault.{RuleFault}
use Rattle.pact_rules.specs.declared.rule_fault.RuleFault.TheVariants.{Form, OldRules, BadPath, SamePathTwice, Unsupported, BadBound, Pattern, BadCombine, Memory}
use Rattle.pact_rules.specs.Rules.{Matcher, equality, same_type, regex, include, integer, is_null, Entry, BodyRule, HeaderRule, Rules, no_rules, put, rule_text, name_key}
use Rattle.pact_rules.specs.Tables.{effective}
use Rattle.serde_json.specs.Find.{get_member, as_str, as_array, as_object, as_number}

-- an optional member: null counts as absent
abbrev pub unless_null : Data → Option Data
unless_null null = None
unless_null n = Some n

abbrev pub optional_at : Members → List ℕ → Option Data
optional_at fs name = option_and_then unless_null (get_member name fs)

abbrev pub as_text : Option Data → Option (List ℕ)
as_text o = option_and_then as_str o

abbrev pub as_list : Option Data → Option Items
as_list o = option_and_then as_array o

-- the whole number of at least 0 and under 2^64 that a number is
abbrev pub as_bound : Num → Option ℕ
as_bound (unsigned n) = if nat_lt n (2 ^ 64) then Some n else None
as_bound n = None

-- a bound is absent, or such a number
abbrev pub bound : Option Data → Result (Option ℕ) RuleFault
bound None = Ok None
bound (Some d) = ok_or (option_map (λ n. Some n) (option_and_then as_bound (as_number d))) BadBound

abbrev pub in_order : Option ℕ → Option ℕ → Bool
in_order (Some min) (Some max) = nat_le min max
in_order _ _ = true

abbrev pub is_null_node : Data → Bool
is_null_node n = nat_eq (kind n) 0

-- a key that is no category but a path, as in version 2
abbrev pub has_old_key : Members → Bool
has_old_key no_members = false
has_old_key (member k n fs) = begins (codes "$") k || has_old_key fs

abbrev pub include_at : Members → Result Matcher RuleFault
include_at fs = ok_or (as_text (optional_at fs (codes "value"))) Form >>= (λ part. Ok (include part))

-- the entries of an object, each read in the order of the keys, beside those before it, and put in at its place in the
-- order of the texts
abbrev pub entries_at : {A : Type 0} → (A → List ℕ) → (List A → List ℕ → Data → Result A RuleFault)
    → List A → Members → Result (List A) RuleFault
entries_at text_of read before no_members = Ok before
entries_at text_of read before (member k n fs) =
    read before k n >>= (λ entry. entries_at text_of read (put text_of entry before) fs)

module _ (accepts : List ℕ → Bool) where
  abbrev pub pattern_at : Members → Result Matcher RuleFault
  pattern_at fs = do
    source ← ok_or (as_text (optional_at fs (codes "regex"))) Pattern
    guarded ← guard (accepts source) Pattern
    Ok (regex source)

  abbrev pub same_type_at : Members → Result Matcher RuleFault
  same_type_at fs = do
    min ← bound (optional_at fs (codes "min"))
    max ← bound (optional_at fs (codes "max"))
    guarded ← guard (in_order min max) BadBound
    Ok (same_type min max)

  -- by the text under match; under a header there is no integer, number or null
  abbrev pub named_matcher : Bool → Members → List ℕ → Result Matcher RuleFault
  named_matcher in_header fs name =
      if bytes_eq name (codes "equality") then Ok equality
      else if bytes_eq name (codes "type") then same_type_at fs
      else if bytes_eq name (codes "regex") then pattern_at fs
      else if bytes_eq name (codes "include") then include_at fs
      else if not in_header && (bytes_eq name (codes "integer") || bytes_eq name (codes "number")) then Ok integer
      else if not in_header && bytes_eq name (codes "null") then Ok is_null
      else Err (Unsupported name)

  -- without one by the members that are there
  abbrev pub nameless_matcher : Members → Result Matcher RuleFault
  nameless_matcher fs =
      if is_some (optional_at fs (codes "regex")) then pattern_at fs
      else if is_some (optional_at fs (codes "min")) || is_some (optional_at fs (codes "max")) then same_type_at fs
      else Err (Unsupported (codes "?"))

  abbrev pub matcher_by : Bool → Members → Option Data → Result Matcher RuleFault
  matcher_by in_header fs None = nameless_matcher fs
  matcher_by in_header fs (Some n) = ok_or (as_text (Some n)) Form >>= (λ name. named_matcher in_header fs name)

  abbrev pub matcher_at : Bool → Data → Result Matcher RuleFault
  matcher_at in_header n = ok_or (as_object n) Form >>= (λ fs. matcher_by in_header fs (optional_at fs (codes "match")))

  abbrev pub matchers_at : Bool → Items → Result (List Matcher) RuleFault
  matchers_at in_header no_items = Ok []
  matchers_at in_header (item n ns) = matcher_at in_header n >>= (λ m. matchers_at in_header ns >>= (λ ms. Ok (m ∷ ms)))

  abbrev pub combine_of : Option Data → Result Bool RuleFault
  combine_of None = Ok false
  combine_of (Some n) =
      ok_or (as_text (Some n)) BadCombine >>= (λ word.
      if bytes_eq word (codes "AND") then Ok false else if bytes_eq word (codes "OR") then Ok true else Err BadCombine)

  -- an entry, from the value of its key
  abbrev pub entry_at : Bool → Data → Result Entry RuleFault
  entry_at in_header n = do
    fs ← ok_or (as_object n) Form
    ns ← ok_or (as_list (optional_at fs (codes "matchers"))) Form
    any ← combine_of (optional_at fs (codes "combine"))
    ms ← matchers_at in_header ns
    Ok (record { any = any; matchers = ms })

  -- a header entry: two names that differ only in ASCII case are the same name
  abbrev pub header_rule_at : List HeaderRule → List ℕ → Data → Result HeaderRule RuleFault
  header_rule_at before k n = do
    guarded ← guard (not (list_any (λ h. str_eq_ignore_ascii_case k h.name) before)) SamePathTwice
    entry ← entry_at true n
    Ok (record { name = k; entry = entry })

  abbrev pub headers_in : Rules → Data → Result Rules RuleFault
  headers_in before n = do
    fs ← ok_or (as_object n) Form
    headers ← entries_at name_key header_rule_at before.headers fs
    Ok (record { body = before.body; headers = headers })

-- and by the path that each text is
module _ (paths : List ℕ → Option (List Token)) (accepts : List ℕ → Bool) where
  -- a body entry, beside those that were read before it
  abbrev pub body_rule_at : List BodyRule → List ℕ → Data → Result BodyRule RuleFault
  body_rule_at before k n = do
    path ← ok_or (paths k) BadPath
    guarded ← guard (not (list_any (λ r. bytes_eq (path_text path) (rule_text r)) before)) SamePathTwice
    entry ← entry_at accepts false n
    Ok (record { path = path; entry = entry })

  abbrev pub body_in : Rules → Data → Result Rules RuleFault
  body_in before n = do
    fs ← ok_or (as_object n) Form
    body ← entries_at rule_text body_rule_at before.body fs
    Ok (record { body = body; headers = before.headers })

  -- the rules of paths and queries are kept as data; another category is a fault before its form is one; null counts
  -- as absent
  abbrev pub category_at : Rules → List ℕ → Data → Result Rules RuleFault
  category_at before k n =
      if bytes_eq k (codes "body") then (if is_null_node n then Ok before else body_in before n)
      else if bytes_eq k (codes "header") then (if is_null_node n then Ok before else headers_in accepts before n)
      else if bytes_eq k (codes "path") || bytes_eq k (codes "query") then Ok before
      else Err (Unsupported k)

  abbrev pub categories_at : Rules → Members → Result Rules RuleFault
  categories_at before no_members = Ok before
  categories_at before (member k n fs) = category_at before k n >>= (λ found. categories_at found fs)

  -- the entries that are found, those without effect among them
  abbrev pub found_in : Data → Result Rules RuleFault
  found_in tree = do
    fs ← ok_or (as_object tree) Form
    guarded ← guard (not (has_old_key fs)) OldRules
    categories_at no_rules fs

  -- and the table of them
  abbrev pub table_in : Data → Result Rules RuleFault
  table_in tree = found_in tree >>= (λ found. Ok (effective found))

-- what is looked at first, before any memory is taken: a table is an object without keys of version 2
abbrev pub members_in : Data → Result Members RuleFault
members_in tree = do
  fs ← ok_or (as_object tree) Form
  guarded ← guard (not (has_old_key fs)) OldRules
  Ok fs

-- the same of an entry: it is an object with a list of matchers
abbrev pub matchers_in : Data → Result Items RuleFault
matchers_in tree = do
  fs ← ok_or (as_object tree) Form
  ns ← ok_or (as_list (optional_at fs (codes "matchers"))) Form
  Ok ns

-- What reading a table may give: by each text's path, and by some of the patterns that the grammar reads, it is the
-- table or the first fault.
abbrev pub IsReading : Data → Result Rules RuleFault → Type 0
IsReading tree answer =
    (paths : List ℕ → Option (List Token)) × (accepts : List ℕ → Bool) × ReadsPaths paths
    × ((source : List ℕ) → accepts source ≡ true → is_pattern source ≡ true) × (table_in paths accepts tree ≡ answer)

-- ---- for private clauses

-- each fault of a path is one fault, and no memory is the whole call's own
abbrev pub path_fault : PathFault → RuleFault
path_fault read_fault.Memory = Memory
path_fault fault = BadPath

-- the path of an entry, as it is computed
abbrev pub path_at : List ℕ → Result (List Token) RuleFault
path_at k = ok_or (computed_path k) BadPath

abbrev pub body_at : (List ℕ → Bool) → List BodyRule → Members → Result (List BodyRule) RuleFault
body_at accepts before fs = entries_at rule_text (body_rule_at computed_path accepts) before fs

abbrev pub headers_at : (List ℕ → Bool) → List HeaderRule → Members → Result (List HeaderRule) RuleFault
headers_at accepts before fs = entries_at name_key (header_rule_at accepts) before fs

-- no pattern is accepted
abbrev pub no_pattern : List ℕ → Bool
no_pattern source = false

-- What a function returned, seen by view, is what reading gives, unless memory ran out or a pattern was refused.
abbrev pub FailsAs : {Y : Type 0} → RuleFault → ((List ℕ → Bool) → Result Y RuleFault) → Type 0
FailsAs Memory read = Unit {0}
FailsAs Pattern read = read no_pattern ≡ Err Pattern
FailsAs fault read = read is_pattern ≡ Err fault

abbrev pub Reads : {X Y : Type 0} → (X → Y) → Result X RuleFault → ((List ℕ → Bool) → Result Y RuleFault) → Type 0
Reads view (Ok x) read = read is_pattern ≡ Ok (view x)
Reads view (Err e) read = FailsAs e read
