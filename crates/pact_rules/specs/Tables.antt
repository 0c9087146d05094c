-- Which rules are a table, and which of those that were found it holds.
use Rattle.std.specs.Prelude.{◌≡◌, ℕ, true, List, Option, option_map}
use Rattle.std.specs.List.{AllByRecursion, filter, find}
use Rattle.std.specs.Str.{str_eq_ignore_ascii_case}
use Rattle.pact_rules.specs.Rules.{Matcher, regex, Entry, HeaderRule, Rules, IsOrderedBy, IsInOrder, name_key, has_effect}
use Rattle.pact_rules.specs.Matching.{is_pattern}

-- the grammar of patterns reads its pattern, where it has one
abbrev pub HasValidPattern : Matcher → Type 0
HasValidPattern (regex source) = is_pattern source ≡ true
HasValidPattern m = Unit {0}

-- an entry of a table has matchers, and each pattern of theirs is valid
abbrev pub IsEffective : Entry → Type 0
IsEffective e = (has_effect e ≡ true) × AllByRecursion HasValidPattern e.matchers

-- body entries in order of canonical text, header entries in order of names without ASCII case, each of them once
pub record IsTable (rules : Rules) : Type 0 where
  pub order : IsInOrder rules.body
  pub names : IsOrderedBy name_key rules.headers
  pub body : AllByRecursion (λ r. IsEffective r.entry) rules.body
  pub headers : AllByRecursion (λ h. IsEffective h.entry) rules.headers

-- the table of the entries that were found: those with an effect, in the same order
abbrev pub effective : Rules → Rules
effective found = record {
  body = filter (λ r. has_effect r.entry) found.body;
  headers = filter (λ h. has_effect h.entry) found.headers;
}

-- the entry of a header, by its name without ASCII case
abbrev pub header_entry : List HeaderRule → List ℕ → Option Entry
header_entry headers name = option_map (λ h. h.entry) (find (λ h. str_eq_ignore_ascii_case h.name name) headers)
