-- The rules of the specs that the parts of a table in the code are.
use Rattle.std.specs.Prelude.{◌≡◌, ℕ, List, map, String, string_bytes}
use Rattle.std.specs.List.{AllByRecursion}
use Rattle.std.specs.declared.alloc.Global.{Global}
use Rattle.pact_rules.specs.Rules as rules
pub use Rattle.pact_rules.specs.MatcherView.{matcher_view}
use Rattle.pact_rules.specs.declared.entry.Entry.{Entry}
use Rattle.pact_rules.specs.declared.table.BodyRule.{BodyRule}
use Rattle.pact_rules.specs.declared.table.HeaderRule.{HeaderRule}

abbrev pub entry_view : Entry → rules.Entry
entry_view e = record { any = e.any; matchers = map matcher_view e.matchers.items }

abbrev pub rule_view : BodyRule → rules.BodyRule
rule_view r = record { path = r.path; entry = entry_view r.entry }

abbrev pub header_view : HeaderRule → rules.HeaderRule
header_view r = record { name = string_bytes r.name; entry = entry_view r.entry }

-- a table of these entries
abbrev pub table_view : List BodyRule → List HeaderRule → rules.Rules
table_view body headers = record { body = map rule_view body; headers = map header_view headers }

-- the rules of a map, in the order of its keys
abbrev pub body_rules : List (String Global × BodyRule) → List rules.BodyRule
body_rules es = map (λ e. rule_view e.1) es

abbrev pub header_rules : List (String Global × HeaderRule) → List rules.HeaderRule
header_rules es = map (λ e. header_view e.1) es

-- for private clauses: the key of each value of a map is the text of the value
abbrev pub IsKeyedBy : {X A : Type 0} → (X → A) → (A → List ℕ) → List (String Global × X) → Type 0
IsKeyedBy view text es = AllByRecursion (λ e. string_bytes e.0 ≡ text (view e.1)) es
