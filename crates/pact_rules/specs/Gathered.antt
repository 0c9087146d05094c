-- For private clauses: what the matchers of an entry ask, each thing once.
use Rattle.std.specs.Prelude.{◌≡◌, ◌<◌, ◌+◌, length, slice_index_or, map, ℕ, Bool, true, false, not, ◌&&◌, ◌||◌, List, Option, Some, None, String, string_bytes, if◌then◌else◌}
use Rattle.std.specs.{Cmp.Lexicographic.{slice_cmp}, Ordering.{nat_cmp, is_lt}, List.Sorted.{IsPartitionPoint}}
use Rattle.std.specs.declared.cmp.Ordering.TheVariants.{Less, Greater}
use Rattle.std.specs.List.{list_all, list_any}
use Rattle.std.specs.declared.alloc.Global.{Global}
use Rattle.serde_json.specs.Data.{Data}
use Rattle.pact_rules.specs.Rules.{Matcher, equality, same_type, regex, include, integer, is_null, is_regex}
use Rattle.pact_rules.specs.Matching.{holds, begins, contains, pattern_of, is_found}
use Rattle.pact_rules.specs.MatcherView.{matcher_view}
use Rattle.pact_rules.specs.declared.table.Matcher.{Matcher as Held}
use Rattle.pact_rules.specs.declared.gathered.Gathered.{Gathered}
use Rattle.pact_rules.specs.declared.gathered.Bounds.{Bounds}

-- both answers together: either is enough, or both are wanted
abbrev pub joined : Bool → Bool → Bool → Bool
joined true a b = a || b
joined false a b = a && b

-- one of them is enough, or all are wanted
abbrev pub judged : {A : Type 0} → Bool → (A → Bool) → List A → Bool
judged true test xs = list_any test xs
judged false test xs = list_all test xs

-- an answer that is asked for, or what changes nothing
abbrev pub if_asked : Bool → Bool → Bool → Bool
if_asked any asked answer = if asked then answer else not any

abbrev pub bounds_hold : Data → Data → Bool → Bounds → Bool
bounds_hold x y own b = holds (same_type b.min b.max) x y own

abbrev pub part_holds : Data → Data → Bool → String Global → Bool
part_holds x y own s = holds (include (string_bytes s)) x y own

abbrev pub pattern_holds : Data → Data → Bool → String Global → Bool
pattern_holds x y own s = holds (regex (string_bytes s)) x y own

-- what is asked without a text
abbrev pub plain_hold : Bool → Gathered → Data → Data → Bool → Bool
plain_hold any g x y own =
    joined any (if_asked any g.equality (holds equality x y own))
    (joined any (if_asked any g.integer (holds integer x y own))
    (joined any (if_asked any g.null (holds is_null x y own)) (judged any (bounds_hold x y own) g.bounds.items)))

-- what is asked of a text
abbrev pub texts_hold : Bool → Gathered → Data → Data → Bool → Bool
texts_hold any g x y own =
    joined any (judged any (part_holds x y own) g.parts.items) (judged any (pattern_holds x y own) g.patterns.items)

-- the same of a text that is there
abbrev pub text_hold : Bool → Gathered → List ℕ → Bool
text_hold any g t =
    joined any (judged any (λ s. contains (string_bytes s) t) g.parts.items)
    (judged any (λ s. is_found (pattern_of (string_bytes s)) t) g.patterns.items)

abbrev pub gathered_hold : Bool → Gathered → Data → Data → Bool → Bool
gathered_hold any g x y own = joined any (plain_hold any g x y own) (texts_hold any g x y own)

-- the matchers say the same
abbrev pub SaysAs : Bool → Gathered → List Matcher → Type 0
SaysAs any g ms = (x y : Data) (own : Bool) → gathered_hold any g x y own ≡ judged any (λ m. holds m x y own) ms

-- a pattern was gathered
abbrev pub has_pattern : Gathered → Bool
has_pattern g = list_any (λ s. true) g.patterns.items

-- ---- beside the matchers of an entry

-- what is asked by what was gathered, if it was, and else by the matchers
abbrev pub asked_by : Bool → List Held → Option Gathered → Data → Data → Bool → Bool
asked_by any ms None x y own = judged any (λ m. holds m x y own) (map matcher_view ms)
asked_by any ms (Some g) x y own = gathered_hold any g x y own

abbrev pub pattern_by : List Held → Option Gathered → Bool
pattern_by ms None = list_any is_regex (map matcher_view ms)
pattern_by ms (Some g) = has_pattern g

-- what was gathered says what the matchers say, and has a pattern where they have
abbrev pub IsGatheredOf : Bool → List Held → Option Gathered → Type 0
IsGatheredOf any ms many = (x y : Data) (own : Bool)
    → asked_by any ms many x y own ≡ judged any (λ m. holds m x y own) (map matcher_view ms)

abbrev pub HasItsPatterns : List Held → Option Gathered → Type 0
HasItsPatterns ms many = pattern_by ms many ≡ list_any is_regex (map matcher_view ms)

-- ---- texts in order

-- the one is at most the other, and doesn't begin it
abbrev pub IsApart : String Global → String Global → Type 0
IsApart a b =
    (is_lt (slice_cmp nat_cmp (string_bytes b) (string_bytes a)) ≡ false) × (begins (string_bytes a) (string_bytes b) ≡ false)

-- so is each with the next
abbrev pub AreApart : List (String Global) → Type 0
AreApart xs = (k : ℕ) (d : String Global) → k + 1 < length xs → IsApart (slice_index_or xs k d) (slice_index_or xs (k + 1) d)

-- those before the place are below the bytes, and those from it on are above
abbrev pub Splits : List (String Global) → List ℕ → ℕ → Type 0
Splits xs s i =
    IsPartitionPoint (λ x. slice_cmp nat_cmp (string_bytes x) s ≡ Less) (λ x. slice_cmp nat_cmp (string_bytes x) s ≡ Greater) xs i
