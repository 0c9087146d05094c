-- Why the crate `regex` builds no pattern of a text, and which fault that is.
use Rattle.std.specs.Prelude.{◌≡◌, ◌⊎◌, ◌<◌, ℕ, true, List, length}
use Rattle.regex.specs.declared.error.Error.{Error}
use Rattle.regex.specs.declared.error.Error.TheVariants.{OutOfMemory}
use Rattle.pact_patterns.specs.Patterns.{IsCause, is_pattern}
use Rattle.pact_rules.specs.Rules.{Matcher, regex, include}
use Rattle.pact_rules.specs.declared.rule_fault.RuleFault.{RuleFault}
use Rattle.pact_rules.specs.declared.rule_fault.RuleFault.TheVariants as rule_fault
use Rattle.pact_rules.specs.declared.matching.MatchFault.{MatchFault}
use Rattle.pact_rules.specs.declared.matching.MatchFault.TheVariants as match_fault

-- the fault of reading a table: Memory if memory ran out, and Pattern for each other error of the regex crate
abbrev pub as_rule_fault : Error → RuleFault
as_rule_fault OutOfMemory = rule_fault.Memory
as_rule_fault e = rule_fault.Pattern

-- the same for the fault of comparing a matcher with a value
abbrev pub as_match_fault : Error → MatchFault
as_match_fault OutOfMemory = match_fault.Memory
as_match_fault e = match_fault.Pattern

-- the fault comes of an error that the crate may answer for the text
abbrev pub HasCause : {F : Type 0} → (Error → F) → List ℕ → F → Type 0
HasCause as_fault source fault = (error : Error) × IsCause source error × (fault ≡ as_fault error)

-- the text of a pattern of a table has so many bytes at most (this project's own choice)
abbrev pub most_pattern_bytes : ℕ
most_pattern_bytes = 2048

-- Why a pattern of a table is refused: by such an error, or its text is too long, or it is a pattern that asks for more
-- than one may, or than is left for the patterns of a file.
abbrev pub IsRefused : List ℕ → RuleFault → Type 0
IsRefused source fault = HasCause as_rule_fault source fault
    ⊎ ((fault ≡ rule_fault.Pattern) × ((most_pattern_bytes < length source) ⊎ (is_pattern source ≡ true)))

-- How a matcher may fail: one that builds a text if memory runs out, one with a pattern as the crate refuses it,
-- and no other.
abbrev pub CanFail : Matcher → MatchFault → Type 0
CanFail (regex source) fault = HasCause as_match_fault source fault
CanFail (include part) fault = fault ≡ match_fault.Memory
CanFail m fault = ⊥
