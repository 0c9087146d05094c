-- The matcher of the specs that a matcher of the code is.
use Rattle.std.specs.Prelude.{string_bytes}
use Rattle.pact_rules.specs.Rules as rules
use Rattle.pact_rules.specs.declared.table.Matcher.{Matcher}
use Rattle.pact_rules.specs.declared.table.Matcher.TheVariants.{Equality, SameType, Regex, Include, Integer, IsNull}

abbrev pub matcher_view : Matcher → rules.Matcher
matcher_view Equality = rules.equality
matcher_view (SameType min max) = rules.same_type min max
matcher_view (Regex p) = rules.regex (string_bytes p)
matcher_view (Include t) = rules.include (string_bytes t)
matcher_view Integer = rules.integer
matcher_view IsNull = rules.is_null
