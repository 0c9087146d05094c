-- The rules of a response, read by `pact_rules`. Whether a pattern is refused is open there, so this is a relation.
use Rattle.std.specs.Prelude.{◌≡◌, ℕ, Option, Some, None, Result, Ok, codes}
use Rattle.serde_json.specs.Data.{Data}
use Rattle.pact_rules.specs.Rules.{Rules as Table, no_rules}
use Rattle.pact_rules.specs.RuleReading.{IsReading}
use Rattle.pact_rules.specs.declared.rule_fault.RuleFault.{RuleFault}
use Rattle.pact_file.specs.declared.fault.PactFault.{PactFault}
use Rattle.pact_file.specs.declared.fault.PactFault.TheVariants.{Rules}
use Rattle.pact_file.specs.Objects.{with_fault}
use Rattle.pact_file.specs.Parts.{optional_at}

-- no rules if they are absent
abbrev pub TableRead : Option Data → Result Table RuleFault → Type 0
TableRead None answer = answer ≡ Ok no_rules
TableRead (Some d) answer = IsReading d answer

abbrev pub rules_or_fault : ℕ → Result Table RuleFault → Result Table PactFault
rules_or_fault i r = with_fault (λ fault. Rules i fault) r

-- of the response of the interaction i
unfoldable pub RulesRead : ℕ → Data → Result Table PactFault → Type 0
RulesRead i response answer =
    (r : Result Table RuleFault)
    × TableRead (optional_at (codes "matchingRules") response) r
    × (rules_or_fault i r ≡ answer)

-- the table that is read of the response
unfoldable pub IsRulesOf : Data → Table → Type 0
IsRulesOf response table = TableRead (optional_at (codes "matchingRules") response) (Ok table)
