use Rattle.std.proofs.Common.{◌≡◌, Err}
use Rattle.pact_rules.specs.{declared.rule_fault.RuleFault.TheVariants.{Pattern}, Matching.{is_pattern}, Rules.{no_rules}}
use Rattle.pact_rules.specs.RuleReading.{no_pattern, categories_at}
use Rattle.serde_json.specs.View.{members_view}
use Rattle.pact_paths.specs.PathReading.{computed_path}
use Rattle.pact_rules.proofs.table_reader.categories.Given as goal

-- what is read, with what is left, is the whole; and a pattern that is met in what is left is met in the whole
abbrev pub invariant-loop-name : goal.invariant-loop-name
invariant-loop-name l =
    let left = members_view l.name-iterator in
    let all = members_view l.members.entries in record {
      value : categories_at computed_path is_pattern l.found left ≡ categories_at computed_path is_pattern no_rules all;
      stops : categories_at computed_path no_pattern l.found left ≡ Err Pattern → categories_at computed_path no_pattern no_rules all ≡ Err Pattern;
    }
