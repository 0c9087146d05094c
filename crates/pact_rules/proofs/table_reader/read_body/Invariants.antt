use Rattle.std.proofs.Common.{◌≡◌, Err}
use Rattle.pact_rules.specs.{Matching.{is_pattern}, Rules.{rule_text}, RuleViews.{rule_view, body_rules, IsKeyedBy}, RuleReading.{no_pattern, body_at}}
use Rattle.pact_rules.specs.declared.rule_fault.RuleFault.TheVariants.{Pattern}
use Rattle.serde_json.specs.View.{members_view}
use Rattle.pact_rules.proofs.table_reader.read_body.Given as goal

-- what is read, with what is left, is the whole; and a pattern that is met in what is left is met in the whole
abbrev pub invariant-loop-key : goal.invariant-loop-key
invariant-loop-key l =
    let left = members_view l.key-iterator in
    let all = members_view l.members.entries in
    let so_far = body_rules l.rules.entries in
    let start = body_rules l.fn.before.entries in record {
      keyed : IsKeyedBy rule_view rule_text l.rules.entries;
      value : body_at is_pattern so_far left ≡ body_at is_pattern start all;
      stops : body_at no_pattern so_far left ≡ Err Pattern → body_at no_pattern start all ≡ Err Pattern;
    }
