use Rattle.std.proofs.Common.{◌≡◌, Err}
use Rattle.pact_rules.specs.{Matching.{is_pattern}, Rules.{name_key}, RuleViews.{header_view, header_rules, IsKeyedBy}, RuleReading.{no_pattern, headers_at}}
use Rattle.pact_rules.specs.declared.rule_fault.RuleFault.TheVariants.{Pattern}
use Rattle.serde_json.specs.View.{members_view}
use Rattle.pact_rules.proofs.table_reader.read_headers.Given as goal

-- what is read, with what is left, is the whole; and a pattern that is met in what is left is met in the whole
abbrev pub invariant-loop-key : goal.invariant-loop-key
invariant-loop-key l =
    let left = members_view l.key-iterator in
    let all = members_view l.members.entries in
    let so_far = header_rules l.rules.entries in
    let start = header_rules l.fn.before.entries in record {
      keyed : IsKeyedBy header_view name_key l.rules.entries;
      value : headers_at is_pattern so_far left ≡ headers_at is_pattern start all;
      stops : headers_at no_pattern so_far left ≡ Err Pattern → headers_at no_pattern start all ≡ Err Pattern;
    }
