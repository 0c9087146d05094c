use Rattle.std.proofs.Common.{◌≡◌, Err, map, drop}
use Rattle.pact_rules.specs.{declared.rule_fault.RuleFault.TheVariants.{Pattern}, RuleViews.{matcher_view}, RuleReading.{no_pattern, matchers_at}}
use Rattle.pact_rules.{specs.Matching.{is_pattern}, proofs.PatternLemmas.{with_front}}
use Rattle.serde_json.specs.View.{items_view}
use Rattle.pact_rules.proofs.rule_reader.matchers_of.Given as goal

-- what is read, with what is left, is the whole; and a pattern that is met in what is left is met in the whole
abbrev pub invariant-loop-item : goal.invariant-loop-item
invariant-loop-item l =
    let left = items_view (drop l.item-index l.item-items) in
    let all = items_view l.items.items in record {
      value : with_front (map matcher_view l.matchers.items) (matchers_at is_pattern l.in_header left) ≡ matchers_at is_pattern l.in_header all;
      stops : matchers_at no_pattern l.in_header left ≡ Err Pattern → matchers_at no_pattern l.in_header all ≡ Err Pattern;
    }
