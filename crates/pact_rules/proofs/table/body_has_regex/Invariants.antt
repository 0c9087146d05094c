use Rattle.std.{specs.List.{list_any}, proofs.Common.{◌≡◌, drop, map}}
use Rattle.pact_rules.specs.{Rules.{is_regex}, RuleViews.{rule_view}}
use Rattle.pact_rules.proofs.table.body_has_regex.Given as goal

-- a rule has a pattern if and only if one of the rules that are left has one
abbrev pub invariant-loop-rule : goal.invariant-loop-rule
invariant-loop-rule l =
    list_any (λ r. list_any is_regex r.entry.matchers) (map rule_view l.rules) ≡ list_any (λ r. list_any is_regex r.entry.matchers) (map rule_view (drop l.rule-index l.rules))
