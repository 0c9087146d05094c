use Rattle.std.{specs.List.{list_any}, proofs.Common.{◌≡◌, drop, map}}
use Rattle.pact_rules.specs.{Rules.{is_regex}, RuleViews.{header_view}}
use Rattle.pact_rules.proofs.table.headers_have_regex.Given as goal

-- a rule has a pattern if and only if one of the rules that are left has one
abbrev pub invariant-loop-rule : goal.invariant-loop-rule
invariant-loop-rule l =
    list_any (λ r. list_any is_regex r.entry.matchers) (map header_view l.rules) ≡ list_any (λ r. list_any is_regex r.entry.matchers) (map header_view (drop l.rule-index l.rules))
