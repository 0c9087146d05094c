use Rattle.std.{specs.List.{filter}, proofs.Common.{◌≡◌, ◌++◌, map}}
use Rattle.pact_rules.specs.{Rules.{has_effect}, RuleViews.{rule_view, body_rules}}
use Rattle.pact_rules.proofs.table_reader.effective_body.Given as goal

-- those that are kept, with those of what is left
abbrev pub invariant-loop-rule : goal.invariant-loop-rule
invariant-loop-rule l =
    map rule_view l.kept.items ++ filter (λ r. has_effect r.entry) (body_rules l.rule-iterator) ≡ filter (λ r. has_effect r.entry) (body_rules l.fn.rules.entries)
