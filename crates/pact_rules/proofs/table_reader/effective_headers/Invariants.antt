use Rattle.std.{specs.List.{filter}, proofs.Common.{◌≡◌, ◌++◌, map}}
use Rattle.pact_rules.specs.{Rules.{has_effect}, RuleViews.{header_view, header_rules}}
use Rattle.pact_rules.proofs.table_reader.effective_headers.Given as goal

-- those that are kept, with those of what is left
abbrev pub invariant-loop-rule : goal.invariant-loop-rule
invariant-loop-rule l =
    map header_view l.kept.items ++ filter (λ r. has_effect r.entry) (header_rules l.rule-iterator) ≡ filter (λ r. has_effect r.entry) (header_rules l.fn.rules.entries)
