use Rattle.std.proofs.{Common.{true, false}, lemmas.Result.{err_from_is_err_and}}
use Rattle.pact_rules.specs.{Rules.{rule_text}, RuleViews.{body_rules}, RuleReading.{entry_at}}
use Rattle.pact_rules.proofs.PatternLemmas.{FailsAs-bind, list_any-same_text, body_rule_at-taken_path, body_rule_at-free_path}
use Rattle.serde_json.specs.View.{view}
use Rattle.pact_rules.proofs.table_reader.body_rule.Goals as goal

pub returns-then-is_path_taken-clause-value : goal.returns-then-is_path_taken-clause-value
returns-then-is_path_taken-clause-value c =
    let before = body_rules c.args.before.now.entries in
    body_rule_at-taken_path before c.args.key.now (view c.args.value.now) c.in_ok-path.path c.in_ok-path.ensures.reading
    (list_any-same_text rule_text before c.as_str.result.now _ _ c.is_path_taken.result true c.as_str.ensures.value c.in_ok-text.ensures.canonical c.is_path_taken.ensures c.if-is_path_taken.true)

pub returns-in_err-entry-clause-value : goal.returns-in_err-entry-clause-value
returns-in_err-entry-clause-value c =
    let p = err_from_is_err_and c.from_residual-in_err-entry.result c.from_residual-in_err-entry.ensures.1 in
    let before = body_rules c.args.before.now.entries in
    rw (p.1, p.2) (FailsAs-bind c.in_err-entry.field-0.0 (λ accepts. entry_at accepts false (view c.args.value.now)) _ _
    (body_rule_at-free_path before c.args.key.now (view c.args.value.now) c.in_ok-path.path c.in_ok-path.ensures.reading
    (list_any-same_text rule_text before c.as_str.result.now _ _ c.is_path_taken.result false c.as_str.ensures.value c.in_ok-text.ensures.canonical c.is_path_taken.ensures c.if-is_path_taken.false))
    c.in_err-entry.ensures.reading)
