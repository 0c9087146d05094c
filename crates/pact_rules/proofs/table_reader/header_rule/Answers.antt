use Rattle.std.{specs.Str.{str_to_ascii_lowercase}, proofs.{Common.{true, false}, lemmas.Result.{err_from_is_err_and}}}
use Rattle.pact_rules.specs.{Rules.{name_key}, RuleViews.{header_rules}, RuleReading.{entry_at}}
use Rattle.pact_rules.proofs.PatternLemmas.{FailsAs-bind, list_any-same_text, header_rule_at-free_name}
use Rattle.serde_json.specs.View.{view}
use Rattle.pact_rules.proofs.table_reader.header_rule.Goals as goal

pub returns-in_err-entry-clause-value : goal.returns-in_err-entry-clause-value
returns-in_err-entry-clause-value c =
    let p = err_from_is_err_and c.from_residual-in_err-entry.result c.from_residual-in_err-entry.ensures.1 in
    let before = header_rules c.args.before.now.entries in
    rw (p.1, p.2) (FailsAs-bind c.in_err-entry.field-0.0 (λ accepts. entry_at accepts true (view c.args.value.now)) _ _
    (header_rule_at-free_name before c.args.key.now (view c.args.value.now)
    (list_any-same_text name_key before c.as_str.result.now _ (str_to_ascii_lowercase c.args.key.now) c.is_name_taken.result false c.as_str.ensures.value c.in_ok-name.ensures.ok c.is_name_taken.ensures c.if-is_name_taken.false))
    c.in_err-entry.ensures.reading)
