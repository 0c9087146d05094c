use Rattle.std.{specs.List.{filter}, proofs.{Common.{◌∙◌, map, ap}, lemmas.Result.{err_from_is_err_and}}}
use Rattle.pact_rules.specs.{Rules.{BodyRule, HeaderRule, Rules, has_effect}, RuleViews.{rule_view, header_view}}
use Rattle.pact_rules.proofs.ReadingLemmas.{IsReading-of_found_in, IsReading-of_FailsAs}
use Rattle.serde_json.specs.View.{view}
use Rattle.pact_rules.proofs.table.RuleTable.read_with.Goals as goal

pub returns-in_err-body-clause-reading : goal.returns-in_err-body-clause-reading
returns-in_err-body-clause-reading c =
    let p = err_from_is_err_and c.from_residual.result c.from_residual.ensures.1 in
    rw (p.1, p.2) (IsReading-of_FailsAs (view c.args.value.now) c.in_err-body.field-0.0 c.in_err-body.ensures.reading)

pub invariant_of-result : goal.invariant_of-result
invariant_of-result c =
    (IsReading-of_found_in (view c.args.value.now) c.in_ok-body.field-0 (record { body = map rule_view c.in_ok-body-2.body.items; headers = map header_view c.in_ok-headers.headers.items }) c.in_ok-body.ensures.reading
    (c.in_ok-body-2.ensures ∙ ap (λ (r : Rules). filter (λ (b : BodyRule). has_effect b.entry) r.body) c.body.view_is)
    (c.in_ok-headers.ensures ∙ ap (λ (r : Rules). filter (λ (h : HeaderRule). has_effect h.entry) r.headers) c.body.view_is)).1

pub returns-clause-reading : goal.returns-clause-reading
returns-clause-reading c =
    (IsReading-of_found_in (view c.args.value.now) c.in_ok-body.field-0 (record { body = map rule_view c.in_ok-body-2.body.items; headers = map header_view c.in_ok-headers.headers.items }) c.in_ok-body.ensures.reading
    (c.in_ok-body-2.ensures ∙ ap (λ (r : Rules). filter (λ (b : BodyRule). has_effect b.entry) r.body) c.body.view_is)
    (c.in_ok-headers.ensures ∙ ap (λ (r : Rules). filter (λ (h : HeaderRule). has_effect h.entry) r.headers) c.body.view_is)).0
