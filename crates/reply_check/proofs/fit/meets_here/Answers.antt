use Rattle.std.{specs.List.{list_any}, proofs.{Common.{rules, ◌≡◌, ◌∙◌, ◌&&◌, true, sym, ap}, Math.Bool.{and_comm}, lemmas.Result.{IfOk-weaker}}}
use Rattle.pact_rules.specs.{Rules.{is_regex, has_regex}, RuleViews.{entry_view}}
use Rattle.serde_json.specs.View.{view}
use Rattle.reply_check.{specs.Deferred.{deferred_holds}, proofs.WalkLemmas.{meets_here-chosen, has_regex-body_entry}}
use Rattle.reply_check.proofs.fit.meets_here.Goals as goal

pub returns-then-has_patterns-clause-value : goal.returns-then-has_patterns-clause-value
returns-then-has_patterns-clause-value c =
    let r = c.args.rules.now in
    let e = entry_view c.entry.result.now in
    let x = view c.args.expected.now in
    let y = view c.args.actual.now in
    IfOk-weaker c.holds_or_defers.result _ _ (λ b value at h. value e c.entry.ensures
    ∙ ap (λ a. deferred_holds c.args.deferred.now && a) (meets_here-chosen r at c.in-Some.index e x y c.own_place-own_place.result (sym c.in-Some.is ∙ c.chosen.ensures.computed at h) c.entry.ensures (c.own_place-own_place.ensures.computed at h)))
    c.holds_or_defers.ensures.value

pub returns-else-may_forget-clause-value : goal.returns-else-may_forget-clause-value
returns-else-may_forget-clause-value c =
    let r = c.args.rules.now in
    let e = entry_view c.entry-else-may_forget.result.now in
    let x = view c.args.expected.now in
    let y = view c.args.actual.now in
    let old = deferred_holds c.args.deferred.now in
    IfOk-weaker c.entry_holds.result _ _ (λ b value at h. and_comm b old
    ∙ ap (λ a. old && a) (value ∙ meets_here-chosen r at c.in-Some.index e x y c.own_place-own_place.result (sym c.in-Some.is ∙ c.chosen.ensures.computed at h) c.entry-else-may_forget.ensures (c.own_place-own_place.ensures.computed at h)))
    c.entry_holds.ensures.value

pub returns-else-may_forget-clause-pattern : goal.returns-else-may_forget-clause-pattern
returns-else-may_forget-clause-pattern c =
    let found : list_any is_regex (entry_view c.entry-else-may_forget.result.now).matchers ≡ true → has_regex c.args.rules.now ≡ true = has_regex-body_entry c.args.rules.now c.in-Some.index (entry_view c.entry-else-may_forget.result.now) c.entry-else-may_forget.ensures in
    search (rules, found)
