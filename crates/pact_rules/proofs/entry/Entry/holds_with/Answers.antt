use Rattle.std.proofs.Common.{◌∙◌, map, option_map, sym, ap}
use Rattle.serde_json.specs.View.{view}
use Rattle.pact_rules.{specs.{Gathered.{asked_by}, Matching.{holds}, MatcherView.{matcher_view}}, proofs.GatheredLemmas.{judged-any_or_all}}
use Rattle.pact_rules.proofs.entry.Entry.holds_with.Goals as goal

pub returns-in_ok-hold-in-Some-clause-value : goal.returns-in_ok-hold-in-Some-clause-value
returns-in_ok-hold-in-Some-clause-value c =
    let e = c.args.self.now in
    let x = view c.args.expected.now in
    let y = view c.args.actual.now in
    let own = c.args.own_place in
    c.in_ok-hold-in-Some.ensures.value ∙ sym (ap (λ o. asked_by e.any e.matchers.items (option_map (λ m. m.gathered) o) x y own) c.in-Some.is) ∙ e.says x y own ∙ judged-any_or_all e.any (λ m. holds m x y own) (map matcher_view e.matchers.items)
