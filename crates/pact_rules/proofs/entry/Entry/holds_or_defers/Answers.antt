use Rattle.std.proofs.Common.{rules, ◌≡◌, ◌∙◌, List, String, Global, map, option_map, sym, ap}
use Rattle.serde_json.specs.View.{view}
use Rattle.pact_rules.specs.{Deferred.{deferred_by, deferred_hold, gathered_deferred_hold}, Gathered.{asked_by, gathered_hold}, Matching.{holds, entry_holds}}
use Rattle.pact_rules.{specs.{MatcherView.{matcher_view}, RuleViews.{entry_view}}, proofs.GatheredLemmas.{judged-any_or_all}}
use Rattle.pact_rules.proofs.entry.Entry.holds_or_defers.Goals as goal

pub returns-in_ok-holds_or_defers-in-Some-clause-value : goal.returns-in_ok-holds_or_defers-in-Some-clause-value
returns-in_ok-holds_or_defers-in-Some-clause-value c =
    let e = c.args.self.now in
    let g = c.in-Some.many.gathered in
    let x = view c.args.expected.now in
    let y = view c.args.actual.now in
    let own = c.args.own_place in
    let left : (ts : List (String Global)) → deferred_hold e ts ≡ gathered_deferred_hold e.any g ts
    = λ ts. ap (λ o. deferred_by e.any (option_map (λ m. m.gathered) o) ts) c.in-Some.is in
    let whole : gathered_hold e.any g x y own ≡ entry_holds (entry_view e) x y own
    = sym (ap (λ o. asked_by e.any e.matchers.items (option_map (λ m. m.gathered) o) x y own) c.in-Some.is) ∙ e.says x y own ∙ judged-any_or_all e.any (λ m. holds m x y own) (map matcher_view e.matchers.items) in
    search (rules, left, whole)
