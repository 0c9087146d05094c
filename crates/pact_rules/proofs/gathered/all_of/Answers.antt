use Rattle.std.{specs.List.{list_any}, proofs.{Common.{◌≡◌, ◌∙◌, true, [], ◌∷◌, ◌+◌, map, drop, sym, ap, arith}, lemmas.List.{drop_more, drop_all}}}
use Rattle.pact_rules.specs.{Gathered.{joined, judged, gathered_hold, has_pattern}, Matching.{holds}, MatcherView.{matcher_view}, Rules.{is_regex}}
use Rattle.pact_rules.proofs.GatheredLemmas.{judged-next, judged-end}
use Rattle.pact_rules.proofs.gathered.all_of.Goals as goal

pub loop-matcher-preserved : goal.loop-matcher-preserved
loop-matcher-preserved c =
    let xs = c.deref-matcher-items.result.now in
    let i = c.loop-matcher.matcher-index in
    let x = c.matcher-item.result in
    let left = map matcher_view (drop (i + 1) xs) in
    let all = map matcher_view c.args.matchers.now.items in
    let here : map matcher_view (drop i xs) ≡ matcher_view x ∷ left = ap (map matcher_view) (drop_more xs i x (omega arith) ∙ ap (λ y. y ∷ drop (i + 1) xs) (sym c.matcher-item.is)) in record {
      says = λ any x y own. judged-next any (λ m. holds m x y own) (gathered_hold any c.loop-matcher.all x y own) _ (judged any (λ m. holds m x y own) all) (matcher_view c.matcher-item.result) left
          (c.in_ok-add.ensures.says any x y own) (ap (λ ms. joined any (gathered_hold any c.loop-matcher.all x y own) (judged any (λ m. holds m x y own) ms)) (sym here) ∙ c.loop-matcher.invariant.says any x y own);
      patterns = judged-next true is_regex (has_pattern c.loop-matcher.all) _ (list_any is_regex all) (matcher_view x) left c.in_ok-add.ensures.patterns
          (ap (λ ms. joined true (has_pattern c.loop-matcher.all) (list_any is_regex ms)) (sym here) ∙ c.loop-matcher.invariant.patterns);
    }

pub returns-clause-says : goal.returns-clause-says
returns-clause-says c = λ any x y own.
    let xs = c.deref-matcher-items.result.now in
    let l = c.loop-matcher in
    let none : map matcher_view (drop l.matcher-index xs) ≡ [] = ap (map matcher_view) (drop_all l.matcher-index xs (omega arith)) in
    judged-end any (λ m. holds m x y own) (gathered_hold any l.all x y own) _
    (ap (λ ms. joined any (gathered_hold any l.all x y own) (judged any (λ m. holds m x y own) ms)) (sym none) ∙ l.invariant.says any x y own)
