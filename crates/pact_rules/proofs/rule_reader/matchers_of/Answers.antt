use Rattle.pact_rules.specs.{Matching.{is_pattern}, RuleViews.{matcher_view}, RuleReading.{no_pattern, matchers_at}}
use Rattle.pact_rules.proofs.PatternLemmas.{with_front, with_front-matchers_at, matchers_at-later_Pattern}
use Rattle.serde_json.specs.{Data.{item}, View.{view, items_view}}
use Rattle.std.proofs.{Common.{◌≡◌, ◌∙◌, ◌++◌, ◌∷◌, [], ◌+◌, map, drop, sym, ap, arith}, lemmas.List.{map_push, drop_more}}
use Rattle.pact_rules.proofs.rule_reader.matchers_of.Goals as goal

pub loop-item-preserved : goal.loop-item-preserved
loop-item-preserved c =
    let h = c.args.in_header in
    let xs = c.deref-item-items.result.now in
    let i = c.loop-item.item-index in
    let x = c.item-item.result in
    let m = c.in_ok-matcher_of.field-0 in
    let ns = items_view (drop (i + 1) xs) in
    let ms = map matcher_view c.loop-item.matchers.items in
    let here : items_view (drop i xs) ≡ item (view x) ns = ap items_view (drop_more xs i x (omega arith) ∙ ap (λ y. y ∷ drop (i + 1) xs) (sym c.item-item.is)) in
    let pushed : map matcher_view c.push.new.self.items ≡ ms ++ matcher_view m ∷ [] = ap (map matcher_view) c.in_ok-push.ensures.items ∙ map_push matcher_view c.loop-item.matchers.items m in record {
      value = ap (λ ys. with_front ys (matchers_at is_pattern h ns)) pushed ∙ sym (with_front-matchers_at h ms (view x) ns (matcher_view m) c.in_ok-matcher_of.ensures)
          ∙ ap (λ left. with_front ms (matchers_at is_pattern h left)) (sym here) ∙ c.loop-item.invariant.value;
      stops = λ stop. c.loop-item.invariant.stops (ap (matchers_at no_pattern h) here ∙ matchers_at-later_Pattern h (view x) ns (matcher_view m) c.in_ok-matcher_of.ensures stop);
    }
