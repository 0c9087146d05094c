use Rattle.std.proofs.Common.{◌∙◌, string_bytes, sym, ap}
use Rattle.pact_rules.specs.{Matching.{is_pattern}, Outcome.{◌>>=◌}, RuleReading.{no_pattern, category_at, categories_at}}
use Rattle.pact_rules.proofs.PatternLemmas.{StillHeld, HasRegex, Goes-next_Pattern, no_pattern-is_pattern, Goes-category_at}
use Rattle.serde_json.specs.View.{view, members_view}
use Rattle.pact_paths.specs.PathReading.{computed_path}
use Rattle.pact_rules.proofs.table_reader.categories.Goals as goal

pub loop-name-preserved : goal.loop-name-preserved
loop-name-preserved c =
    let before = c.loop-name.found in
    let k = string_bytes c.in-Some.name.now in
    let n = view c.in-Some.value.now in
    let left = members_view c.next.new.self in
    let found = c.in_ok-found in
    let h = c.loop-name.invariant in
    let read = ap (λ k. category_at computed_path is_pattern before k n) (sym c.as_str.ensures.value) ∙ found.ensures in
    let step = ap members_view c.in-Some.ensures.steps in record {
      value = sym (ap (λ x. x >>= (λ f. categories_at computed_path is_pattern f left)) read) ∙ sym (ap (categories_at computed_path is_pattern before) step) ∙ h.value;
      stops = λ stop. h.stops (ap (categories_at computed_path no_pattern before) step
          ∙ Goes-next_Pattern (StillHeld before) HasRegex (category_at computed_path is_pattern before k n) (category_at computed_path no_pattern before k n) (λ f. categories_at computed_path no_pattern f left) found.found (Goes-category_at no_pattern no_pattern-is_pattern before k n) read stop);
    }
