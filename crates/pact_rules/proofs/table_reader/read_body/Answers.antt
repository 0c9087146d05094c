use Rattle.std.proofs.Common.{◌≡◌, ◌∙◌, string_bytes, sym, ap, subst}
use Rattle.pact_rules.specs.{Matching.{is_pattern}, Rules.{put, rule_text}, RuleViews.{rule_view, body_rules, IsKeyedBy}, Outcome.{◌>>=◌}}
use Rattle.pact_rules.{specs.RuleReading.{no_pattern, body_rule_at, body_at}, proofs.OrderLemmas.{put-insert_entry, IsKeyedBy-insert_entry}}
use Rattle.pact_rules.proofs.PatternLemmas.{BodyJoins, BodyRegex, Goes-next_Pattern, no_pattern-is_pattern, Goes-body_rule_at}
use Rattle.serde_json.specs.View.{view, members_view}
use Rattle.pact_paths.specs.PathReading.{computed_path}
use Rattle.pact_rules.proofs.table_reader.read_body.Goals as goal

pub loop-key-preserved : goal.loop-key-preserved
loop-key-preserved c =
    let es = c.loop-key.rules.entries in
    let k = string_bytes c.in-Some.key.now in
    let n = view c.in-Some.value.now in
    let left = members_view c.next.new.self in
    let found = c.in_ok-text in
    let r = rule_view found.rule in
    let h = c.loop-key.invariant in
    let read = ap (λ k. body_rule_at computed_path is_pattern (body_rules es) k n) (sym c.as_str.ensures.value) ∙ found.ensures.value in
    let step = ap members_view c.in-Some.ensures.steps in
    let entries = c.in_ok-insert.ensures.entries in
    let next : body_rules c.insert.new.self.entries ≡ put rule_text r (body_rules es) = ap body_rules entries ∙ put-insert_entry rule_view rule_text es found.text found.rule h.keyed found.ensures.text in record {
      keyed = subst (IsKeyedBy rule_view rule_text) (sym entries) (IsKeyedBy-insert_entry rule_view rule_text es found.text found.rule h.keyed found.ensures.text);
      value = ap (λ b. body_at is_pattern b left) next
          ∙ sym (ap (λ x. x >>= (λ r. body_at is_pattern (put rule_text r (body_rules es)) left)) read)
          ∙ sym (ap (body_at is_pattern (body_rules es)) step) ∙ h.value;
      stops = λ stop. h.stops (ap (body_at no_pattern (body_rules es)) step
          ∙ Goes-next_Pattern (BodyJoins (body_rules es)) BodyRegex (body_rule_at computed_path is_pattern (body_rules es) k n) (body_rule_at computed_path no_pattern (body_rules es) k n) (λ r. body_at no_pattern (put rule_text r (body_rules es)) left) r (Goes-body_rule_at no_pattern no_pattern-is_pattern (body_rules es) k n) read
          (ap (λ b. body_at no_pattern b left) (sym next) ∙ stop));
    }
