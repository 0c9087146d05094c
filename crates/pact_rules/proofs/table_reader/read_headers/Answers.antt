use Rattle.std.proofs.Common.{◌≡◌, ◌∙◌, string_bytes, sym, ap, subst}
use Rattle.pact_rules.specs.{Matching.{is_pattern}, Rules.{put, name_key}, RuleViews.{header_view, header_rules, IsKeyedBy}, Outcome.{◌>>=◌}}
use Rattle.pact_rules.{specs.RuleReading.{no_pattern, header_rule_at, headers_at}, proofs.OrderLemmas.{put-insert_entry, IsKeyedBy-insert_entry}}
use Rattle.pact_rules.proofs.PatternLemmas.{HeaderJoins, HeaderRegex, Goes-next_Pattern, no_pattern-is_pattern, Goes-header_rule_at}
use Rattle.serde_json.specs.View.{view, members_view}
use Rattle.pact_rules.proofs.table_reader.read_headers.Goals as goal

pub loop-key-preserved : goal.loop-key-preserved
loop-key-preserved c =
    let es = c.loop-key.rules.entries in
    let k = string_bytes c.in-Some.key.now in
    let n = view c.in-Some.value.now in
    let left = members_view c.next.new.self in
    let found = c.in_ok-name in
    let r = header_view found.rule in
    let h = c.loop-key.invariant in
    let read = ap (λ k. header_rule_at is_pattern (header_rules es) k n) (sym c.as_str.ensures.value) ∙ found.ensures.value in
    let step = ap members_view c.in-Some.ensures.steps in
    let entries = c.in_ok-insert.ensures.entries in
    let next : header_rules c.insert.new.self.entries ≡ put name_key r (header_rules es) = ap header_rules entries ∙ put-insert_entry header_view name_key es found.name found.rule h.keyed found.ensures.text in record {
      keyed = subst (IsKeyedBy header_view name_key) (sym entries) (IsKeyedBy-insert_entry header_view name_key es found.name found.rule h.keyed found.ensures.text);
      value = ap (λ b. headers_at is_pattern b left) next
          ∙ sym (ap (λ x. x >>= (λ r. headers_at is_pattern (put name_key r (header_rules es)) left)) read)
          ∙ sym (ap (headers_at is_pattern (header_rules es)) step) ∙ h.value;
      stops = λ stop. h.stops (ap (headers_at no_pattern (header_rules es)) step
          ∙ Goes-next_Pattern (HeaderJoins (header_rules es)) HeaderRegex (header_rule_at is_pattern (header_rules es) k n) (header_rule_at no_pattern (header_rules es) k n) (λ r. headers_at no_pattern (put name_key r (header_rules es)) left) r (Goes-header_rule_at no_pattern no_pattern-is_pattern (header_rules es) k n) read
          (ap (λ b. headers_at no_pattern b left) (sym next) ∙ stop));
    }
