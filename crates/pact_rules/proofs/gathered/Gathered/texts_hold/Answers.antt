use Rattle.std.proofs.Common.{◌≡◌, ◌∙◌, None, option_map, string_bytes, sym, ap}
use Rattle.serde_json.specs.View.{view}
use Rattle.pact_rules.specs.{Gathered.{joined, judged}, Matching.{passes, contains, is_found, pattern_of, text_form}}
use Rattle.pact_rules.proofs.gathered.Gathered.texts_hold.Goals as goal

pub returns-in-None-clause-value : goal.returns-in-None-clause-value
returns-in-None-clause-value c = λ x own.
    let any = c.args.any in
    let g = c.args.self.now in
    let no_text : None ≡ text_form (view c.args.actual.now) = ap (option_map (λ s. string_bytes s)) (sym c.in-None.is) ∙ c.in_ok-text.ensures in
    c.join.ensures ∙ (λ i. joined any (c.nothing_holds.ensures i) (c.nothing_holds-in-None.ensures i))
    ∙ ap (λ o. joined any (judged any (λ s. passes (contains (string_bytes s)) o) g.parts.items) (judged any (λ s. passes (is_found (pattern_of (string_bytes s))) o) g.patterns.items)) no_text
