use Rattle.pact_rules.specs.{Choice.{IsChoice}, RuleViews.{rule_view}, Survivors.{survivor_view}, declared.table.Candidate.{Candidate}}
use Rattle.pact_rules.proofs.WalkLemmas.{IsWalkTo-entry, exact_tokens-within_path, IsBestOf, IsBestOf-preferred, IsChoice-of_IsBestOf}
use Rattle.std.proofs.{Common.{rules as all_rules, ◌≡◌, ◌∙◌, ◌+◌, List, map, length, option_map, sym, ap, subst, arith}, lemmas.List.{length-map}}
use Rattle.std.proofs.lemmas.Option.{slice_get_within}
use Rattle.pact_paths.specs.{Paths.{Token}, Weights.{is_alive, exact_tokens, weight}}
use Rattle.pact_rules.proofs.walk.best_alive.Goals as goal

pub path_at-path-requires : goal.path_at-path-requires
path_at-path-requires c =
    let rules = map rule_view c.args.rules.now in
    let s = c.requires.started in
    let h = IsWalkTo-entry rules c.args.steps c.args.entries.now s.0 c.loop-entry.entry-index (record { index = 0; exact = 0 }) s.1 (omega arith) in
    omega (arith, slice_get_within rules _ h.1.0 h.1.1, length-map c.args.rules.now rule_view)

pub candidate-requires : goal.candidate-requires
candidate-requires c =
    let rules = map rule_view c.args.rules.now in
    let s = c.requires.started in
    let h = IsWalkTo-entry rules c.args.steps c.args.entries.now s.0 c.loop-entry.entry-index (record { index = 0; exact = 0 }) s.1 (omega arith) in
    exact_tokens-within_path _ c.path_at-path.result.now s.0 (h.1.3 ∙ ap (λ p. exact_tokens p s.0) (sym (c.path_at-path.ensures h.1.0 h.1.1)))

pub loop-entry-preserved : goal.loop-entry-preserved
loop-entry-preserved c = λ at w.
    let rules = map rule_view c.args.rules.now in
    let i = c.loop-entry.entry-index in
    let h = IsWalkTo-entry rules c.args.steps c.args.entries.now at i (record { index = 0; exact = 0 }) w (omega arith) in
    let same : c.path_at-path.result.now ≡ h.1.0.path = c.path_at-path.ensures h.1.0 h.1.1 in
    let heavy = c.candidate.ensures.weight at (w.steps, ap (λ p. is_alive p at) same ∙ h.1.2, h.1.3 ∙ ap (λ p. exact_tokens p at) (sym same)) in
    subst (IsBestOf rules at (map survivor_view c.args.entries.now) (i + 1)) (sym c.preferred-found.ensures)
    (IsBestOf-preferred rules at (map survivor_view c.args.entries.now) i c.candidate.result c.loop-entry.found _ h.1.0 c.candidate.ensures.index (heavy ∙ ap (λ p. weight p at) same) (c.candidate.ensures.tokens ∙ ap (λ (p : List Token). length p) same) h.0 h.1.1 (c.loop-entry.invariant at w))

pub returns : goal.returns
returns c = λ at w.
    let rules = map rule_view c.args.rules.now in
    let placed : c.map.result ≡ option_map (λ (x : Candidate). x.index) c.loop-entry.found = search all_rules in
    subst (IsChoice rules at) (sym placed)
    (IsChoice-of_IsBestOf rules (record { steps = c.args.steps; alive = map survivor_view c.args.entries.now }) at c.loop-entry.entry-index c.loop-entry.found c.requires.order w
    (omega (arith, length-map c.args.entries.now survivor_view, c.loop-entry-test.false)) (c.loop-entry.invariant at w))
