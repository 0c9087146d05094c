use Rattle.std.proofs.Common.{◌≡◌, drop, map}
use Rattle.pact_rules.{specs.{Choice.{best}, RuleViews.{rule_view}}, proofs.ChoiceLemmas.{as_candidate}}
use Rattle.pact_paths.specs.Locations.{step_view}
use Rattle.pact_rules.proofs.table.best_of.Given as goal

-- the best of the rules from the index on
abbrev pub invariant-loop-index : goal.invariant-loop-index
invariant-loop-index l =
    l.found ≡ as_candidate l.index (map step_view l.location) (best (drop l.index (map rule_view l.rules)) (map step_view l.location))
