use Rattle.std.proofs.Common.{map}
use Rattle.pact_paths.specs.Paths.{Location}
use Rattle.pact_rules.{specs.{RuleViews.{rule_view}, Survivors.{survivor_view, AreLeftAt}}, proofs.WalkLemmas.{IsBestOf}}
use Rattle.pact_rules.proofs.walk.best_alive.Given as goal

-- the best of the entries before the index
abbrev pub invariant-loop-entry : goal.invariant-loop-entry
invariant-loop-entry l =
    (at : Location) → AreLeftAt l.rules l.steps l.entries at → IsBestOf (map rule_view l.rules) at (map survivor_view l.entries) l.entry-index l.found
