use Rattle.std.{specs.List.{Contains}, proofs.Common.{◌≡◌, ◌≤◌, ◌⊎◌, ◌↔◌, ◌++◌, [], ◌∷◌, ℕ, map}}
use Rattle.pact_paths.specs.{Paths.{Location}, Locations.{step_view}}
use Rattle.pact_rules.specs.{RuleViews.{rule_view}, Survivors.{survivor_view, AreLeftAt, StaysOf}}
use Rattle.pact_rules.proofs.walk.survivors_of_run.Given as goal

-- what the step leaves of those before the index
abbrev pub invariant-loop-index : goal.invariant-loop-index
invariant-loop-index l =
    (l.fn.run.from ≤ l.index) × ((l.index ≤ l.fn.run.to) ⊎ (l.index ≡ l.fn.run.from))
    × ((at : Location) → AreLeftAt l.rules l.steps l.entries at → (e : ℕ × ℕ) → Contains (map survivor_view l.left.items) e
    ↔ StaysOf (map rule_view l.rules) (map survivor_view l.entries) l.fn.run.from l.index (at ++ step_view l.step ∷ []) e)
