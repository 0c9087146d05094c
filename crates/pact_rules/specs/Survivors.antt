-- For private clauses: the entries of a walk as the code keeps them.
use Rattle.std.specs.Prelude.{◌≡◌, ◌≤◌, ◌<◌, ℕ, true, List, length, map, Option, Some, option_map, slice_get}
use Rattle.pact_paths.specs.Paths.{Token, Step, Location}
use Rattle.pact_paths.specs.Weights.{is_alive, exact_tokens}
use Rattle.pact_rules.specs.RuleViews.{rule_view}
use Rattle.pact_rules.specs.Rules as rules
use Rattle.pact_rules.specs.Walks.{IsWalkTo, IsAlive, rule_asks, step_count}
use Rattle.pact_rules.specs.declared.table.BodyRule.{BodyRule}
use Rattle.pact_rules.specs.declared.walk.Survivor.{Survivor}

-- the index of an entry's rule, and how many of its tokens are exact
abbrev pub survivor_view : Survivor → ℕ × ℕ
survivor_view s = (s.index, s.exact)

-- the entries, after so many steps, are the walk of the rules to the location
abbrev pub AreLeftAt : List BodyRule → ℕ → List Survivor → Location → Type 0
AreLeftAt rules steps entries at =
    IsWalkTo (map rule_view rules) (record { steps = steps; alive = map survivor_view entries }) at

-- after so many steps the location leaves the path alive, with so many exact tokens
abbrev pub IsLeftAt : List Token → ℕ → ℕ → Location → Type 0
IsLeftAt path steps exact at = (steps ≡ step_count at) × (is_alive path at ≡ true) × (exact ≡ exact_tokens path at)

-- the rule of one of the entries from one place up to another is alive at the location
abbrev pub StaysOf : List rules.BodyRule → List (ℕ × ℕ) → ℕ → ℕ → Location → ℕ × ℕ → Type 0
StaysOf rules entries from to at e =
    (k : ℕ) × (from ≤ k) × (k < to) × (option_map (λ x. x.0) (slice_get entries k) ≡ Some e.0) × IsAlive rules at e

-- the same, of the entries as the code keeps them
abbrev pub IsLeftOf : List BodyRule → List Survivor → ℕ → ℕ → Location → ℕ × ℕ → Type 0
IsLeftOf rules entries from to at e = StaysOf (map rule_view rules) (map survivor_view entries) from to at e

-- each entry that asks this of the next step is between the two places
abbrev pub IsRunOf : List BodyRule → List Survivor → Option Step → ℕ → ℕ → Location → Type 0
IsRunOf rules entries wanted from to at =
    (k : ℕ) (e : ℕ × ℕ) → slice_get (map survivor_view entries) k ≡ Some e
    → rule_asks (map rule_view rules) (length at) e ≡ wanted → (from ≤ k) × (k < to)
