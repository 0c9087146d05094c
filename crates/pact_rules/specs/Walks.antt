-- A walk down a tree: the rules that no step has ruled out, each with how many of its tokens equal the step of the
-- same index.
use Rattle.std.specs.Prelude.{◌≡◌, ◌↔◌, ℕ, ◌-◌, ◌^◌, Bool, true, false, ◌==◌, List, length, Option, Some, None, if◌then◌else◌}
use Rattle.std.specs.Prelude.{min, option_and_then, slice_get}
use Rattle.std.specs.List.{Contains}
use Rattle.std.specs.List.Sorted.{IsSortedByKey}
use Rattle.pact_paths.specs.Asked.{asked, asked_cmp}
use Rattle.pact_paths.specs.Paths.{Token, Step, Location}
use Rattle.pact_paths.specs.Weights.{is_alive, exact_tokens}
use Rattle.pact_rules.specs.Rules.{BodyRule, Rules}
use Rattle.pact_rules.specs.Choice.{best}

-- how many steps were taken, and the index and the exact tokens of each rule that is alive
pub record Walk : Type 0 where
  pub steps : ℕ
  pub alive : List (ℕ × ℕ)

-- steps are counted up to what a counter holds, which is more than the tokens of any path
abbrev pub step_count : Location → ℕ
step_count at = min (length at) (2 ^ 64 - 1)

-- a rule that no step of a location rules out, by its index, and how many of its tokens are exact
abbrev pub IsAlive : List BodyRule → Location → ℕ × ℕ → Type 0
IsAlive rules at e =
    (r : BodyRule) × (slice_get rules e.0 ≡ Some r) × (is_alive r.path at ≡ true) × (e.1 ≡ exact_tokens r.path at)

-- what a rule, by its index, asks of the step after so many
abbrev pub rule_asks : List BodyRule → ℕ → ℕ × ℕ → Option Step
rule_asks rules steps e = option_and_then (λ r. asked r.path steps) (slice_get rules e.0)

-- the walk of a table's rules to a location: it has each rule that is alive there, and no other, in the order of what
-- they ask of the next step
pub record IsWalkTo (rules : List BodyRule) (w : Walk) (at : Location) : Type 0 where
  pub steps : w.steps ≡ step_count at
  pub alive : (e : ℕ × ℕ) → Contains w.alive e ↔ IsAlive rules at e
  pub order : IsSortedByKey (rule_asks rules (length at)) asked_cmp w.alive

-- the walk that was started on the table has come to the location
abbrev pub HasReached : Rules → Walk → Location → Type 0
HasReached table w at = IsWalkTo table.body w at

-- the walk was started on the table
abbrev pub WasStarted : Rules → Walk → Type 0
WasStarted table w = (at : Location) × HasReached table w at

-- what is kept of a rule at a location: its index and exact tokens, or nothing
abbrev pub survivor : ℕ → List Token → Location → Option (ℕ × ℕ)
survivor index path at = if is_alive path at then Some (index, exact_tokens path at) else None

-- ---- the own place of a rule

-- a path that has as many tokens as the location has steps
abbrev pub own_place_of : Location → Option (ℕ × BodyRule) → Bool
own_place_of at None = false
own_place_of at (Some b) = length b.1.path == length at

-- whether the location is the own place of the rule that is chosen there; false where none is
abbrev pub own_place : List BodyRule → Location → Bool
own_place rules at = own_place_of at (best rules at)
