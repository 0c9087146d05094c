-- The rule that is chosen at a location.
use Rattle.std.specs.Prelude.{◌≡◌, ◌≢◌, ◌⊎◌, ◌<◌, ℕ, ◌+◌, Bool, ◌&&◌, ◌||◌, ◌==◌, nat_lt, List, [], ◌∷◌, length, Option, Some, None, MatchOption, option_map, slice_get, if◌then◌else◌}
use Rattle.std.specs.Ordering.{nat_cmp, is_lt}
use Rattle.std.specs.Cmp.Lexicographic.{slice_cmp}
use Rattle.pact_paths.specs.Paths.{Location}
use Rattle.pact_paths.specs.Spelling.{path_text}
use Rattle.pact_paths.specs.Weights.{weight}
use Rattle.pact_rules.specs.Rules.{BodyRule, IsBefore}

-- the heavier one; then the one with more tokens; then the one whose canonical text is less
abbrev pub Beats : Location → BodyRule → BodyRule → Type 0
Beats at a b =
    (weight b.path at < weight a.path at)
    ⊎ ((weight b.path at ≡ weight a.path at)
    × ((length b.path < length a.path)
    ⊎ ((length b.path ≡ length a.path) × IsBefore (path_text a.path) (path_text b.path))))

-- the rule of positive weight that beats each other one of positive weight
abbrev pub IsChosen : List BodyRule → Location → ℕ → Type 0
IsChosen rules at i =
    (r : BodyRule) × (slice_get rules i ≡ Some r) × (0 < weight r.path at)
    × ((j : ℕ) (s : BodyRule) → slice_get rules j ≡ Some s → j ≢ i → 0 < weight s.path at → Beats at r s)

-- no rule is chosen if none has a positive weight, and else the choice is the chosen rule
abbrev pub IsChoice : List BodyRule → Location → Option ℕ → Type 0
IsChoice rules at choice =
    MatchOption choice ((j : ℕ) (s : BodyRule) → slice_get rules j ≡ Some s → weight s.path at ≡ 0) (IsChosen rules at)

-- the location is the own place of the rule that is chosen there: its path has as many tokens as the location has steps
abbrev pub IsOwnPlace : List BodyRule → Location → Type 0
IsOwnPlace rules at =
    (i : ℕ) × (r : BodyRule) × IsChosen rules at i × (slice_get rules i ≡ Some r) × (length r.path ≡ length at)

-- ---- the same, computed

-- greater in the first number, or else in the second, or else by the test
abbrev pub outranks : ℕ → ℕ → ℕ → ℕ → Bool → Bool
outranks v w l m less = nat_lt w v || (w == v && (nat_lt m l || (m == l && less)))

abbrev pub beats : Location → BodyRule → BodyRule → Bool
beats at a b =
    outranks (weight a.path at) (weight b.path at) (length a.path) (length b.path)
    (is_lt (slice_cmp nat_cmp (path_text a.path) (path_text b.path)))

-- the first rule, beside the best of those that follow with its index
abbrev pub pick : Location → BodyRule → Option (ℕ × BodyRule) → Option (ℕ × BodyRule)
pick at r None = if nat_lt 0 (weight r.path at) then Some (0, r) else None
pick at r (Some best) = if beats at best.1 r then Some (best.0 + 1, best.1) else Some (0, r)

abbrev pub best : List BodyRule → Location → Option (ℕ × BodyRule)
best [] at = None
best (r ∷ rules) at = pick at r (best rules at)

abbrev pub chosen : List BodyRule → Location → Option ℕ
chosen rules at = option_map (λ b. b.0) (best rules at)
