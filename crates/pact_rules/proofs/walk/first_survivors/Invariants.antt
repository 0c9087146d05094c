use Rattle.std.{specs.List.{Contains}, proofs.Common.{◌≡◌, ◌≤◌, ◌<◌, ◌↔◌, ℕ, length, map}}
use Rattle.pact_rules.specs.Survivors.{survivor_view}
use Rattle.pact_rules.proofs.walk.first_survivors.Given as goal

-- the rules below the index are in
abbrev pub invariant-loop-index : goal.invariant-loop-index
invariant-loop-index l =
    (l.index ≤ length l.rules)
    × ((e : ℕ × ℕ) → Contains (map survivor_view l.entries.items) e ↔ ((e.0 < l.index) × (e.1 ≡ 0)))
