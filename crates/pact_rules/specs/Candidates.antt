-- For private clauses: rules beside their weights, as `best_of` compares them.
use Rattle.std.specs.Prelude.{Bool, ◌&&◌, ◌||◌, ◌==◌, nat_lt, Option, Some, None, if◌then◌else◌}
use Rattle.pact_rules.specs.Choice.{outranks}
use Rattle.pact_rules.specs.declared.table.Candidate.{Candidate}

-- heavier, or as heavy and longer
abbrev pub outweighs : Candidate → Candidate → Bool
outweighs a b = nat_lt b.weight a.weight || (a.weight == b.weight && nat_lt b.tokens a.tokens)

-- the earlier rule, unless the one found after it outweighs it; a rule of no weight is never taken
abbrev pub better_of : Candidate → Option Candidate → Option Candidate
better_of earlier None = if nat_lt 0 earlier.weight then Some earlier else None
better_of earlier (Some found) = if outweighs found earlier then Some found else Some earlier

-- heavier, or as heavy and longer, or else of a lower index
abbrev pub outdoes : Candidate → Candidate → Bool
outdoes a b = outranks a.weight b.weight a.tokens b.tokens (nat_lt a.index b.index)

-- the better of the two, in whichever order they come; a rule of no weight is never one
abbrev pub preferred : Candidate → Option Candidate → Option Candidate
preferred one None = if nat_lt 0 one.weight then Some one else None
preferred one (Some found) = if outdoes one found then Some one else Some found
