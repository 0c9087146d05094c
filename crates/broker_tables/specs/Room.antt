-- How many rows more the tables have numbers for. To a row of a table without an INTEGER PRIMARY KEY SQLite gives the
-- number after the last row's, and it has none above 2^63 - 1.
use Rattle.std.specs.Prelude.{◌≡◌, ◌+◌, ◌<◌, ◌^◌, ℕ, pos, codes, List, [], ◌∷◌}
use Rattle.std.specs.List.{AllByRecursion}
use Rattle.sqlite.specs.declared.types.Value.TheVariants.{Int}
use Rattle.sqlite.specs.Effect.{Database}
use Rattle.sqlite.specs.Order.{Row}
use Rattle.sqlite.specs.Tree.{rowid}
use Rattle.broker_tables.specs.Rows.{rows_of}

-- the tables to whose rows SQLite gives numbers
abbrev pub counted_tables : List (List ℕ)
counted_tables =
    codes "teams" ∷ codes "pacticipants" ∷ codes "branches" ∷ codes "environments" ∷ codes "strict_environments"
    ∷ codes "grants" ∷ codes "contracts" ∷ codes "latest" ∷ codes "deployed" ∷ codes "released" ∷ []

-- above the row's number there are so many more
abbrev pub LeavesAbove : ℕ → Row → Type 0
LeavesAbove n row = (number : ℕ) × (rowid row ≡ Int (pos number)) × (number + n < 2 ^ 63)

-- and above each of these
abbrev pub LeaveNumbers : ℕ → List Row → Type 0
LeaveNumbers n rows = (n < 2 ^ 63) × AllByRecursion (LeavesAbove n) rows

-- each table of the broker has numbers for so many rows more
abbrev pub HasRoomFor : ℕ → Database → Type 0
HasRoomFor n db = AllByRecursion (λ name. LeaveNumbers n (rows_of db name)) counted_tables

-- each has all numbers that there are
abbrev pub HasAllNumbers : Database → Type 0
HasAllNumbers db = (n : ℕ) → n < 2 ^ 63 → HasRoomFor n db

-- from one to the other at most so many numbers of a table were taken
abbrev pub TakesRoom : ℕ → Database → Database → Type 0
TakesRoom taken old new = (n : ℕ) → HasRoomFor (n + taken) old → HasRoomFor n new

-- more than a command takes
abbrev pub enough : ℕ
enough = 8
