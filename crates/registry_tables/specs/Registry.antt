-- What each change of the registry makes of a state, and where it may be asked for.
use Rattle.std.specs.Prelude.{◌≡◌, ◌+◌, ◌<◌, ◌≤◌, ℕ, Option, MatchOption, Bool, IsTrue, true, false, [], ◌∷◌, ◌++◌, Some, None, is_some, length, codes}
use Rattle.broker_core.specs.Text.{Text, put_at, same_text, same_pair, same_version}
use Rattle.broker_core.specs.declared.command.Version.{Version}
use Rattle.broker_core.specs.declared.command.Marks.{Marks}
use Rattle.broker_core.specs.Request.{is_known}
use Rattle.broker_core.specs.Limit.{has_room}
use Rattle.broker_core.specs.State.{State}
use Rattle.std.specs.List.{AllByRecursion}
use Rattle.sqlite.specs.Effect.{Database}
use Rattle.table_access.specs.Sound.{IsKept}
use Rattle.broker_tables.specs.Numbers.{number_of}
use Rattle.broker_tables.specs.Schema.{schema_of, registry_part}
use Rattle.broker_tables.specs.Readable.{IsReadable}
use Rattle.broker_tables.specs.Rows.{rows_of}
use Rattle.broker_tables.specs.Holds.{Holds, IsMeta}

-- the name is new, and no team has a token of this digest
abbrev pub AddsTeam : Text → Text → State → State → Type 0
AddsTeam team digest s t =
    (s.teams team ≡ None) × ((other : Text) → ¬ (s.teams other ≡ Some digest))
    × (t ≡ record s { teams = put_at same_text s.teams team (Some digest) })

-- the name is new, and the team is there
abbrev pub AddsPacticipant : Text → Text → State → State → Type 0
AddsPacticipant p team s t =
    (s.pacticipants p ≡ None) × IsTrue (is_some (s.teams team))
    × (t ≡ record s { pacticipants = put_at same_text s.pacticipants p (Some team) })

-- the team and the environment are there, and the grant isn't
abbrev pub AddsGrant : Text → Text → State → State → Type 0
AddsGrant team e s t =
    IsTrue (is_some (s.teams team)) × IsTrue (is_some (s.environments e)) × (s.grants (team, e) ≡ false)
    × (t ≡ record s { grants = put_at (same_pair same_text same_text) s.grants (team, e) true })

-- the grant is there, and is taken out
abbrev pub RemovesGrant : Text → Text → State → State → Type 0
RemovesGrant team e s t = (s.grants (team, e) ≡ true)
    × (t ≡ record s { grants = put_at (same_pair same_text same_text) s.grants (team, e) false })

abbrev pub marks : Bool → Bool → Marks
marks gated strict = record { gated = gated; strict = strict }

-- the name is new
abbrev pub AddsEnvironment : Text → Marks → State → State → Type 0
AddsEnvironment e marks s t = (s.environments e ≡ None)
    × (t ≡ record s { environments = put_at same_text s.environments e (Some marks) })

-- the environment is there
abbrev pub MakesStrict : Text → State → State → Type 0
MakesStrict e s t = (m : Marks) × (s.environments e ≡ Some m)
    × (t ≡ record s { environments = put_at same_text s.environments e (Some (marks m.gated true)) })

-- For private clauses: a new environment is put in, and no environment becomes strict by it.
abbrev pub KeepsStrict : Text → Database → Database → Type 0
KeepsStrict e old new =
    (s : State) → Holds old s → s.environments e ≡ None
    → rows_of new (codes "strict_environments") ≡ rows_of old (codes "strict_environments")

-- the version is new, its pacticipant is there, and there is room for one more
abbrev pub AllowsVersion : Version → State → Type 0
AllowsVersion v s = (is_known s v ≡ false) × IsTrue (is_some (s.pacticipants v.pacticipant))
    × (has_room s.versions ≡ true)

-- and the number is the next
abbrev pub AllowsVersionAs : ℕ → Version → State → Type 0
AllowsVersionAs number v s = AllowsVersion v s × (number ≡ length s.versions + 1)

-- the environment is there and isn't strict
abbrev pub IsLenient : Text → State → Type 0
IsLenient e s = (m : Marks) × (s.environments e ≡ Some m) × (m.strict ≡ false)

-- a version is allowed, and how many there are can be read back
abbrev pub CanAddVersion : Version → State → Type 0
CanAddVersion v s = IsReadable s × AllowsVersion v s

-- the version is the last one and has the next number, which is the one that is answered; it is on no branch
abbrev pub AddsVersion : Version → ℕ → State → State → Type 0
AddsVersion v number s t =
    (t ≡ record s { versions = s.versions ++ v ∷ [] }) × (number ≡ length s.versions + 1)
    × (number_of t.versions v ≡ Some number) × ((branch : Text) → t.branches (v, branch) ≡ false)

-- the version is new, and the number is the next
abbrev pub PutsVersion : ℕ → Version → State → State → Type 0
PutsVersion number v s t = (is_known s v ≡ false) × (number ≡ length s.versions + 1)
    × (t ≡ record s { versions = s.versions ++ v ∷ [] })

-- the version with this number isn't on the branch
abbrev pub AddsBranch : ℕ → Text → State → State → Type 0
AddsBranch number branch s t =
    (v : Version) × (number_of s.versions v ≡ Some number) × (s.branches (v, branch) ≡ false)
    × (t ≡ record s { branches = put_at (same_pair same_version same_text) s.branches (v, branch) true })

-- in a database with the tables of the registry, of which meta has no row: meta has this one, and all other rows stay
-- for private clauses: the tables of the registry are there, and meta has no row
abbrev pub HasEmptyRegistry : Database → Type 0
HasEmptyRegistry db = (db.schema ≡ schema_of registry_part) × IsKept db × (rows_of db (codes "meta") ≡ [])

abbrev pub PutsMeta : ℕ → Text → Database → Database → Type 0
PutsMeta n digest old new =
    old.schema ≡ schema_of registry_part → IsKept old → rows_of old (codes "meta") ≡ []
    → (new.schema ≡ old.schema) × IsKept new × IsMeta n digest (rows_of new (codes "meta"))
    × AllByRecursion (λ t. same_text t.name (codes "meta") ≡ false → new.trees t.tree ≡ old.trees t.tree)
    (schema_of registry_part).tables

-- the number of a version of the pacticipant that is on the branch
abbrev pub IsBranchNumber : State → Text → Text → ℕ → Type 0
IsBranchNumber s p branch n = (v : Version) × (number_of s.versions v ≡ Some n) × (v.pacticipant ≡ p)
    × (s.branches (v, branch) ≡ true)

-- the greatest of those numbers that are below this one; none if and only if there is no such number
abbrev pub IsNewestBelow : State → Text → Text → ℕ → Option ℕ → Type 0
IsNewestBelow s p branch below found =
    MatchOption found ((n : ℕ) → IsBranchNumber s p branch n → below ≤ n)
    (λ n. IsBranchNumber s p branch n × (n < below)
    × ((m : ℕ) → IsBranchNumber s p branch m → m < below → m ≤ n))
