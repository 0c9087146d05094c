-- What is reported of an environment's mark, whether it is gated, in any database with the broker's tables, with any
-- CHECKs: a row may be there whose mark is neither 0 nor 1.
use Rattle.std.specs.Prelude.{◌≡◌, ◌⊎◌, ◌<◌, ℕ, pos, Bool, codes, Option, Some, MatchOption, Result, MatchResult}
use Rattle.sqlite.specs.declared.types.Value.TheVariants as value
use Rattle.sqlite.specs.Order.{Row, column}
use Rattle.sqlite.specs.Effect.{Database}
use Rattle.sqlite.specs.State.{State, HasCleanDisk}
use Rattle.sqlite_rules.specs.Lists.{Has}
use Rattle.table_access.specs.declared.StoreFault.{StoreFault}
use Rattle.table_access.specs.declared.StoreFault.TheVariants.{Store}
use Rattle.table_access.specs.Calls.{HasFailed}
use Rattle.broker_core.specs.Text.{Text}
use Rattle.broker_tables.specs.Schema.{in_environments}
use Rattle.broker_tables.specs.Asking.{CanBeAsked}
use Rattle.broker_tables.specs.Rows.{rows_of, mark_of}

-- ---- the mark

-- a row of the table environments with this name
abbrev pub IsEnvironmentRow : Text → Database → Row → Type 0
IsEnvironmentRow environment db row =
    Has (rows_of db (codes "environments")) row × (column row in_environments.name ≡ value.Text environment)

-- the mark in such a row, as it is there: 1 is gated, 0 isn't; none if there is no such row
abbrev pub IsMarkIn : Text → Database → Option Bool → Type 0
IsMarkIn environment db gated = MatchOption gated ((row : Row) → ¬ IsEnvironmentRow environment db row)
    (λ g. (row : Row) × IsEnvironmentRow environment db row
    × (column row in_environments.gated ≡ value.Int (pos (mark_of g))))

-- the mark in such a row is neither 0 nor 1
abbrev pub HasNoMark : Text → Database → Type 0
HasNoMark environment db = (row : Row) × IsEnvironmentRow environment db row
    × ((n : ℕ) → column row in_environments.gated ≡ value.Int (pos n) → 1 < n)

-- the store failed, which ended the transaction; or Store, since the mark is neither
abbrev pub FailsAsMark : Text → State → State → StoreFault → Type 0
FailsAsMark environment old new fault =
    HasFailed old new fault ⊎ ((fault ≡ Store) × HasNoMark environment old.now)

-- the mark that is there, or why none is returned
abbrev pub ReportsMark : Text → State → State → Result (Option Bool) StoreFault → Type 0
ReportsMark environment old new r = HasCleanDisk new → CanBeAsked old
    → MatchResult r (IsMarkIn environment old.now) (FailsAsMark environment old new)

-- The answer fits the mark that is there. If the call fails, it is since there is no mark that is 0 or 1 or the store
-- failed; or there is such a mark, and the other part of the answer failed.
abbrev pub FitsMark : {A : Type 0} → Text → State → State → Result A StoreFault → (A → Option Bool → Type 0) → Type 0
FitsMark environment old new r Fits = HasCleanDisk new → CanBeAsked old
    → MatchResult r (λ a. (gated : Option Bool) × IsMarkIn environment old.now gated × Fits a gated)
    (λ fault. FailsAsMark environment old new fault ⊎ ((g : Bool) × IsMarkIn environment old.now (Some g)))
