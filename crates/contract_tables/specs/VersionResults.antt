-- The latest results of one version, in the order of contents, and how they are put together.
use Rattle.std.specs.Prelude.{◌≡◌, ◌==◌, ℕ, pos, Bool, List, Some, option_map}
use Rattle.std.specs.declared.cmp.Ordering.{Ordering}
use Rattle.std.specs.List.{list_any}
use Rattle.std.specs.Ordering.{nat_cmp}
use Rattle.sqlite.specs.Order.{Row, column}
use Rattle.sqlite.specs.declared.types.Value.TheVariants.{Int}
use Rattle.table_access.specs.declared.StoreFault.{StoreFault}
use Rattle.table_access.specs.declared.StoreFault.TheVariants.{Store}
use Rattle.table_access.specs.Reading.{IsNumberRow, IsNumberAt}
use Rattle.broker_core.specs.declared.command.Version.{Version}
use Rattle.broker_core.specs.declared.need.Latest.{Latest}
use Rattle.broker_core.specs.State.{State, Verification, latest_result, said_by}
use Rattle.broker_tables.specs.Rows.{truth, IsTruthAt}
use Rattle.contract_tables.specs.declared.version_results.ContentPass.{ContentPass}
use Rattle.contract_tables.specs.declared.version_results.LatestResult.{LatestResult}
use Rattle.contract_tables.specs.Verified.{passed_of, passed_as}

-- for private clauses: in the order of contents, each of which is there once
abbrev pub pass_cmp : ContentPass → ContentPass → Ordering
pass_cmp x y = nat_cmp x.content y.content

abbrev pub latest_cmp : LatestResult → LatestResult → Ordering
latest_cmp x y = nat_cmp x.content y.content

-- the version has a result for the content, and the latest one has this number, and says so
abbrev pub said_of : ℕ × Verification → ℕ × Latest
said_of e = (e.0, said_by e.1)

abbrev pub IsLatestOf : State → Version → LatestResult → Type 0
IsLatestOf s v x = option_map said_of (latest_result s x.content v) ≡ Some (x.result, x.latest)

-- for private clauses: and it is a pass or not
abbrev pub IsPassOf : State → Version → ContentPass → Type 0
IsPassOf s v x = option_map passed_of (latest_result s x.content v) ≡ Some (passed_as x.result x.pass)

-- the result is for the content, and of the version, for which it is said to be the latest
abbrev pub IsOfItsPair : Row → Type 0
IsOfItsPair row = (column row 2 ≡ column row 3) × (column row 4 ≡ column row 5)

-- the columns are the result, whether that is a pass, which is 0 or 1, the content, and the result's content; and the
-- version, and the result's version
abbrev pub IsPassRow : Row → ContentPass → Type 0
IsPassRow row x = (column row 2 ≡ Int (pos x.content)) × (column row 0 ≡ Int (pos x.result)) × (truth 1 row ≡ x.pass)
    × IsTruthAt 1 row × IsOfItsPair row

-- the row reads as a number and a truth value
abbrev pub ReadsAsPass : Row → Type 0
ReadsAsPass row = IsNumberRow row × IsTruthAt 1 row

-- both columns have one number
abbrev pub AreSame : ℕ → ℕ → Row → Type 0
AreSame one other row = IsNumberAt one row × IsNumberAt other row × (column row one ≡ column row other)

-- the row reads so, and the result is for its content and of its version
abbrev pub ReadsAsLatest : Row → Type 0
ReadsAsLatest row = ReadsAsPass row × AreSame 2 3 row × AreSame 4 5 row

-- Store comes exactly, since reading takes no memory
abbrev pub FailsAsLatest : Row → StoreFault → Type 0
FailsAsLatest row fault = (fault ≡ Store) × (¬ ReadsAsLatest row)

-- for private clauses: the number is one of these
abbrev pub is_among : List ℕ → ℕ → Bool
is_among numbers number = list_any (λ n. n == number) numbers

-- for private clauses: what a result says, which the broker checked if its content is one of these
abbrev pub marked : List ℕ → ContentPass → LatestResult
marked checked x = record {
  content = x.content;
  result = x.result;
  latest = record { pass = x.pass; checked = is_among checked x.content };
}
