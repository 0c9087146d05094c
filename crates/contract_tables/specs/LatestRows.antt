-- What is said of latest results in any database with the broker's tables, with any CHECKs, keys and references: a row
-- of `latest` may name the result of another content or version, and the mark of a result be neither 0 nor 1.
use Rattle.std.specs.Prelude.{◌≡◌, ◌⊎◌, ◌↔◌, ℕ, pos, Bool, true, IsTrue, IsSorted, List, Contains, codes, Option, MatchOption}
use Rattle.std.specs.Ordering.{nat_cmp}
use Rattle.sqlite.specs.declared.types.Value.{Value}
use Rattle.sqlite.specs.declared.types.Value.TheVariants.{Int}
use Rattle.sqlite.specs.Order.{Row, column}
use Rattle.sqlite.specs.Collation.TheVariants.{Binary}
use Rattle.sqlite.specs.Effect.{Database}
use Rattle.sqlite.specs.State.{State}
use Rattle.sqlite_sql.specs.Ops.{binary, is_true}
use Rattle.sqlite_sql.specs.declared.ops.BinaryOp.TheVariants.{Compare}
use Rattle.sqlite_sql.specs.declared.ops.CompareOp.TheVariants.{Eq}
use Rattle.sqlite_rules.specs.Lists.{Has}
use Rattle.table_access.specs.declared.StoreFault.{StoreFault}
use Rattle.table_access.specs.declared.StoreFault.TheVariants.{Store}
use Rattle.table_access.specs.Calls.{HasFailed}
use Rattle.table_access.specs.Reading.{IsNumberAt}
use Rattle.broker_core.specs.declared.need.Latest.{Latest}
use Rattle.broker_tables.specs.Schema.{in_results, in_latest, in_checked_results}
use Rattle.broker_tables.specs.Rows.{rows_of, mark_of, IsTruthAt}
use Rattle.broker_tables.specs.Failures.{HasFailedOrMemory}
use Rattle.contract_tables.specs.VersionResults.{marked}
use Rattle.contract_tables.specs.declared.version_results.ContentPass.{ContentPass}
use Rattle.contract_tables.specs.declared.version_results.LatestResult.{LatestResult}

-- ---- the rows

-- SQLite's = holds of both values (https://www.sqlite.org/datatype3.html, section 4)
abbrev pub AreEqual : Value → Value → Type 0
AreEqual v w = is_true (binary (Compare Eq Binary) v w) ≡ true

-- a row of `latest` for the version of this number names this row of `results`
abbrev pub NamesFor : ℕ → Database → Row → Row → Type 0
NamesFor version db l r = Has (rows_of db (codes "latest")) l × Has (rows_of db (codes "results")) r
    × AreEqual (column r in_results.number) (column l in_latest.result)
    × AreEqual (column l in_latest.provider_version) (Int (pos version))

-- for this content and the version of this number
abbrev pub NamesResult : ℕ → ℕ → Database → Row → Row → Type 0
NamesResult content version db l r = NamesFor version db l r × AreEqual (column l in_latest.content) (Int (pos content))

-- the result has this number, is of this content and version, and has this mark: 1 is a pass, 0 is none
abbrev pub IsResultOf : ℕ → ℕ → ℕ → Bool → Row → Type 0
IsResultOf content version number pass r = (column r in_results.number ≡ Int (pos number))
    × AreEqual (column r in_results.content) (Int (pos content))
    × AreEqual (column r in_results.provider_version) (Int (pos version))
    × (column r in_results.pass ≡ Int (pos (mark_of pass)))

-- both have one number in these columns
abbrev pub HaveOneNumber : ℕ → Row → ℕ → Row → Type 0
HaveOneNumber p l q r = IsNumberAt p l × IsNumberAt q r × (column l p ≡ column r q)

-- the result has a number and a mark, and it is of the content and the version that the row of `latest` says
abbrev pub IsSoundPair : Row → Row → Type 0
IsSoundPair l r = IsNumberAt in_results.number r × IsTruthAt in_results.pass r
    × HaveOneNumber in_latest.content l in_results.content r
    × HaveOneNumber in_latest.provider_version l in_results.provider_version r

-- such a result is named for the content and the version
abbrev pub NamesPass : ℕ → ℕ → Database → ℕ → Bool → Type 0
NamesPass content version db number pass =
    (l r : Row) × NamesResult content version db l r × IsResultOf content version number pass r

-- ---- the latest result for a content and a version

-- a row of `checked_results` has this number
abbrev pub IsMarkedChecked : ℕ → Database → Type 0
IsMarkedChecked number db = (row : Row) × Has (rows_of db (codes "checked_results")) row
    × AreEqual (column row in_checked_results.result) (Int (pos number))

-- none is named; or one is, which is a pass by its mark and of this pair, and checked if and only if that is so marked
abbrev pub IsLatestIn : ℕ → ℕ → Option Latest → Database → Type 0
IsLatestIn content version found db = MatchOption found ((l r : Row) → ¬ NamesResult content version db l r)
    (λ latest. (number : ℕ) × NamesPass content version db number latest.pass
    × (IsTrue latest.checked ↔ IsMarkedChecked number db))

-- for private clauses: without what was checked
abbrev pub IsPassIn : ℕ → ℕ → Option ContentPass → Database → Type 0
IsPassIn content version found db = MatchOption found ((l r : Row) → ¬ NamesResult content version db l r)
    (λ x. NamesPass content version db x.result x.pass)

-- the store failed, which ended the transaction; or Store, since a result is named that isn't sound
abbrev pub FailsAsNamed : ℕ → ℕ → State → State → StoreFault → Type 0
FailsAsNamed content version old new fault = HasFailed old new fault
    ⊎ ((fault ≡ Store) × ((l r : Row) × NamesResult content version old.now l r × (¬ IsSoundPair l r)))

-- ---- the latest results of a version

-- a row of `latest` for the version of this number names this row of `checked_results`
abbrev pub NamesChecked : ℕ → Database → Row → Row → Type 0
NamesChecked version db l c = Has (rows_of db (codes "latest")) l × Has (rows_of db (codes "checked_results")) c
    × AreEqual (column c in_checked_results.result) (column l in_latest.result)
    × AreEqual (column l in_latest.provider_version) (Int (pos version))

-- one such row is for this content
abbrev pub IsCheckedFor : ℕ → Database → ℕ → Type 0
IsCheckedFor version db content =
    (l c : Row) × NamesChecked version db l c × (column l in_latest.content ≡ Int (pos content))

-- each row that names a result for the version has its content among these
abbrev pub AreAllNamed : {X : Type 0} → (X → ℕ) → ℕ → List X → Database → Type 0
AreAllNamed {X} content version found db = (l r : Row) → NamesFor version db l r
    → (x : X) × Contains found x × (column l in_latest.content ≡ Int (pos (content x)))

-- each of these is named for the version, with its content, its number and its mark, and checked only if that is so
-- marked; and none that is named is left out
abbrev pub AreLatestIn : ℕ → List LatestResult → Database → Type 0
AreLatestIn version found db = ((x : LatestResult) → Contains found x
    → NamesPass x.content version db x.result x.latest.pass × (IsTrue x.latest.checked → IsCheckedFor version db x.content))
    × AreAllNamed (λ x. x.content) version found db

-- for private clauses: without what was checked
abbrev pub ArePassesIn : ℕ → List ContentPass → Database → Type 0
ArePassesIn version found db =
    ((x : ContentPass) → Contains found x → NamesPass x.content version db x.result x.pass)
    × AreAllNamed (λ x. x.content) version found db

-- a result is named for the version that isn't sound, or one that was checked for what is no number of a content
abbrev pub IsUnsoundFor : ℕ → Database → Type 0
IsUnsoundFor version db = ((l r : Row) × NamesFor version db l r × (¬ IsSoundPair l r))
    ⊎ ((l c : Row) × NamesChecked version db l c × (¬ IsNumberAt in_latest.content l))

-- the store failed, which ended the transaction, or an allocation failed; or Store, since a row isn't sound
abbrev pub FailsAsListed : ℕ → State → State → StoreFault → Type 0
FailsAsListed version old new fault =
    HasFailedOrMemory old new fault ⊎ ((fault ≡ Store) × IsUnsoundFor version old.now)

-- for private clauses: what is read of a pass, which is checked only if its content is one of these
abbrev pub IsMarkedOf : List ℕ → ContentPass → LatestResult → Type 0
IsMarkedOf checked x y = (y.content ≡ x.content) × (y.result ≡ x.result) × (y.latest.pass ≡ x.pass)
    × (IsTrue y.latest.checked → Contains checked x.content) × (IsSorted nat_cmp checked → y ≡ marked checked x)
