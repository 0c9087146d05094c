-- The matrix of a version, by its number. What it is, `IsMatrixRow` of broker_core says; all after `ListsMatrix`, which
-- the clause of `matrix` cites, is for private clauses: how it is put together from the parts that are read, its own
-- contracts with the versions that have results for them, and what it has results for itself with the consumers.
use Rattle.std.specs.Prelude.{Contains, ◌≡◌, ◌⊎◌, ℕ, List, [], ◌∷◌, map, Option, Some, None}
use Rattle.broker_core.specs.declared.command.Version.{Version}
use Rattle.broker_core.specs.declared.answer.MatrixRow.{MatrixRow}
use Rattle.broker_core.specs.declared.answer.Verified.{Verified}
use Rattle.broker_core.specs.Text.{Text, version}
use Rattle.broker_core.specs.Listing.{Lists}
use Rattle.broker_core.specs.Machine.{IsLatest, IsMatrixRow, matrix_cmp}
use Rattle.broker_core.specs.State.{State, latest_result}
use Rattle.contract_tables.specs.declared.listings.Contract.{Contract}
use Rattle.contract_tables.specs.declared.version_results.LatestResult.{LatestResult}
use Rattle.contract_tables.specs.VersionResults.{IsLatestOf}
use Rattle.deploy_tables.specs.Releases.{IsOfNumber}

-- these are the rows of the matrix of the version of this number, each once, in their order; none if no version has it
abbrev pub ListsMatrix : State → ℕ → List MatrixRow → Type 0
ListsMatrix s number rows = IsOfNumber s number (λ v. Lists matrix_cmp (IsMatrixRow s v) rows) (rows ≡ [])

-- ---- what `rows_with` and its parts compute, step by step as the code does it

-- the contract of v with this provider, and what is said of a version of the provider, if anything
abbrev pub row_of : Version → Text → Option Verified → MatrixRow
row_of v provider verified = record {
  consumer = v.pacticipant;
  consumer_version = v.name;
  provider = provider;
  verified = verified;
}

-- a contract of v, with this version of its provider
abbrev pub row_with : Version → Contract → Verified → MatrixRow
row_with v c r = row_of v c.provider (Some r)

-- with none
abbrev pub row_without : Version → Contract → MatrixRow
row_without v c = row_of v c.provider None

abbrev pub or_one : {X : Type 0} → List X → X → List X
or_one [] x = x ∷ []
or_one (y ∷ ys) x = y ∷ ys

-- with each of these versions, or with none
abbrev pub rows_with : Version → Contract → List Verified → List MatrixRow
rows_with v c verified = or_one (map (row_with v c) verified) (row_without v c)

-- the contract of a consumer w with the pacticipant of v, and v with its result for the content
abbrev pub row_used : Version → LatestResult → Version → MatrixRow
row_used v c w =
    row_of w v.pacticipant (Some (record { provider_version = v.name; result = c.result; latest = c.latest }))

-- ---- which set each part is

-- no version of the provider has a result for the content
abbrev pub HasNone : State → ℕ → Text → Type 0
HasNone s content provider = (w : Text) → latest_result s content (version provider w) ≡ None

-- the contract c of v, with a version of the provider and its result, or with none if no version has one
abbrev pub IsOfContract : State → Version → Contract → MatrixRow → Type 0
IsOfContract s v c x =
    ((r : Verified) × IsLatest s c.content (version c.provider r.provider_version) r × (x ≡ row_with v c r))
    ⊎ (HasNone s c.content c.provider × (x ≡ row_without v c))

-- a contract of the content c with the pacticipant of v, and v with its result
abbrev pub IsOfContent : State → Version → LatestResult → MatrixRow → Type 0
IsOfContent s v c x = (w : Version) × (s.contracts (w, v.pacticipant) ≡ Some c.content) × (x ≡ row_used v c w)

-- this holds of one of them
abbrev pub IsOfSome : {C : Type 0} → (C → Type 0) → List C → Type 0
IsOfSome {C} Is cs = (c : C) × Contains cs c × Is c

-- v is the consumer
abbrev pub IsConsumed : State → Version → MatrixRow → Type 0
IsConsumed s v x = (c : Contract) × (s.contracts (v, c.provider) ≡ Some c.content) × IsOfContract s v c x

-- v is the provider
abbrev pub IsProvided : State → Version → MatrixRow → Type 0
IsProvided s v x = (c : LatestResult) × IsLatestOf s v c × IsOfContent s v c x
