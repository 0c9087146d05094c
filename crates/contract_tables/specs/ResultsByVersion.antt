-- The versions of a provider that have a result for a content, in the order of their names; and, for private clauses, what
-- the results say that are read for it.
use Rattle.std.specs.Prelude.{Contains, ◌≡◌, ◌⊎◌, ⊤, ℕ, Bool, true, List, Some, IsSortedByKey}
use Rattle.std.specs.declared.cmp.Ordering.{Ordering}
use Rattle.std.specs.Ordering.{nat_cmp}
use Rattle.table_access.specs.declared.StoreFault.{StoreFault}
use Rattle.table_access.specs.declared.StoreFault.TheVariants.{Memory, Store}
use Rattle.broker_core.specs.declared.command.Version.{Version}
use Rattle.broker_core.specs.declared.answer.Verified.{Verified}
use Rattle.broker_core.specs.State.{State, Verification, latest_result}
use Rattle.broker_core.specs.Text.{text_cmp}
use Rattle.contract_tables.specs.declared.version_results.ContentPass.{ContentPass}
use Rattle.contract_tables.specs.declared.listings.NumberedName.{NumberedName}
use Rattle.contract_tables.specs.Verified.{result_with}
use Rattle.contract_tables.specs.VersionResults.{is_among}

-- in the order of their names, each of which is there once
abbrev pub verified_cmp : Verified → Verified → Ordering
verified_cmp x y = text_cmp x.provider_version y.provider_version

abbrev pub named_cmp : NumberedName → NumberedName → Ordering
named_cmp x y = text_cmp x.name y.name

-- ---- what the results say

-- Each says what is so of the result with its number, and one is there for each latest result for the content that meets
-- the test.
abbrev pub AgreeWith : {X : Type 0} → (X → ℕ) → (X → Verification → Type 0) → (ℕ × Verification → X)
    → (Verification → Type 0) → State → ℕ → List X → Type 0
AgreeWith {X} number Says item Meets s content found =
    ((x : X) (r : Verification) → Contains found x → result_with s (number x) ≡ Some r → Says x r)
    × ((w : Version) (e : ℕ × Verification) → latest_result s content w ≡ Some e → Meets e.1 → Contains found (item e))

-- whether the result is a pass, of each latest result
abbrev pub AgreeOnPasses : State → ℕ → List ContentPass → Type 0
AgreeOnPasses s content = AgreeWith (λ x. x.result) (λ x r. x.pass ≡ r.pass)
    (λ e. record { content = content; result = e.0; pass = e.1.pass }) (λ r. ⊤) s content

-- that the broker checked the result, of each latest result that it checked
abbrev pub AgreeOnChecked : State → ℕ → List ℕ → Type 0
AgreeOnChecked = AgreeWith (λ n. n) (λ n r. r.checked ≡ true) (λ e. e.0) (λ r. r.checked ≡ true)

-- no number is below the one before it
abbrev pub ArePassesByNumber : List ContentPass → Type 0
ArePassesByNumber = IsSortedByKey (λ x. x.result) nat_cmp

-- none of these says anything of the result with this number; one says so, whether it is a pass
abbrev pub IsUnlisted : List ContentPass → ℕ → Type 0
IsUnlisted passes number = ¬ ((x : ContentPass) × Contains passes x × (x.result ≡ number))

abbrev pub SaysPass : List ContentPass → ℕ → Bool → Type 0
SaysPass passes number pass = (x : ContentPass) × Contains passes x × (x.result ≡ number) × (x.pass ≡ pass)

-- an allocation failed, or a result is named that isn't there
abbrev pub FailsIfNamed : StoreFault → Type 0 → Type 0
FailsIfNamed fault IsNamed = (fault ≡ Memory) ⊎ ((fault ≡ Store) × IsNamed)

-- both lists say this of the result
abbrev pub IsSaidBy : List ContentPass → List ℕ → Verified → Type 0
IsSaidBy passes checked r =
    (r.latest.checked ≡ is_among checked r.result) × SaysPass passes r.result r.latest.pass

-- the version's name and its result, with what both lists say of that
abbrev pub IsVerifiedAs : List ContentPass → List ℕ → NumberedName → Verified → Type 0
IsVerifiedAs passes checked x r = (r.provider_version ≡ x.name) × (r.result ≡ x.number) × IsSaidBy passes checked r
