-- For private clauses: the contracts with one provider of the versions that are in an environment, as their rows are
-- read, by the numbers of the versions.
use Rattle.std.specs.Prelude.{Contains, ◌≡◌, ◌≢◌, ◌↔◌, ◌⊎◌, ℕ, List, Option, Some, None, IsTrue, pos}
use Rattle.sqlite.specs.Order.{Row, column}
use Rattle.sqlite.specs.declared.types.Value.TheVariants.{Null, Int}
use Rattle.table_access.specs.declared.StoreFault.{StoreFault}
use Rattle.table_access.specs.declared.StoreFault.TheVariants.{Store}
use Rattle.table_access.specs.Reading.{IsNumberRow, IsNumberAt}
use Rattle.broker_core.specs.declared.command.Version.{Version}
use Rattle.broker_core.specs.Text.{Text}
use Rattle.broker_core.specs.State.{State}
use Rattle.broker_tables.specs.Numbers.{number_of}
use Rattle.deploy_tables.specs.declared.contracts_there.NumberedContract.{NumberedContract}

-- the version is deployed there in some instance; it is released there
abbrev pub IsDeployedIn : State → Text → Version → Type 0
IsDeployedIn s e w = (instance : Text) × (s.deployed (e, w.pacticipant, instance) ≡ Some w.name)

abbrev pub IsReleasedIn : State → Text → Version → Type 0
IsReleasedIn s e w = IsTrue (s.released (e, w))

-- it is the contract with the pacticipant of a version that meets Is
abbrev pub IsContractThere : State → Text → (Version → Type 0) → NumberedContract → Type 0
IsContractThere s p Is x =
    (w : Version) × Is w × (number_of s.versions w ≡ Some x.number) × (s.contracts (w, p) ≡ Some x.content)

-- these are all of them; they are, beside such versions without one
abbrev pub ReportsContracts : State → Text → (Version → Type 0) → List NumberedContract → Type 0
ReportsContracts s p Is contracts = (x : NumberedContract) → Contains contracts x ↔ IsContractThere s p Is x

abbrev pub ReportsContractsIfAny : State → Text → (Version → Type 0) → List (Option NumberedContract) → Type 0
ReportsContractsIfAny s p Is found = (x : NumberedContract) → Contains found (Some x) ↔ IsContractThere s p Is x

-- the columns are the version's number and the content
abbrev pub IsNumberedRow : Row → NumberedContract → Type 0
IsNumberedRow row x = (column row 0 ≡ Int (pos x.number)) × (column row 1 ≡ Int (pos x.content))

-- the columns are the version's number, that of its contract's row, or NULL if there is none, and the content
abbrev pub IsContractIfAny : Row → Option NumberedContract → Type 0
IsContractIfAny row (Some x) =
    (column row 0 ≡ Int (pos x.number)) × (column row 1 ≢ Null) × (column row 2 ≡ Int (pos x.content))
IsContractIfAny row None = ((n : ℕ) × (column row 0 ≡ Int (pos n))) × (column row 1 ≡ Null)

-- the row reads so; Store comes exactly, since reading takes no memory
abbrev pub ReadsAsContractIfAny : Row → Type 0
ReadsAsContractIfAny row = IsNumberRow row × ((column row 1 ≡ Null) ⊎ IsNumberAt 2 row)

abbrev pub FailsAsContractIfAny : Row → StoreFault → Type 0
FailsAsContractIfAny row fault = (fault ≡ Store) × (¬ ReadsAsContractIfAny row)
