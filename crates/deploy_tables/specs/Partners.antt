-- For private clauses: the versions of a provider that are in an environment, by their numbers.
use Rattle.std.specs.Prelude.{Contains, ◌≡◌, ◌↔◌, ℕ, List, Option, Some, None, if◌then◌else◌}
use Rattle.broker_core.specs.declared.command.Version.{Version}
use Rattle.broker_core.specs.Text.{Text, same_text, version}
use Rattle.broker_core.specs.State.{State}
use Rattle.broker_core.specs.Gate.{IsPresent}
use Rattle.broker_tables.specs.Numbers.{number_of}
use Rattle.contract_tables.specs.declared.listings.NumberedName.{NumberedName}
use Rattle.deploy_tables.specs.ContractsThere.{IsReleasedIn}
use Rattle.deploy_tables.specs.Releases.{IsVersion}

-- these are the numbers of the pacticipant's versions that are such
abbrev pub ArePartners : State → Text → (Version → Type 0) → List ℕ → Type 0
ArePartners s p Is numbers = (n : ℕ) → Contains numbers n
    ↔ ((name : Text) × Is (version p name) × (number_of s.versions (version p name) ≡ Some n))

-- these are the numbers of all versions that are released there, each with its pacticipant
abbrev pub AreReleasedNumbers : State → Text → List NumberedName → Type 0
AreReleasedNumbers s e xs = (x : NumberedName) → Contains xs x
    ↔ ((name : Text) × IsReleasedIn s e (version x.name name)
    × (number_of s.versions (version x.name name) ≡ Some x.number))

-- each version that is there has a number
abbrev pub AreNumbered : State → Text → Type 0
AreNumbered s e = (w : Version) → IsPresent s e w → (n : ℕ) × (number_of s.versions w ≡ Some n)

-- each number is that of a version
abbrev pub AreNumbersOfVersions : State → List ℕ → Type 0
AreNumbersOfVersions s numbers = (n : ℕ) → Contains numbers n → IsVersion n s

-- what is released there by numbers, and each version that is there has a number
abbrev pub AreReleasedThere : State → Text → List NumberedName → Type 0
AreReleasedThere s e xs = AreReleasedNumbers s e xs × AreNumbered s e

-- the number of a version of the pacticipant, none of another
abbrev pub number_if : Text → NumberedName → Option ℕ
number_if p x = if same_text x.name p then Some x.number else None
