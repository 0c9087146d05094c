-- What a deployment and its end change of the state.
use Rattle.std.specs.Prelude.{◌≡◌, ℕ, Bool, IsTrue, false, Some, None, is_some, if◌then◌else◌}
use Rattle.broker_core.specs.declared.command.Version.{Version}
use Rattle.broker_core.specs.Text.{Text, put_at, same_place}
use Rattle.broker_core.specs.State.{State}
use Rattle.broker_core.specs.Change.{is_text}
use Rattle.broker_tables.specs.Numbers.{number_of}

-- the version of this number, one of the pacticipant, is deployed there in place of what was, and all else is as it was
abbrev pub RecordsDeployed : Text → Text → Text → ℕ → State → State → Type 0
RecordsDeployed e p instance number s t =
    (v : Version) × (number_of s.versions v ≡ Some number) × (v.pacticipant ≡ p)
    × (t ≡ record s { deployed = put_at same_place s.deployed (e, p, instance) (Some v.name) })

-- there is a version of this number, one of the pacticipant
abbrev pub IsVersionOf : Text → ℕ → State → Type 0
IsVersionOf p number s = (v : Version) × (number_of s.versions v ≡ Some number) × (v.pacticipant ≡ p)

-- the environment is there
abbrev pub IsEnvironment : Text → State → Type 0
IsEnvironment e s = IsTrue (is_some (s.environments e))

-- and the pacticipant has a version of this number: it may be deployed there
abbrev pub MayBeDeployed : Text → Text → ℕ → State → Type 0
MayBeDeployed e p number s = IsEnvironment e s × IsVersionOf p number s

-- the state with nothing deployed in that instance, and all else as it was
abbrev pub without_instance : State → Text → Text → Text → State
without_instance s e p instance = record s { deployed = put_at same_place s.deployed (e, p, instance) None }

-- the version of this number, one of the pacticipant, isn't deployed in that instance any more; if another version or
-- none is deployed there, all is as it was
abbrev pub TakesOut : Text → Text → Text → ℕ → State → State → Type 0
TakesOut e p instance number s t =
    (v : Version) × (number_of s.versions v ≡ Some number) × (v.pacticipant ≡ p)
    × (t ≡ (if is_text v.name (s.deployed (e, p, instance)) then without_instance s e p instance else s))

-- whether the version of this number, one of the pacticipant, is deployed in that instance
abbrev pub ReportsDeployed : Text → Text → Text → ℕ → Bool → State → Type 0
ReportsDeployed e p instance number stood s =
    (v : Version) → number_of s.versions v ≡ Some number → v.pacticipant ≡ p → stood ≡ is_text v.name (s.deployed (e, p, instance))

-- the same, and nothing is deployed by a number that no version of the pacticipant has
abbrev pub FindsDeployed : Text → Text → Text → ℕ → Bool → State → Type 0
FindsDeployed e p instance number stood s =
    ReportsDeployed e p instance number stood s × ((¬ IsVersionOf p number s) → stood ≡ false)

-- nothing is done, and nothing was there
abbrev pub FindsNothing : Bool → State → State → Type 0
FindsNothing stood s t = (stood ≡ false) × (t ≡ s)

-- it is taken out, and the answer says whether it was there
abbrev pub TakesOutAndReports : Text → Text → Text → ℕ → Bool → State → State → Type 0
TakesOutAndReports e p instance number stood s t = TakesOut e p instance number s t × ReportsDeployed e p instance number stood s
