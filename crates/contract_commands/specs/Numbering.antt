-- the numbers that versions and results have or get, for the clauses of private functions: no public clause cites it
use Rattle.std.specs.Prelude.{◌≡◌, ◌+◌, ℕ, List, Option, Some, None, false, true, is_some, IsTrue, length}
use Rattle.broker_core.specs.Limit.{HasRoom, has_room}
use Rattle.broker_core.specs.Change.{with_version}
use Rattle.broker_core.specs.Request.{is_known}
use Rattle.broker_core.specs.State.{State as Broker}
use Rattle.broker_core.specs.declared.command.Version.{Version}
use Rattle.broker_tables.specs.Numbers.{number_of}
use Rattle.contract_commands.specs.declared.numbers.VersionNumber.{VersionNumber}
use Rattle.contract_commands.specs.declared.numbers.VersionNumber.TheVariants.{Old, New}

-- the number after so many, if there is room for one more
abbrev pub IsNextNumber : ℕ → Option ℕ → Type 0
IsNextNumber count (Some n) = HasRoom count × (n ≡ count + 1)
IsNextNumber count None = ¬ (HasRoom count)

-- the number after these rows, if there is room for one more
abbrev pub IsNextOf : {X : Type 0} → List X → Option ℕ → Type 0
IsNextOf rows (Some n) = (has_room rows ≡ true) × (n ≡ length rows + 1)
IsNextOf rows None = has_room rows ≡ false

-- of what has this number among these rows, if it has one: that number, or the next; none if there is no room
abbrev pub IsNumberFor : {X : Type 0} → List X → Option ℕ → Option VersionNumber → Type 0
IsNumberFor rows own (Some (Old n)) = own ≡ Some n
IsNumberFor rows own (Some (New n)) = (own ≡ None) × (has_room rows ≡ true) × (n ≡ length rows + 1)
IsNumberFor rows own None = (own ≡ None) × (has_room rows ≡ false)

-- the version has this number, or may be named and gets it
pub record CanName (s : Broker) (v : Version) (number : VersionNumber) : Type 0 where
  pub number_is : IsNumberFor s.versions (number_of s.versions v) (Some number)
  pub known_is : is_known s v ≡ is_some (number_of s.versions v)
  pub owned : IsTrue (is_some (s.pacticipants v.pacticipant))

-- the version is named, and this is its number
abbrev pub NamesAs : Version → ℕ → Broker → Broker → Type 0
NamesAs v number s t = (t ≡ with_version s v) × (number_of t.versions v ≡ Some number)
