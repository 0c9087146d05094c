-- What a release and its end change of the state.
use Rattle.std.specs.Prelude.{◌≡◌, ℕ, Bool, Option, Some, true, false, MatchOption}
use Rattle.broker_core.specs.declared.command.Version.{Version}
use Rattle.broker_core.specs.Text.{Text, put_at, same_pair, same_text, same_version}
use Rattle.broker_core.specs.State.{State}
use Rattle.broker_tables.specs.Numbers.{number_of}
use Rattle.deploy_tables.specs.Deployments.{IsEnvironment}

-- there is a version of this number
abbrev pub IsVersion : ℕ → State → Type 0
IsVersion number s = (v : Version) × (number_of s.versions v ≡ Some number)

-- this is so of the version of this number, or that if no version has it
abbrev pub IsOfNumber : State → ℕ → (Version → Type 0) → Type 0 → Type 0
IsOfNumber s number Is Otherwise =
    ((v : Version) → number_of s.versions v ≡ Some number → Is v) × ((¬ IsVersion number s) → Otherwise)

-- the version of this number, or none if no version has it
abbrev pub FindsVersion : ℕ → Option Version → State → Type 0
FindsVersion number found s =
    MatchOption found (¬ IsVersion number s) (λ v. number_of s.versions v ≡ Some number)

-- whether the version of this number is released there; nothing is released by a number that no version has
abbrev pub FindsReleased : Text → ℕ → Bool → State → Type 0
FindsReleased e number stood s = ((v : Version) → number_of s.versions v ≡ Some number → stood ≡ s.released (e, v))
    × ((¬ IsVersion number s) → stood ≡ false)

-- the version of this number wasn't released there and now is, and all else is as it was
abbrev pub RecordsReleased : Text → ℕ → State → State → Type 0
RecordsReleased e number s t = (v : Version) × (number_of s.versions v ≡ Some number)
    × (s.released (e, v) ≡ false)
    × (t ≡ record s { released = put_at (same_pair same_text same_version) s.released (e, v) true })

-- the environment is there, and the version of this number isn't released there: it may be
abbrev pub MayBeReleased : Text → ℕ → State → Type 0
MayBeReleased e number s =
    IsEnvironment e s × ((v : Version) × (number_of s.versions v ≡ Some number) × (s.released (e, v) ≡ false))

-- the version of this number isn't released there any more, and all else is as it was
abbrev pub EndsSupport : Text → ℕ → State → State → Type 0
EndsSupport e number s t = (v : Version) × (number_of s.versions v ≡ Some number)
    × (t ≡ record s { released = put_at (same_pair same_text same_version) s.released (e, v) false })
