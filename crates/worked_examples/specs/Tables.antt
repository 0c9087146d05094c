-- What the broker's tables say to a program that asks them without the broker (this project's own).
use Rattle.std.specs.Prelude.{◌≡◌, ◌↔◌, ℕ, Bool, IsTrue, Some}
use Rattle.broker_core.specs.Gate.{IsNeed, IsGood}
use Rattle.broker_core.specs.Machine.{IsMatrixRow}
use Rattle.broker_core.specs.State.{State}
use Rattle.broker_core.specs.Text.{Text}
use Rattle.broker_core.specs.declared.answer.MatrixRow.{MatrixRow}
use Rattle.broker_core.specs.declared.command.Version.{Version}
use Rattle.broker_core.specs.declared.need.Need.{Need}
use Rattle.broker_tables.specs.Numbers.{number_of}

-- whether the matrix of the version of this number has no row
abbrev pub IsAlone : State → ℕ → Bool → Type 0
IsAlone s number alone = (v : Version) → number_of s.versions v ≡ Some number
    → IsTrue alone ↔ ((row : MatrixRow) → ¬ (IsMatrixRow s v row))

-- whether each need in e of the version of this number is good, e being strict or not
abbrev pub IsVerified : State → ℕ → Text → Bool → Bool → Type 0
IsVerified s number e strict verified = (v : Version) → number_of s.versions v ≡ Some number
    → IsTrue verified ↔ ((need : Need) → IsNeed s v e need → IsGood strict need)
