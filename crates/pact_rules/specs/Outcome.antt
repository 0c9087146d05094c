-- Reading part after part: the first fault is the answer. What a reader gives is what reading gives, unless memory
-- ran out.
use Rattle.std.specs.Prelude.{Bool, true, false, Result, Ok, Err, ⊤}
pub use Rattle.pact_paths.specs.Outcome.{Gives, GivesAlways, GivesChecked, checked}

infixl 10 ◌>>=◌
abbrev pub ◌>>=◌ : {A B F : Type 0} → Result A F → (A → Result B F) → Result B F
(Ok x) >>= f = f x
(Err e) >>= f = Err e

-- the fault, if the test fails
abbrev pub guard : {F : Type 0} → Bool → F → Result ⊤ F
guard true fault = Ok tt
guard false fault = Err fault
