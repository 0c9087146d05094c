-- What the result of a check says of the reading.
use Rattle.std.proofs.Common.{◌≡◌, Result, Ok, Err, sym, ap}
use Rattle.pact_paths.specs.Outcome.{checked}

-- two faults that are one answer are one
pub Err-injective : {A F : Type 0} {x y : F} → ◌≡◌ {A = Result A F} (Err x) (Err y) → x ≡ y
Err-injective e = cc

-- if the check fails, the reading has the same fault
pub checked-fault : {A F : Type 0} (r : Result A F) (e : F) → Err e ≡ checked r → r ≡ Err e
checked-fault (Ok x) e h = absurd cc
checked-fault (Err f) e h = ap Err (sym (Err-injective h))

-- if it passes, the reading has no fault
pub checked-no_fault : {A F : Type 0} (r : Result A F) (e : F) → Ok tt ≡ checked r → r ≡ Err e → ⊥
checked-no_fault (Ok x) e h is = absurd cc
checked-no_fault (Err f) e h is = absurd cc
