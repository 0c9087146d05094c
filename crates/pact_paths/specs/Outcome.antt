-- What a reader gives is what reading gives, unless memory ran out.
use Rattle.std.specs.Prelude.{◌≡◌, Result, Ok, Err, ⊤}

-- What a function returned, seen by view, is what reading gives, unless memory ran out.
abbrev pub Gives : {X Y F : Type 0} → F → (X → Y) → Result X F → Result Y F → Type 0
Gives memory view (Ok x) read = read ≡ Ok (view x)
Gives memory view (Err e) read = ¬ (e ≡ memory) → read ≡ Err e

-- What a function that takes no memory returned, seen by view, is what reading gives.
abbrev pub GivesAlways : {X Y F : Type 0} → (X → Y) → Result X F → Result Y F → Type 0
GivesAlways view (Ok x) read = read ≡ Ok (view x)
GivesAlways view (Err e) read = read ≡ Err e

-- The same of a function that takes memory only if there is no fault: each fault is what it returned.
abbrev pub GivesChecked : {X Y F : Type 0} → F → (X → Y) → Result X F → Result Y F → Type 0
GivesChecked {X} {Y} {F} memory view result read =
    Gives memory view result read × ((fault : F) → read ≡ Err fault → result ≡ Err fault)

-- whether it is read, or the fault
abbrev pub checked : {A F : Type 0} → Result A F → Result ⊤ F
checked (Ok x) = Ok tt
checked (Err e) = Err e
