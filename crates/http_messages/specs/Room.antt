-- those that wait while another one is served (this project's own choice)
use Rattle.std.specs.Prelude.{◌≡◌, ◌-◌, ◌++◌, ℕ, Bool, nat_lt, if◌then◌else◌, count_by, length, List, [], ◌∷◌, filter, position, Option, Some, None, unwrap_or}

-- the place of the one that comes next of those that wait, in the order in which they came: the first that is ready, or
-- else the first of all
abbrev pub next_of : {A : Type 0} → (A → Bool) → List A → Option ℕ
next_of is_ready [] = None
next_of is_ready (first ∷ others) = Some (unwrap_or (position is_ready (first ∷ others)) 0)

-- each that was ready still waits, in the same order; others that are ready have come after them
abbrev pub KeepsReady : {A : Type 0} → (A → Bool) → (old new : List A) → Type 0
KeepsReady {A} is_ready old new = (more : List A) × (filter is_ready new ≡ filter is_ready old ++ more)

-- how many may come at once: as many as there is room for, and if there is none, one for each that isn't ready
abbrev pub places : {A : Type 0} → (A → Bool) → List A → ℕ
places is_ready waiting =
    if nat_lt (length waiting) 64 then 64 - length waiting else 64 - count_by is_ready waiting
