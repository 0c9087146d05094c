-- Reading as a relation between what is read and the answer: part after part, where the first fault is the answer.
use Rattle.std.specs.Prelude.{◌≡◌, ℕ, ◌+◌, List, [], ◌∷◌, Result, Ok, Err}

-- what is read by a function
abbrev pub just : {A F : Type 0} → Result A F → Result A F → Type 0
just read answer = read ≡ answer

-- what is answered after a first answer: a value goes to the next step, and a fault is the answer of the whole
abbrev pub Follows : {A B F : Type 0} → Result A F → (A → Result B F → Type 0) → Result B F → Type 0
Follows (Ok x) next answer = next x answer
Follows (Err e) next answer = answer ≡ Err e

infixl 10 ◌>>=◌
abbrev pub ◌>>=◌ : {A B F : Type 0} → (Result A F → Type 0) → (A → Result B F → Type 0) → Result B F → Type 0
◌>>=◌ {A} {B} {F} first next answer = (r : Result A F) × first r × Follows r next answer

-- each is read, in order, by its index from i on: all, or the first fault
unfoldable pub EachRead : {A B F : Type 0} → (ℕ → A → Result B F → Type 0) → ℕ → List A → Result (List B) F → Type 0
EachRead read i [] = just (Ok [])
EachRead read i (x ∷ xs) = do
  first ← read i x
  others ← EachRead read (i + 1) xs
  just (Ok (first ∷ others))

-- What a function returned, seen by view, is an answer of that reading, unless memory ran out.
abbrev pub GivesOne : {X Y F : Type 0} → F → (X → Y) → Result X F → (Result Y F → Type 0) → Type 0
GivesOne memory view (Ok x) reads = reads (Ok (view x))
GivesOne memory view (Err e) reads = ¬ (e ≡ memory) → reads (Err e)
