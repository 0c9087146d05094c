-- Laws of the definitions.
use Rattle.std.specs.Prelude.{◌≡◌, ◌⊎◌, ℕ, List, Result, Ok}
use Rattle.pact_file.specs.Normal.{Normal, IsRefusal}
use Rattle.pact_file.specs.Pact.{Pact, normal_text}
use Rattle.pact_file.specs.declared.fault.PactFault.{PactFault}

-- The normal text of a pact may be read, and is read as that pact, unless a pattern is refused.
abbrev pub NormalAgain : Type 0
NormalAgain = (bytes : List ℕ) (p : Pact) → Normal bytes (Ok p)
    → Normal (normal_text p) (Ok p)
    × ((answer : Result Pact PactFault) → Normal (normal_text p) answer → (answer ≡ Ok p) ⊎ IsRefusal answer)

-- Two pacts have one normal text only if they are equal.
abbrev pub OnePact : Type 0
OnePact = (a b : List ℕ) (p q : Pact) → Normal a (Ok p) → Normal b (Ok q) → normal_text p ≡ normal_text q → p ≡ q

-- Two answers to one file are equal, unless one of them is that a pattern was refused.
abbrev pub OneAnswer : Type 0
OneAnswer = (bytes : List ℕ) (r s : Result Pact PactFault) → Normal bytes r → Normal bytes s
    → (r ≡ s) ⊎ (IsRefusal r ⊎ IsRefusal s)
