-- What the caller that reads and normalises a pact promises (this project's own).
use Rattle.std.specs.Prelude.{◌≡◌, ℕ, List, Result, Ok, Err}
use Rattle.pact_file.specs.Normal.{Normal}
use Rattle.pact_file.specs.Pact.{Pact, normal_text}
use Rattle.pact_file.specs.declared.fault.PactFault.{PactFault}

-- the normal text of the pact in a file, or the file's first fault
abbrev pub NormalText : List ℕ → Result (List ℕ) PactFault → Type 0
NormalText file (Ok text) = (p : Pact) × Normal file (Ok p) × (text ≡ normal_text p)
NormalText file (Err fault) = Normal file (Err fault)
