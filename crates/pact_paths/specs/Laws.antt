-- Laws of the definitions.
use Rattle.std.specs.Prelude.{ℕ, List, Result}
use Rattle.pact_paths.specs.Paths.{Token}
use Rattle.pact_paths.specs.Readings.{IsTheReading}
use Rattle.pact_paths.specs.declared.path_reader.PathFault.{PathFault}

-- each text has one reading: a path, or a fault
abbrev pub HasOneReading : Type 0
HasOneReading = (text : List ℕ) → (r : Result (List Token) PathFault) × IsTheReading text r
