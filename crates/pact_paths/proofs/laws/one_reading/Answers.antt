use Rattle.pact_paths.{specs.PathReading.{path_in}, proofs.ReadingLemmas.{IsTheReading-path_in}}
use Rattle.pact_paths.proofs.laws.one_reading.Goals as goal

pub returns : goal.returns
returns c = λ text. (path_in text, IsTheReading-path_in text)
