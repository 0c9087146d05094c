-- The value of an `Asked` in the logic.
use Rattle.std.specs.Prelude.{Option, Some, None}
use Rattle.pact_paths.specs.Paths as path
use Rattle.pact_paths.specs.declared.asked.Asked.{Asked}
use Rattle.pact_paths.specs.declared.asked.Asked.TheVariants.{Nothing, Key, Index}

abbrev pub asked_view : Asked → Option path.Step
asked_view Nothing = None
asked_view (Key k) = Some (path.key k.now)
asked_view (Index i) = Some (path.item i)
