-- The value of a `Step` in the logic.
use Rattle.std.specs.Prelude.{string_bytes}
use Rattle.pact_paths.specs.Paths as path
use Rattle.pact_paths.specs.declared.path.Step.{Step}
use Rattle.pact_paths.specs.declared.path.Step.TheVariants.{Key, Index}

abbrev pub step_view : Step → path.Step
step_view (Key k) = path.key (string_bytes k)
step_view (Index i) = path.item i
