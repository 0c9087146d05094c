use Rattle.std.proofs.Common.{refl}
use Rattle.sqlite_tied.specs.Compute.{everything}
use Rattle.access_tests.proofs.access.make.Goals as goal

pub change-requires : goal.change-requires
unfolding everything
change-requires g c = refl
