use Rattle.std.proofs.Common.{refl}
use Rattle.sqlite_tied.specs.Compute.{everything}
use Rattle.broker_database.proofs.renewal.drop_format_1.Goals as goal

pub drop_each-requires : goal.drop_each-requires
unfolding everything
drop_each-requires g c = (refl, (refl, (refl, (refl, (refl, (refl, (refl, (refl, (refl, (refl, (refl, (refl, (refl, tt)))))))))))))
