use Rattle.std.proofs.Common.{refl}
use Rattle.sqlite_tied.specs.Compute.{everything}
use Rattle.broker_database.proofs.renewal.renew.Goals as goal

pub renew_each-requires : goal.renew_each-requires
unfolding everything
renew_each-requires g c = (refl, (refl, (refl, (refl, (refl, (refl, (refl, (refl, (refl, (refl, (refl, (refl, (refl, tt)))))))))))))
