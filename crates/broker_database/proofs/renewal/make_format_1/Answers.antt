use Rattle.std.proofs.Common.{refl}
use Rattle.sqlite_tied.specs.Compute.{everything}
use Rattle.table_access.proofs.CallLemmas.{CallsBetween-weaken}
use Rattle.broker_database.proofs.renewal.make_format_1.Goals as goal

pub make_each-requires : goal.make_each-requires
unfolding everything
make_each-requires g c = (refl, (refl, (refl, (refl, (refl, (refl, (refl, (refl, (refl, (refl, (refl, (refl, (refl, tt)))))))))))))

pub returns : goal.returns
returns g c = CallsBetween-weaken _ _ c.make_each.result _ _ (λ a it. tt) c.make_each.ensures.makes
