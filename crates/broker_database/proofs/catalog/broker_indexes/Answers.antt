use Rattle.std.{specs.Fmt.{digits}, proofs.Common.{refl}}
use Rattle.broker_database.proofs.catalog.broker_indexes.Goals as goal

pub returns : goal.returns
unfolding digits
returns c = refl
