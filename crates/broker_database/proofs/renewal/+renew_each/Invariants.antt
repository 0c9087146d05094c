use Rattle.std.proofs.Common.{length}
use Rattle.broker_database.proofs.renewal.+renew_each.Given as goal

abbrev pub decreases-renew_each : goal.decreases-renew_each
decreases-renew_each g l = length l.tables.now
