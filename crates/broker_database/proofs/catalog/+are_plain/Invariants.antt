use Rattle.std.proofs.Common.{length}
use Rattle.broker_database.proofs.catalog.+are_plain.Given as goal

abbrev pub decreases-are_plain : goal.decreases-are_plain
decreases-are_plain l = length l.orders.now
