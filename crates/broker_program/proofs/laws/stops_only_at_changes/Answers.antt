use Rattle.broker_program.proofs.ServiceStops.{StopsOnlyAtChanges-holds}
use Rattle.broker_program.proofs.laws.stops_only_at_changes.Goals as goal

pub returns : goal.returns
returns g c = StopsOnlyAtChanges-holds g.D.Disk g.met.D.Disk.seen_may_stay
