use Rattle.sqlite_store.specs.Laws.{settled_at, stays_at}
use Rattle.broker_database.proofs.LifeLemmas.{opened_files_hold, OpeningSpares-holds}
use Rattle.broker_database.proofs.laws.kept_files.Goals as goal

pub returns-clause-opened : goal.returns-clause-opened
returns-clause-opened g c = opened_files_hold g.D.Disk (λ conn now. stays_at conn.store g.met.D.Disk.seen_may_stay now) (λ conn trees now may. settled_at conn.store g.met.D.Disk.seen_may_stay trees now may)

pub returns-clause-unopened : goal.returns-clause-unopened
returns-clause-unopened g c = OpeningSpares-holds g.D.Disk
