use Rattle.sqlite.specs.Held.{state}
use Rattle.broker_database.proofs.LifeLemmas.{PeriodsLead-holds}
use Rattle.broker_database.proofs.laws.period_leads.Goals as goal

pub returns : goal.returns
returns g c = PeriodsLead-holds (state g.S.Store) (λ conn trees now may. g.met.S.Store.settled conn.store trees now may)
