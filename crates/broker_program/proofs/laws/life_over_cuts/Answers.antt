use Rattle.broker_program.proofs.PeriodLemmas.{finding_none_leads, shut_leads, unclosed_leads}
use Rattle.broker_program.proofs.laws.life_over_cuts.Goals as goal

pub returns-clause-unfound : goal.returns-clause-unfound
returns-clause-unfound g c held visits fault store it clean old are image may =
    finding_none_leads g.D.Disk g.met.D.Disk.seen_may_stay old held visits are fault store it clean image may

pub returns-clause-shut : goal.returns-clause-shut
returns-clause-shut g c held visits fault rest seed it clean unharmed old are image may =
    shut_leads g.D.Disk g.met.D.Disk.seen_may_stay old held visits are it.store it.served.0 clean fault rest seed it.shut unharmed image may

pub returns-clause-unclosed : goal.returns-clause-unclosed
returns-clause-unclosed g c held visits fault store it clean numbered old are image may =
    unclosed_leads g.D.Disk g.met.D.Disk.seen_may_stay old held visits are fault store it clean numbered image may
