use Rattle.broker_tables.proofs.ReadableSteps as lemma
use Rattle.broker_tables.proofs.laws.readable_stays.Goals as goal

pub returns-clause-begins : goal.returns-clause-begins
returns-clause-begins g c = lemma.ReadableBegins-holds

pub returns-clause-steps : goal.returns-clause-steps
returns-clause-steps g c = lemma.ReadableStays-holds g.M.Machine.primitives

pub returns-clause-runs : goal.returns-clause-runs
returns-clause-runs g c = lemma.ReadableStaysInRuns-holds g.M.Machine.primitives
