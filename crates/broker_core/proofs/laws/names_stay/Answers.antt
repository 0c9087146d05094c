use Rattle.broker_core.proofs.SoundNames as lemma
use Rattle.broker_core.proofs.laws.names_stay.Goals as goal

pub returns-clause-begin : goal.returns-clause-begin
returns-clause-begin g c = lemma.NamesBegin-holds

pub returns-clause-steps : goal.returns-clause-steps
returns-clause-steps g c = lemma.NamesStay-holds g.M.Machine.primitives

pub returns-clause-runs : goal.returns-clause-runs
returns-clause-runs g c = lemma.NamesStayInRuns-holds g.M.Machine.primitives
