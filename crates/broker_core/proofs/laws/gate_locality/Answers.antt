use Rattle.broker_core.proofs.Locality as lemma
use Rattle.broker_core.proofs.laws.gate_locality.Goals as goal

pub returns-clause-every_state : goal.returns-clause-every_state
returns-clause-every_state g c = lemma.GateLocality-holds g.M.Machine.primitives

pub returns-clause-one_answer : goal.returns-clause-one_answer
returns-clause-one_answer g c = lemma.GateAnswersOnce-holds g.M.Machine.primitives
