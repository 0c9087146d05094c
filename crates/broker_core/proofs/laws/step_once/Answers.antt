use Rattle.broker_core.proofs.Once.{StepOnce-holds as lemma}
use Rattle.broker_core.proofs.laws.step_once.Goals as goal

pub returns : goal.returns
returns g c = lemma g.M.Machine.primitives
