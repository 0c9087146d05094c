use Rattle.broker_core.proofs.Exists.{StepExists-holds as lemma}
use Rattle.broker_core.proofs.laws.step_exists.Goals as goal

pub returns : goal.returns
returns g c = lemma g.M.Machine.primitives
