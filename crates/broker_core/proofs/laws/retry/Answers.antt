use Rattle.broker_core.proofs.Retry.{Retry-holds as lemma}
use Rattle.broker_core.proofs.laws.retry.Goals as goal

pub returns : goal.returns
returns g c = lemma g.M.Machine.primitives
