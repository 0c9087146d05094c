use Rattle.broker_core.proofs.DoneLemmas.{SessionsRun-holds as lemma}
use Rattle.broker_core.proofs.laws.sessions_run.Goals as goal

pub returns : goal.returns
returns g c = lemma g.M.Machine.primitives
