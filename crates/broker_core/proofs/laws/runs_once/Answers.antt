use Rattle.broker_core.proofs.SessionLemmas.{RunsOnce-holds as lemma}
use Rattle.broker_core.proofs.laws.runs_once.Goals as goal

pub returns : goal.returns
returns g c = lemma g.M.Machine.primitives
