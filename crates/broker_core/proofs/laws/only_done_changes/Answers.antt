use Rattle.broker_core.proofs.Quiet.{OnlyDoneChanges-holds as lemma}
use Rattle.broker_core.proofs.laws.only_done_changes.Goals as goal

pub returns : goal.returns
returns g c = lemma g.M.Machine.primitives
