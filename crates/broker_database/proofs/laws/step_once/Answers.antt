use Rattle.broker_database.proofs.StoredLemmas.{HasOneStep-broker}
use Rattle.broker_database.proofs.laws.step_once.Goals as goal

pub returns : goal.returns
returns c = HasOneStep-broker
