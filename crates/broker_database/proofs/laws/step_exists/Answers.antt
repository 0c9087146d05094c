use Rattle.broker_database.proofs.StoredLemmas.{StoredStepExists-holds}
use Rattle.broker_database.proofs.laws.step_exists.Goals as goal

pub returns : goal.returns
returns c = StoredStepExists-holds
