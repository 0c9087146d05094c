use Rattle.broker_database.proofs.Sound.{HasSoundContents-step}
use Rattle.broker_database.proofs.laws.contents_stay.Goals as goal

pub returns-clause-steps : goal.returns-clause-steps
returns-clause-steps c = HasSoundContents-step
