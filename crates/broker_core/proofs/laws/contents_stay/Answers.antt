use Rattle.broker_core.proofs.SoundContents as lemma
use Rattle.broker_core.proofs.laws.contents_stay.Goals as goal

pub returns-clause-opening : goal.returns-clause-opening
returns-clause-opening g c = lemma.OpeningIsSound-holds g.M.Machine.primitives

pub returns-clause-steps : goal.returns-clause-steps
returns-clause-steps g c = lemma.ContentsStay-holds g.M.Machine.primitives
