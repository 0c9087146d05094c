use Rattle.broker_core.proofs.Headline as lemma
use Rattle.broker_core.proofs.laws.headline_of_step.Goals as goal

pub returns-clause-deployments : goal.returns-clause-deployments
returns-clause-deployments g c = lemma.DeploysExactly-holds g.M.Machine.primitives

pub returns-clause-releases : goal.returns-clause-releases
returns-clause-releases g c = lemma.ReleasesExactly-holds g.M.Machine.primitives

pub returns-clause-gate : goal.returns-clause-gate
returns-clause-gate g c = lemma.PermitsVerified-holds
