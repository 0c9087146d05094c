use Rattle.broker_core.proofs.RunHeadline as lemma
use Rattle.broker_core.proofs.laws.headline_of_run.Goals as goal

pub returns-clause-deployments : goal.returns-clause-deployments
returns-clause-deployments g c = lemma.RunsDeployExactly-holds g.M.Machine.primitives

pub returns-clause-releases : goal.returns-clause-releases
returns-clause-releases g c = lemma.RunsReleaseExactly-holds g.M.Machine.primitives

pub returns-clause-stays : goal.returns-clause-stays
returns-clause-stays g c = lemma.TeamsStayApart-holds g.M.Machine.primitives

pub returns-clause-begins : goal.returns-clause-begins
returns-clause-begins g c = lemma.TeamsBeginApart-holds
