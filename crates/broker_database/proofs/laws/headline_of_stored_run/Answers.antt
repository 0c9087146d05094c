use Rattle.broker_database.proofs.StoredLemmas as lemma
use Rattle.broker_database.proofs.laws.headline_of_stored_run.Goals as goal

pub returns-clause-deployments : goal.returns-clause-deployments
returns-clause-deployments c = lemma.StoredRunsDeployExactly-holds

pub returns-clause-releases : goal.returns-clause-releases
returns-clause-releases c = lemma.StoredRunsReleaseExactly-holds

pub returns-clause-callers : goal.returns-clause-callers
returns-clause-callers c = lemma.teams_differ
