use Rattle.broker_http.proofs.StreamHeadline as lemma
use Rattle.broker_http.proofs.laws.headline_of_stream.Goals as goal

pub returns-clause-deployments : goal.returns-clause-deployments
returns-clause-deployments c = lemma.StreamsDeployExactly-holds

pub returns-clause-releases : goal.returns-clause-releases
returns-clause-releases c = lemma.StreamsReleaseExactly-holds
