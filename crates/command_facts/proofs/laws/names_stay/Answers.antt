use Rattle.command_facts.{specs.Primitives.{broker_primitives}, proofs.Digests.{GivesDigests-broker_primitives}}
use Rattle.broker_core.proofs.SoundNames as lemma
use Rattle.command_facts.proofs.laws.names_stay.Goals as goal

pub returns-clause-digests : goal.returns-clause-digests
returns-clause-digests c = GivesDigests-broker_primitives

pub returns-clause-steps : goal.returns-clause-steps
returns-clause-steps c = lemma.NamesStay-holds broker_primitives GivesDigests-broker_primitives

pub returns-clause-runs : goal.returns-clause-runs
returns-clause-runs c = lemma.NamesStayInRuns-holds broker_primitives GivesDigests-broker_primitives
