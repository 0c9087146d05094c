use Rattle.command_facts.proofs.Again.{ReadsAgain-broker_primitives, AreReadOnce-holds}
use Rattle.command_facts.proofs.laws.reading_again.Goals as goal

pub returns-clause-again : goal.returns-clause-again
returns-clause-again c = ReadsAgain-broker_primitives

pub returns-clause-once : goal.returns-clause-once
returns-clause-once c = AreReadOnce-holds
