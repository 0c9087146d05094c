use Rattle.broker_core.specs.State.{opening}
use Rattle.broker_tables.proofs.ReadableSteps.{ReadableBegins-holds, ReadableStays-holds, ReadableStaysInRuns-holds}
use Rattle.command_facts.{specs.Primitives.{broker_primitives}, proofs.ReadableTexts.{KeepsUtf8-broker_primitives}}
use Rattle.command_facts.proofs.laws.readable_stays.Goals as goal

pub returns-clause-texts : goal.returns-clause-texts
returns-clause-texts c = KeepsUtf8-broker_primitives c.names_stay.ensures.digests c.reading_again.ensures.again

pub returns-clause-steps : goal.returns-clause-steps
returns-clause-steps c = ReadableStays-holds broker_primitives (KeepsUtf8-broker_primitives c.names_stay.ensures.digests c.reading_again.ensures.again)

pub returns-clause-runs : goal.returns-clause-runs
returns-clause-runs c = ReadableStaysInRuns-holds broker_primitives (KeepsUtf8-broker_primitives c.names_stay.ensures.digests c.reading_again.ensures.again)

pub returns-clause-reached : goal.returns-clause-reached
returns-clause-reached c token requests answers last all run =
    let keeps = KeepsUtf8-broker_primitives c.names_stay.ensures.digests c.reading_again.ensures.again in
    ReadableStaysInRuns-holds broker_primitives keeps (opening (broker_primitives.digest_of token)) last requests answers all (ReadableBegins-holds (broker_primitives.digest_of token) (keeps.digests token)) run
