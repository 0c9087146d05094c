-- the sentence for which this broker exists, of a deployment or a release that was run
use Rattle.std.specs.Prelude.{Option}
use Rattle.sqlite.specs.State.{State}
use Rattle.broker_core.specs.Headline.{IsRecordedExactly}
use Rattle.broker_core.specs.Text.{Text}
use Rattle.broker_core.specs.State.{State as Broker}
use Rattle.broker_core.specs.declared.answer.Answer.{Answer}
use Rattle.broker_core.specs.declared.command.Version.{Version}
use Rattle.command_facts.specs.Primitives.{broker_primitives}
use Rattle.broker_database.specs.Stored.{HoldsState}

-- the connection keeps a state in which v is recorded in e if and only if it may be; otherwise the answer refuses, and
-- the state is as it was
abbrev pub RecordsExactly : Broker → Option Text → Text → Version → (Broker → Type 0)
    → State → Answer → Type 0
RecordsExactly s token e v IsRecorded new answer =
    (t : Broker) × HoldsState t new
    × IsRecordedExactly broker_primitives s token e v IsRecorded (record { answer = answer; state = t })
