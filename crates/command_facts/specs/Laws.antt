-- Laws of what is read and of what can be read back, as they are of this broker (this project's own choice)
use Rattle.std.specs.Prelude.{List}
use Rattle.std.specs.List.{AllByRecursion}
use Rattle.broker_core.specs.declared.answer.Answer.{Answer}
use Rattle.broker_core.specs.declared.command.Command.{Command}
use Rattle.broker_core.specs.Text.{Text}
use Rattle.broker_core.specs.State.{State as Broker, opening}
use Rattle.broker_core.specs.Machine.{Request, Run}
use Rattle.broker_core.specs.Laws.{IsReadOnce}
use Rattle.broker_tables.specs.Laws.{HasReadableNames}
use Rattle.broker_tables.specs.Readable.{IsReadable}
use Rattle.command_facts.specs.Primitives.{broker_primitives}
use Rattle.command_facts.specs.Readings.{is_refusal}

-- each command's file is read in one way, unless a pattern is refused, and its replies in one way
abbrev pub AreReadOnce : Type 0
AreReadOnce = (command : Command) → IsReadOnce broker_primitives is_refusal command

-- each state that a run reaches from the opening state of an office, for any token of the office, can be read back
abbrev pub ReachedIsReadable : Type 0
ReachedIsReadable =
    (token : Text) (requests : List Request) (answers : List Answer) (last : Broker)
    → AllByRecursion (λ r. HasReadableNames r.command) requests
    → Run broker_primitives (opening (broker_primitives.digest_of token)) requests answers last → IsReadable last
