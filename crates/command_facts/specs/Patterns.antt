-- which commands may be answered Pattern: whether a pattern is built isn't wholly known beforehand
use Rattle.std.specs.Prelude.{◌≡◌, List, Option, Some, None, Ok}
use Rattle.broker_core.specs.Text.{Text}
use Rattle.broker_core.specs.State.{State}
use Rattle.broker_core.specs.Change.{Transition, unchanged_with}
use Rattle.broker_core.specs.Machine.{IsCallerOfToken, pact_text}
use Rattle.broker_core.specs.Request.{consumer_version, refusal}
use Rattle.broker_core.specs.declared.answer.Answer.TheVariants.{Pattern}
use Rattle.broker_core.specs.declared.command.Command.{Command}
use Rattle.broker_core.specs.declared.command.Command.TheVariants.{PostReplies}
use Rattle.broker_core.specs.declared.policy.Caller.{Caller}
use Rattle.command_facts.specs.Primitives.{broker_primitives}
use Rattle.command_facts.specs.Readings.{IsPatternAsked}
use Rattle.reply_check.specs.Recorded.{Reply}
use Rattle.reply_check.specs.Replies.{RepliesRead}

-- Well formed replies that nothing refuses are compared with the stored pact, and a pattern is needed: of the pact as
-- it is read again, or of an interaction that has a reply, if each reply belongs to one.
abbrev pub ComparesPattern : State → Caller → Command → Type 0
ComparesPattern s caller (PostReplies path report body) =
    (refusal s caller (PostReplies path report body) ≡ None)
    × ((text : Text) × (pact_text s (consumer_version path) path.provider ≡ Some text)
    × ((replies : List Reply) × RepliesRead body (Ok replies) × IsPatternAsked text replies))
ComparesPattern s caller _ = ⊥

-- and the token is a known caller's
abbrev pub AsksPattern : State → Option Text → Command → Type 0
AsksPattern s token command =
    (caller : Caller) × IsCallerOfToken broker_primitives s token (Some caller) × ComparesPattern s caller command

-- no step: the answer is that a pattern was refused, and nothing changes
abbrev pub RefusesPattern : State → Transition → Type 0
RefusesPattern s out = out ≡ unchanged_with s Pattern
