-- A broker that serves, as the machine or stopped.
use Rattle.std.specs.Prelude.{◌≡◌, ◌≢◌, ◌⊎◌, ◌+◌, ◌*◌, ℕ, true, false, List, [], length, Option, None, Result, IfOk, IfErr}
use Rattle.std.specs.Io.KnownBytes.{Appends, Consumes, IsAtEnd}
use Rattle.sqlite.specs.Held.{Held}
use Rattle.sqlite.specs.State.{State, HasCause}
use Rattle.sqlite_trees.specs.declared.error.StoreError.TheVariants.{Io, Broken}
use Rattle.table_access.specs.Durability.{HoldsEither}
use Rattle.broker_core.specs.Laws.{TeamsDiffer}
use Rattle.broker_core.specs.Machine.{Step, is_step}
use Rattle.broker_core.specs.State.{State as Broker}
use Rattle.broker_core.specs.Text.{Text}
use Rattle.broker_core.specs.declared.answer.Answer.{Answer}
use Rattle.broker_core.specs.declared.answer.Answer.TheVariants as answers
use Rattle.broker_core.specs.declared.command.Command.{Command}
use Rattle.broker_tables.specs.Readable.{IsReadable}
use Rattle.broker_tables.specs.Room.{HasRoomFor, enough}
use Rattle.broker_database.specs.BrokerView.{BrokerView}
use Rattle.broker_database.specs.Causes.{IsToBeDone, CommitLacksMemory}
use Rattle.broker_database.specs.Ends.{HoldsNext}
use Rattle.command_facts.specs.Patterns.{AsksPattern}
use Rattle.command_facts.specs.Primitives.{broker_primitives}
use Rattle.broker_database.specs.Stored.{Stores, HoldsState}
use Rattle.http_messages.specs.Message.{Message}
use Rattle.http_messages.specs.Messages.{AnnouncesBody, BeginsWithMessage, HasNoMessage}
use Rattle.http_requests.specs.Requests.{AsksOperation}
use Rattle.http_responses.specs.Responses.{Response}
use Rattle.broker_http.specs.Stream.{texts, Responses, StreamEnds, StreamCut}
use Rattle.broker_http.specs.declared.served.Ended.TheVariants.{Closed}
use Rattle.broker_http.specs.declared.served.StreamFault.{StreamFault}
use Rattle.broker_http.specs.declared.served.StreamFault.TheVariants as faults
use Rattle.broker_http.specs.declared.served.Served.{Served}

-- the broker is the machine in a state; or a command of a token, in a state, failed, and the broker is stopped
pub data Mode : Type 0 where
  Running : Broker → Mode
  IsStopped : (s : Broker) (token : Option Text) (command : Command) → Mode

-- An answer and the next mode: a step of the machine, from a state in which no two teams have tokens with one digest;
-- or no memory, or a pattern that was refused as replies were compared with a stored pact, and no step; or a failure of
-- the database, after which each answer is Stopped.
abbrev pub ModeStep : Mode → Option Text → Command → Answer → Mode → Type 0
ModeStep (Running s) token command answer (Running t) =
    ((is_step answer ≡ true) × Step broker_primitives s token command (record { answer = answer; state = t })
    × TeamsDiffer s)
    ⊎ (((answer ≡ answers.Memory) × (t ≡ s))
    ⊎ ((answer ≡ answers.Pattern) × AsksPattern s token command × (t ≡ s)))
ModeStep (Running s) token command answer (IsStopped u of failed) =
    (answer ≡ answers.Store) × (u ≡ s) × (of ≡ token) × (failed ≡ command)
ModeStep (IsStopped s of failed) token command answer next =
    (answer ≡ answers.Stopped) × (next ≡ IsStopped s of failed)

-- shown is what a connection holds of its store
module _ {X : Type 0} (shown : Held X → State) where
  -- The broker's database holds the machine's state, and a crash leaves it. A stopped broker's database holds the
  -- state before the command that failed;
  -- if a fault of the disk has shut the connection, a crash may leave the state after that command too.
  abbrev pub IsInMode : Mode → BrokerView X → Type 0
  IsInMode (Running s) b = (b.is_stopped ≡ false) × HoldsState s (shown b.connection)
  IsInMode (IsStopped s token command) b =
      (b.is_stopped ≡ true) × HoldsEither (λ db. Stores db s) (HoldsNext s token command) (shown b.connection)

-- between the two, the disk failed or refused once more; or a fault of it had shut the connection before
abbrev pub IsDiskAtFault : State → State → Type 0
IsDiskAtFault old new = HasCause old new ⊥ Io ⊎ HasCause old new ⊥ Broken

-- a broker runs, in a state that can be read back
abbrev pub RunsReadable : Mode → Type 0
RunsReadable (Running s) = IsReadable s
RunsReadable (IsStopped s token command) = ⊥

-- Why a broker is stopped that ran at first, in a state that can be read back, over a connection on which no query has a
-- limit of steps, and answered so many messages by steps: the disk failed; or the command was to be done and, if at first
-- each table had numbers for the rows of these steps and of the command, COMMIT was refused since memory ran out.
module _ {X : Type 0} (shown : Held X → State) (first : Mode) (old new : Held X) (steps : ℕ) where
  abbrev pub StopsOnlyBy : Mode → Type 0
  StopsOnlyBy (Running s) = Unit {0}
  StopsOnlyBy (IsStopped s token command) =
      (shown old).step_limit ≡ None → RunsReadable first
      → IsDiskAtFault (shown old) (shown new)
      ⊎ (IsToBeDone s token command
      × (HasRoomFor (enough * (steps + 1)) (shown old).now
      → (before : Held X) × CommitLacksMemory shown s token command before new))

-- What of the stream that was read isn't answered at a fault: the rest after the messages that are. If the reader failed
-- it has no whole message. If memory ran out, nothing was read; or the rest begins with a head that announces a body, or
-- with a message that asks an operation.
abbrev pub IsUnanswered : StreamFault → (stream rest : List ℕ) → Type 0
IsUnanswered (faults.Read failed) stream rest = HasNoMessage rest
IsUnanswered (faults.Turn over) stream rest = Unit {0}
IsUnanswered faults.Count stream rest = Unit {0}
IsUnanswered (faults.Write fault) stream rest = Unit {0}
IsUnanswered faults.Memory stream rest =
    (stream ≡ []) ⊎ AnnouncesBody rest
    ⊎ ((m : Message) × (after : List ℕ) × BeginsWithMessage rest m after × AsksOperation m)

module _ {S : Type 0} (Exchange : S → Message → Response → S → Type 0) (s t : S)
    (before after old new : Option (List ℕ)) where
  -- what was read is answered message by message, and nothing else is written
  abbrev pub Serves : Served → Type 0
  Serves served =
      (stream : List ℕ) × (responses : List Response) × (rest : List ℕ)
      × Consumes before after stream
      × Responses Exchange s stream responses t rest
      × StreamEnds served.ended responses rest
      × (served.answered ≡ length responses)
      × Appends old new (texts responses)

  -- a fault leaves some messages answered
  abbrev pub ServesUntil : StreamFault → Type 0
  ServesUntil fault =
      (stream : List ℕ) × (responses : List Response) × (rest : List ℕ) × (out : List ℕ)
      × Consumes before after stream
      × Responses Exchange s stream responses t rest
      × StreamCut fault responses out
      × Appends old new out
      × IsUnanswered fault stream rest

  -- what serving a stream does, by its result
  pub record ServesStream (result : Result Served StreamFault) : Type 0 where
    pub ok : IfOk result Serves
    -- it ends by itself only at the reader's end
    pub end : IfOk result (λ served. served.ended ≢ Closed → IsAtEnd after)
    pub fault : IfErr result ServesUntil
