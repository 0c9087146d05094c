-- what the question of can-i-deploy writes: one line on standard output (this project's own choice)
use Rattle.std.specs.Prelude.{◌≡◌, ◌≢◌, ℕ, List, ◌++◌, Bool, Option, None, Some, Ok}
use Rattle.std.specs.Borrow.{Bor}
use Rattle.std.specs.Io.KnownBytes.{Appends}
use Rattle.sqlite_disk.specs.declared.Disk.{Ghosts}
use Rattle.sqlite.specs.FileStore.{view}
use Rattle.sqlite.specs.Files.{file_state}
use Rattle.sqlite.specs.Held.{Held}
use Rattle.sqlite.specs.Recovery.{Image}
use Rattle.sqlite.specs.State.{HasCleanDisk}
use Rattle.sqlite.specs.View.{IsClean}
use Rattle.sqlite.specs.declared.FileStore.{FileStore}
use Rattle.answer_texts.specs.AnswerText.{answer_text}
use Rattle.broker_core.specs.declared.answer.Answer.{Answer}
use Rattle.broker_core.specs.declared.answer.Answer.TheVariants as answers
use Rattle.broker_core.specs.declared.answer.Shown.TheVariants as shows
use Rattle.broker_core.specs.declared.command.Command.{Command}
use Rattle.broker_core.specs.declared.command.Command.TheVariants.{CanIDeploy}
use Rattle.broker_core.specs.Laws.{IsDone}
use Rattle.broker_core.specs.Text.{Text}
use Rattle.broker_database.specs.BrokerView.{BrokerView}
use Rattle.broker_database.specs.Calls.{Applied, Opened}
use Rattle.broker_database.specs.Ends.{IsAsBefore}
use Rattle.broker_database.specs.Life.{IsGivenBack}
use Rattle.program_io.specs.Written.{IsBegun, newline}
use Rattle.broker_program.specs.Files.{LeavesStore, StartsFrom}
use Rattle.broker_program.specs.declared.can_i_deploy.Question.{Question}
use Rattle.broker_program.specs.declared.run_end.FileAfter.{FileAfter}

-- whether the gate permits the version, if the answer is the gate's
abbrev pub permission : Answer → Option Bool
permission (answers.Shown (shows.Gate environment marks says faults)) = Some says
permission _ = None

abbrev pub IsGate : Bool → Answer → Type 0
IsGate permitted answer = permission answer ≡ Some permitted

abbrev pub question : Bor Text → Bor Text → Bor Text → Bor Text → Question
question token pacticipant version environment =
    record { token = token; pacticipant = pacticipant; version = version; environment = environment }

-- what is asked: whether this version of a pacticipant may be deployed to this environment
abbrev pub asked : Question → Command
asked question =
    CanIDeploy (record { pacticipant = question.pacticipant.now; name = question.version.now }) question.environment.now

module _ (answer : Answer) (old new : Option (List ℕ)) where
  -- the answer says whether the version is permitted, and is written
  abbrev pub ReportsGate : Bool → Type 0
  ReportsGate permitted = IsGate permitted answer × Appends old new (answer_text answer ++ newline)

  abbrev pub ReportsGateUntil : Type 0
  ReportsGateUntil = (permitted : Bool) × IsGate permitted answer × IsBegun (answer_text answer ++ newline) old new

-- Held is what the log and the database file held at first.
module _ {D : Type 0} {g : Ghosts D} (held : Image) where
  -- The broker there, to a caller with this token, answers so, and the store is what is left of its file.
  pub record BrokerAnswers (token : Text) (command : Command) (answer : Answer) (store : FileStore D g) : Type 0 where
    pub connection : Held (FileStore D g)
    pub broker : BrokerView (FileStore D g)
    pub end : BrokerView (FileStore D g)
    pub starts : StartsFrom held connection
    pub opened : Opened file_state connection (Ok broker)
    pub applied : Applied file_state broker (Some token) command answer end
    -- if the command isn't done, its database shows what it showed when it was opened
    pub unchanged : answer ≢ answers.Store → ¬ (IsDone answer)
        → IsAsBefore (file_state connection) (file_state end.connection)
    -- the file was given up as it was
    pub clean : HasCleanDisk (file_state end.connection)
    pub left : IsGivenBack g end.connection store

  -- the same, if the disk is clean to the end
  abbrev pub AnswersFrom : Text → Command → Answer → FileStore D g → Type 0
  AnswersFrom token command answer store = IsClean (view store) → BrokerAnswers token command answer store

  abbrev pub AnswersQuestion : Question → Answer → FileStore D g → Type 0
  AnswersQuestion question = AnswersFrom question.token.now (asked question)

  module _ (question : Question) (old new : Option (List ℕ)) (rest : FileAfter D g) where
    abbrev pub Asks : Bool → Type 0
    Asks permitted =
        (answer : Answer) × LeavesStore (AnswersQuestion question answer) rest
        × ReportsGate answer old new permitted

    abbrev pub AsksUntil : Type 0
    AsksUntil =
        (answer : Answer) × LeavesStore (AnswersQuestion question answer) rest
        × ReportsGateUntil answer old new
