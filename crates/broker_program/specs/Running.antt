-- what a command line has read and written when the program ends (this project's own choice)
use Rattle.std.specs.Prelude.{◌≡◌, ◌≢◌, ◌⊎◌, ℕ, List, Bool, true, false, Option, Result, codes}
use Rattle.sqlite_disk.specs.declared.Disk.{Ghosts}
use Rattle.sqlite.specs.Recovery.{Image}
use Rattle.broker_names.specs.Name.{IsToken}
use Rattle.clap.specs.Words.{Text}
use Rattle.http_responses.specs.declared.writing.WriteFault.{WriteFault}
use Rattle.std.specs.declared.io.ErrorKind.{ErrorKind}
use Rattle.std.specs.declared.io.ErrorKind.TheVariants.{InvalidData}
use Rattle.command_line.specs.Lines.{IsFoundIn, Says, is_line}
use Rattle.broker_program.specs.Replays.{Replays, ReplaysUntil}
use Rattle.broker_program.specs.Files.{LeavesClosed, LeavesRead, LeavesServed}
use Rattle.program_io.specs.Listening.{ListensOn}
use Rattle.broker_program.specs.Audits.{Audits, AuditsUntil}
use Rattle.broker_program.specs.Making.{BrokerIsMade, FileIsMigrated}
use Rattle.broker_program.specs.Reasons.{IsFaultOf}
use Rattle.program_io.specs.Faults.{fault_text}
use Rattle.program_io.specs.Reported.{IsReported}
use Rattle.broker_program.specs.Serving.{ServesFile}
use Rattle.broker_program.specs.Returned.{Asks, AsksUntil, question}
use Rattle.program_io.specs.Written.{Checks, ChecksUntil, IsLineOut, Normalises, NormalisesUntil}
use Rattle.program_io.specs.declared.fault.RunFault.{RunFault}
use Rattle.program_io.specs.declared.fault.RunFault.TheVariants as run_fault
use Rattle.broker_program.specs.Words.{ReportsOfWords}
use Rattle.broker_program.specs.declared.run_end.RunEnd.{RunEnd}
use Rattle.broker_program.specs.declared.run_end.FileAfter.{FileAfter}
use Rattle.command_line.specs.declared.line.Line.{Line}
use Rattle.command_line.specs.declared.line.Line.TheVariants.{Audit, CanIDeploy, Check, Init, Migrate, Normalise}
use Rattle.command_line.specs.declared.line.Line.TheVariants.{Replay, Serve}

-- Held is what the files of a command held at first, and rest what the command left of them.
module _ {D : Type 0} {g : Ghosts D} (held : Image) (before after old new : Option (List ℕ)) (rest : FileAfter D g) where
  -- nothing was read or written
  abbrev pub IsSilent : Type 0
  IsSilent = (after ≡ before) × (new ≡ old)

  -- The command ended; `passes` is true if it is done, its check or its audit passed or its version is permitted.
  abbrev pub CommandEnds : Line → Bool → Type 0
  CommandEnds (Replay token) passes = (passes ≡ true) × IsToken token.now × Replays token.now before after old new
  CommandEnds (Init file token) passes =
      (passes ≡ true) × IsToken token.now × IsSilent × LeavesClosed (BrokerIsMade g held token.now) rest
  CommandEnds (Migrate file) passes = (passes ≡ true) × IsSilent × LeavesClosed (FileIsMigrated g held) rest
  CommandEnds (Audit file) passes = (after ≡ before) × Audits held rest old new passes
  CommandEnds (Serve file listen connections) passes =
      (passes ≡ true) × IsSilent × ListensOn listen.now × LeavesServed (ServesFile g held connections) rest
  CommandEnds Normalise passes = (passes ≡ true) × Normalises before after old new
  CommandEnds (Check pact replies) passes =
      (after ≡ before) × LeavesRead (λ read. Checks old new read passes) rest
  CommandEnds (CanIDeploy file token pacticipant version environment) passes =
      (after ≡ before) × Asks held (question token pacticipant version environment) old new rest passes

  -- The command failed: what it wrote is a beginning of what it would have written.
  abbrev pub CommandFails : Line → Type 0
  CommandFails (Replay token) = IsSilent ⊎ ReplaysUntil token.now before after old new
  CommandFails (Init file token) = IsSilent
  CommandFails (Migrate file) = IsSilent
  CommandFails (Audit file) = (after ≡ before) × ((new ≡ old) ⊎ AuditsUntil held rest old new)
  CommandFails (Serve file listen connections) = IsSilent
  CommandFails Normalise = (new ≡ old) ⊎ NormalisesUntil before after old new
  CommandFails (Check pact replies) = (after ≡ before) × ((new ≡ old) ⊎ LeavesRead (ChecksUntil old new) rest)
  CommandFails (CanIDeploy file token pacticipant version environment) =
      (after ≡ before)
      × ((new ≡ old) ⊎ AsksUntil held (question token pacticipant version environment) old new rest)

-- Remaining is what a reader still gives, contents what a writer has taken.
module _ {D I O : Type 0} {g : Ghosts D} (held : Image) (remaining : I → Option (List ℕ)) (contents : O → Option (List ℕ)) (before after : I) (old new : O) (rest : FileAfter D g) where
  abbrev pub CommandEndsOn : Line → Bool → Type 0
  CommandEndsOn = CommandEnds held (remaining before) (remaining after) (contents old) (contents new) rest

  abbrev pub CommandFailsOn : Line → Type 0
  CommandFailsOn = CommandFails held (remaining before) (remaining after) (contents old) (contents new) rest

  abbrev pub IsFaultOn : Line → RunFault → Type 0
  IsFaultOn = IsFaultOf held (remaining before) (remaining after) (contents old) (contents new) rest

-- The texts are the words; the reader was before and is after, standard output was old and is new, standard error was
-- `silent` and is `returned`, and shows what it has taken. The end is the status, whether standard error took all that it
-- was to take, and what is left of the command's file.
module _ {D I O E : Type 0} {g : Ghosts D} (held : Image) (remaining : I → Option (List ℕ)) (contents : O → Option (List ℕ)) (shows : E → Option (List ℕ)) where
  -- what carrying out a command promises of the status that the program ends with
  pub record LineRan (line : Line) (before after : I) (old new : O) (silent returned : E) (end : RunEnd D g) : Type 0 where
    pub statuses : (end.status ≡ 0) ⊎ ((end.status ≡ 1) ⊎ (end.status ≡ 3))
    -- it is done, or its check or its audit failed or its version isn't permitted; nothing is on standard error
    pub done : end.status ≡ 0
        → CommandEndsOn held remaining contents before after old new end.left line true × (returned ≡ silent)
    pub refused : end.status ≡ 1
        → CommandEndsOn held remaining contents before after old new end.left line false × (returned ≡ silent)
    -- it failed, and standard error says why
    pub fails : end.status ≡ 3 → CommandFailsOn held remaining contents before after old new end.left line
    pub reports : end.status ≡ 3
        → (fault : RunFault) × IsFaultOn held remaining contents before after old new end.left line fault
        × IsReported fault end.line (shows silent) (shows returned)

  -- what running the words promises of it
  pub record Ran (words : List Text) (before after : I) (old new : O) (silent returned : E) (end : RunEnd D g) : Type 0 where
    pub statuses : (end.status ≡ 0) ⊎ ((end.status ≡ 1) ⊎ ((end.status ≡ 2) ⊎ (end.status ≡ 3)))
    -- what the command was to do is done, and standard output has what it writes
    pub done : end.status ≡ 0 → is_line words ≡ true
        → (line : Line) × Says words line
        × CommandEndsOn held remaining contents before after old new end.left line true
    -- the check or the audit failed or the version isn't permitted, and standard output says so
    pub refused : end.status ≡ 1
        → (line : Line) × Says words line
        × CommandEndsOn held remaining contents before after old new end.left line false
    -- in both nothing is on standard error
    pub quiet : end.status ≡ 0 → is_line words ≡ true → returned ≡ silent
    pub quiet_refused : end.status ≡ 1 → returned ≡ silent
    -- 2 is only for words that are no command line
    pub usage : end.status ≡ 2 → is_line words ≢ true
    -- They run nothing: nothing is read. By what clap finds in them, a mistake is reported on standard error and ends
    -- with 2, and help and version, if they are asked for, are shown on standard output and end with 0.
    pub unread : is_line words ≢ true → after ≡ before
    pub returned_of : is_line words ≢ true
        → ReportsOfWords contents shows (IsFoundIn words) old new silent returned end.line end.status
    -- a command that failed has written no more than a beginning of what it would have written
    pub fails : end.status ≡ 3 → is_line words ≡ true
        → ((after ≡ before) × (new ≡ old))
        ⊎ ((line : Line) × Says words line
        × CommandFailsOn held remaining contents before after old new end.left line)
    -- one line on standard error says why: there was no memory for the words, or the command failed for this reason
    pub reason : end.status ≡ 3 → is_line words ≡ true
        → IsReported run_fault.Memory end.line (shows silent) (shows returned)
        ⊎ ((line : Line) × (fault : RunFault) × Says words line
        × IsFaultOn held remaining contents before after old new end.left line fault
        × IsReported fault end.line (shows silent) (shows returned))

-- these words were run over files of a disk, and it ended with this status
abbrev pub RanTo : {D I O E : Type 0} (g : Ghosts D) (held : Image) (remaining : I → Option (List ℕ))
    (contents : O → Option (List ℕ)) (shows : E → Option (List ℕ))
    → List Text → (before after : I) (old new : O) (silent returned : E) → ℕ → Type 0
RanTo {D} g held remaining contents shows words before after old new silent returned status =
    (end : RunEnd D g) × (status ≡ end.status)
    × Ran held remaining contents shows words before after old new silent returned end

-- the status of a process whose words can't be read, for an error of this kind: 2 for a word that isn't UTF-8
abbrev pub IsUnread : ErrorKind → ℕ → Type 0
IsUnread kind status = ((kind ≡ InvalidData) × (status ≡ 2)) ⊎ ((kind ≢ InvalidData) × (status ≡ 3))

-- and what standard error shows of them
abbrev pub unread_text : ErrorKind → List ℕ
unread_text InvalidData = codes "error: a word of the command line isn't UTF-8"
unread_text _ = fault_text run_fault.Memory

-- nothing else is written, and nothing is read
abbrev pub ReportsUnread : {I O E : Type 0} → (E → Option (List ℕ)) → (before after : I) (old new : O) (silent returned : E)
    → ErrorKind → Result (Unit {0}) WriteFault → ℕ → Type 0
ReportsUnread shows before after old new silent returned kind line status =
    (after ≡ before) × (new ≡ old) × IsUnread kind status
    × IsLineOut (unread_text kind) line (shows silent) (shows returned)
