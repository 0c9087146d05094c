-- why a command over a broker failed (this project's own choice)
use Rattle.std.specs.Prelude.{◌≡◌, ◌⊎◌, ⊤, ℕ, List, Option, None, Some, IsSome, Ok, Err}
use Rattle.sqlite_disk.specs.declared.Disk.{Ghosts}
use Rattle.sqlite.specs.FileStore.{view}
use Rattle.sqlite.specs.Recovery.{Image}
use Rattle.sqlite.specs.View.{IsClean}
use Rattle.table_access.specs.declared.StoreFault.{StoreFault}
use Rattle.table_audit.specs.declared.auditing.Finding.{Finding}
use Rattle.broker_names.specs.Name.{IsName, IsToken}
use Rattle.broker_core.specs.Text.{Text}
use Rattle.broker_core.specs.declared.answer.Answer.{Answer}
use Rattle.broker_database.specs.declared.opening.OpenFault.TheVariants as opening
use Rattle.command_line.specs.declared.line.Line.{Line}
use Rattle.command_line.specs.declared.line.Line.TheVariants.{Audit, CanIDeploy, Check, Init, Migrate, Normalise}
use Rattle.command_line.specs.declared.line.Line.TheVariants.{Replay, Serve}
use Rattle.program_io.specs.Listening.{ListensOn}
use Rattle.program_io.specs.Reported.{FailsToCheck, FailsToNormalise, IsFromOutside, IsNoName, IsTokenFault}
use Rattle.program_io.specs.declared.fault.RunFault.{RunFault}
use Rattle.program_io.specs.declared.fault.RunFault.TheVariants as run_fault
use Rattle.broker_program.specs.Audits.{LeavesAudited, audit_fault}
use Rattle.broker_program.specs.Cuts.{CutsFile}
use Rattle.broker_program.specs.Files.{LeavesCut, LeavesRead, LeavesStore}
use Rattle.broker_program.specs.Making.{MakesOn, MigratesOn}
use Rattle.broker_program.specs.FileRefusals.{EndsUnclosed, FailsToConnect, IsLeftUnserved, IsOfDatabase}
use Rattle.broker_program.specs.FileRefusals.{MakesNone, MigratesNone, OpensNone}
use Rattle.broker_program.specs.Replays.{ReplaysUpTo}
use Rattle.broker_program.specs.Returned.{AnswersQuestion, permission, question}
use Rattle.broker_program.specs.declared.can_i_deploy.Question.{Question}
use Rattle.broker_program.specs.declared.run_end.FileAfter.{FileAfter}
use Rattle.broker_program.specs.declared.run_end.FileAfter.TheVariants.{Nothing}

-- a new broker over tables in memory wasn't made: memory lacked, or the database failed
abbrev pub IsUnmade : RunFault → Type 0
IsUnmade run_fault.Memory = ⊤
IsUnmade (run_fault.Open opening.Memory) = ⊤
IsUnmade (run_fault.Open opening.Store) = ⊤
IsUnmade _ = ⊥

-- the fault of `replay`, by what it was asked and what it did
module _ (office : Text) (before after old new : Option (List ℕ)) where
  -- some messages were answered before it
  abbrev pub CutsReplay : RunFault → Type 0
  CutsReplay (run_fault.Serve f) = ReplaysUpTo office before after old new f
  CutsReplay _ = ⊥

  -- no broker was made, and nothing was read or written; or some messages were answered
  abbrev pub EndsReplay : RunFault → Type 0
  EndsReplay f =
      IsTokenFault office f
      ⊎ (IsToken office × ((IsUnmade f × (after ≡ before) × (new ≡ old)) ⊎ CutsReplay f))

-- ---- the fault of a command over a broker's file

-- the three names of a question are names
abbrev pub AsksByNames : Question → Type 0
AsksByNames question = IsName question.pacticipant.now × IsName question.version.now × IsName question.environment.now

-- the text of one of its names isn't a name; or there was no memory for it
abbrev pub IsNameFault : Question → RunFault → Type 0
IsNameFault question f =
    IsNoName question.pacticipant.now f
    ⊎ (IsNoName question.version.now f ⊎ IsNoName question.environment.now f)

-- one of the texts isn't what it should be, the token before the names; or there was no memory for them
abbrev pub IsQuestionFault : Question → RunFault → Type 0
IsQuestionFault question f =
    IsTokenFault question.token.now f ⊎ (IsToken question.token.now × IsNameFault question f)

-- the broker's answer says nothing of a permission, and is the fault; or it does, and couldn't be written
abbrev pub IsAnswerFault : Answer → RunFault → Type 0
IsAnswerFault answer f =
    ((permission answer ≡ None) × (f ≡ run_fault.Answer answer)) ⊎ (IsSome (permission answer) × IsFromOutside f)

-- Held is what the log and the database file held at first, and rest what the command left of them. Nothing says why a
-- path isn't there or can't be taken.
module _ {D : Type 0} {g : Ghosts D} (held : Image) where
  -- no broker is opened there: the fault is what the database there is found to be
  abbrev pub FailsToOpen : RunFault → FileAfter D g → Type 0
  FailsToOpen f rest = FailsToConnect held f rest ⊎ IsOfDatabase held OpensNone f rest

  -- none is made there whose office has this token; or one is, and the file couldn't be closed
  abbrev pub FailsToMakeIn : Text → RunFault → FileAfter D g → Type 0
  FailsToMakeIn office f rest =
      FailsToConnect held f rest
      ⊎ (IsOfDatabase held (MakesNone office) f rest ⊎ EndsUnclosed held (MakesOn office) f rest)

  -- the fault of `init`: the token is looked at first
  abbrev pub FailsToMake : Text → RunFault → FileAfter D g → Type 0
  FailsToMake office f rest = IsTokenFault office f ⊎ (IsToken office × FailsToMakeIn office f rest)

  -- the fault of `migrate`: the database isn't migrated; or it is, and the file couldn't be closed
  abbrev pub FailsToMigrate : RunFault → FileAfter D g → Type 0
  FailsToMigrate f rest =
      FailsToConnect held f rest ⊎ (IsOfDatabase held MigratesNone f rest ⊎ EndsUnclosed held MigratesOn f rest)

  -- the fault of `audit`: the file isn't opened, the store failed as its tables were read, or the line couldn't be written
  abbrev pub FailsToReadTables : RunFault → FileAfter D g → Type 0
  FailsToReadTables f rest =
      FailsToOpen f rest ⊎ ((fault : StoreFault) × LeavesAudited held rest (Err fault) × (f ≡ audit_fault fault))

  abbrev pub FailsToAudit : RunFault → FileAfter D g → Type 0
  FailsToAudit f rest =
      FailsToReadTables f rest ⊎ ((finding : Finding) × LeavesAudited held rest (Ok (Some finding)) × IsFromOutside f)

  -- The fault of `can-i-deploy`: its texts are looked at first, then the file is opened, and the broker there asked.
  abbrev pub FailsToAnswer : Question → RunFault → FileAfter D g → Type 0
  FailsToAnswer question f rest =
      IsQuestionFault question f ⊎ (IsToken question.token.now × AsksByNames question × FailsToOpen f rest)

  abbrev pub FailsToAsk : Question → RunFault → FileAfter D g → Type 0
  FailsToAsk question f rest =
      FailsToAnswer question f rest
      ⊎ ((answer : Answer) × LeavesStore (AnswersQuestion held question answer) rest × IsAnswerFault answer f)

  -- the address isn't listened on, and the broker there was opened first; no contract says why an address of loopback
  -- isn't listened on
  abbrev pub FailsToListen : RunFault → FileAfter D g → Type 0
  FailsToListen run_fault.Listen rest = LeavesStore (λ store. IsClean (view store) → IsLeftUnserved held store) rest
  FailsToListen _ rest = ⊥

  -- there was no memory for the table of routes, and no file was worked on
  abbrev pub LacksRoutes : RunFault → FileAfter D g → Type 0
  LacksRoutes run_fault.Memory Nothing = ⊤
  LacksRoutes _ _ = ⊥

  -- The fault of `serve`: the table of routes is made first. Then the file is opened, the address is listened on, and so
  -- many connections are served.
  abbrev pub FailsToServe : Text → ℕ → RunFault → FileAfter D g → Type 0
  FailsToServe listen connections f rest =
      FailsToOpen f rest ⊎ FailsToListen f rest
      ⊎ (ListensOn listen × LeavesCut (CutsFile held connections f) rest) ⊎ LacksRoutes f rest

-- The fault of a command has its reason.
module _ {D : Type 0} {g : Ghosts D} (held : Image) (before after old new : Option (List ℕ)) (rest : FileAfter D g) where
  abbrev pub IsFaultOf : Line → RunFault → Type 0
  IsFaultOf (Replay token) f = EndsReplay token.now before after old new f
  IsFaultOf Normalise f = FailsToNormalise before after f
  IsFaultOf (Check pact replies) f = LeavesRead (λ read. FailsToCheck read f) rest
  IsFaultOf (Init file token) f = FailsToMake held token.now f rest
  IsFaultOf (Migrate file) f = FailsToMigrate held f rest
  IsFaultOf (Audit file) f = FailsToAudit held f rest
  IsFaultOf (Serve file listen connections) f = FailsToServe held listen.now connections f rest
  IsFaultOf (CanIDeploy file token pacticipant version environment) f =
      FailsToAsk held (question token pacticipant version environment) f rest
