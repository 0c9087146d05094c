-- what standard error shows of a command that failed, and why a command on pact files does (this project's own choice)
use Rattle.std.specs.Prelude.{◌≡◌, ◌≢◌, ◌⊎◌, ◌↔◌, ⊤, ℕ, List, Option, Result, Ok, Err}
use Rattle.std.specs.declared.io.ErrorKind.{ErrorKind}
use Rattle.std.specs.declared.io.ErrorKind.TheVariants.{OutOfMemory}
use Rattle.broker_names.specs.Name.{IsName, IsToken}
use Rattle.broker_core.specs.Text.{Text}
use Rattle.http_responses.specs.declared.writing.WriteFault.{WriteFault}
use Rattle.pact_file.specs.Normal.{Normal}
use Rattle.pact_file.specs.Pact.{Interaction, Pact}
use Rattle.pact_file.specs.declared.fault.PactFault.TheVariants as pact_fault
use Rattle.reply_check.specs.Replies.{RepliesRead}
use Rattle.reply_check.specs.Verdicts.{AreKnown, IsFirstUnknown, UsesPattern}
use Rattle.reply_check.specs.declared.fault.CheckFault.{CheckFault}
use Rattle.reply_check.specs.declared.fault.CheckFault.TheVariants as check_fault
use Rattle.reply_check.specs.declared.fault.RepliesFault.TheVariants as replies_fault
use Rattle.reply_check.specs.declared.reply.Reply.{Reply}
use Rattle.program_io.specs.Faults.{fault_text}
use Rattle.program_io.specs.Written.{IsLineOut, IsReadUpTo}
use Rattle.program_io.specs.declared.check.FilesRead.{FilesRead}
use Rattle.program_io.specs.declared.check.FilesRead.TheVariants as files
use Rattle.program_io.specs.declared.fault.RunFault.{RunFault}
use Rattle.program_io.specs.declared.fault.RunFault.TheVariants as run_fault

-- ---- what is shown

-- the line of the fault is out, or a beginning of it, as the writer failed
abbrev pub IsReported : RunFault → Result (Unit {0}) WriteFault → Option (List ℕ) → Option (List ℕ) → Type 0
IsReported f line old new = IsLineOut (fault_text f) line old new

-- ---- why it is reported

-- a file or a stream failed, or there was no memory
abbrev pub IsFromOutside : RunFault → Type 0
IsFromOutside run_fault.File = ⊤
IsFromOutside run_fault.Memory = ⊤
IsFromOutside _ = ⊥

-- the text isn't a token; or it is one, and there was no memory for it
abbrev pub IsTokenFault : Text → RunFault → Type 0
IsTokenFault text f =
    (f ≡ run_fault.Token ↔ (¬ (IsToken text))) × ((f ≡ run_fault.Token) ⊎ (f ≡ run_fault.Memory))

-- the text isn't a name; or there was no memory for it
abbrev pub IsNoName : Text → RunFault → Type 0
IsNoName text f = ((f ≡ run_fault.Name) × (¬ (IsName text))) ⊎ (f ≡ run_fault.Memory)

-- the first fault of a pact file
abbrev pub IsPactFault : List ℕ → RunFault → Type 0
IsPactFault file (run_fault.Pact f) = f ≢ pact_fault.Memory → Normal file (Err f)
IsPactFault file _ = ⊥

-- a pact and replies can't be compared
abbrev pub IsComparisonFault : List Interaction → List Reply → CheckFault → Type 0
IsComparisonFault interactions replies (check_fault.UnknownInteraction i) = IsFirstUnknown interactions replies i
IsComparisonFault interactions replies check_fault.Pattern =
    AreKnown interactions replies × UsesPattern interactions replies
IsComparisonFault interactions replies check_fault.Memory = ⊤

-- the first fault of a file of replies, or of its comparison with the pact
abbrev pub IsRepliesFault : Pact → List ℕ → RunFault → Type 0
IsRepliesFault pact recorded (run_fault.Replies f) = f ≢ replies_fault.Memory → RepliesRead recorded (Err f)
IsRepliesFault pact recorded (run_fault.Check f) =
    (replies : List Reply) × RepliesRead recorded (Ok replies) × IsComparisonFault pact.interactions replies f
IsRepliesFault pact recorded _ = ⊥

-- the fault of `normalise`, by what was read
abbrev pub FailsToNormalise : Option (List ℕ) → Option (List ℕ) → RunFault → Type 0
FailsToNormalise before after f =
    IsFromOutside f ⊎ ((file : List ℕ) × IsReadUpTo before after file × IsPactFault file f)

-- The fault of `check`, by what was read: the pact file couldn't be; or it has a fault, or the other couldn't be; or
-- the other has one, or what was to be written couldn't be.
abbrev pub FailsToCheck : FilesRead → RunFault → Type 0
FailsToCheck files.Neither f = IsFromOutside f
FailsToCheck (files.Pact file) f = IsPactFault file.items f ⊎ ((pact : Pact) × Normal file.items (Ok pact) × IsFromOutside f)
FailsToCheck (files.Both file recorded) f =
    (pact : Pact) × Normal file.items (Ok pact) × (IsFromOutside f ⊎ IsRepliesFault pact recorded.items f)

-- the fault of a file that couldn't be read: Memory if and only if reading it ran out of memory, else File
abbrev pub IsReadFault : ErrorKind → RunFault → Type 0
IsReadFault kind f = ((kind ≡ OutOfMemory) × (f ≡ run_fault.Memory)) ⊎ ((kind ≢ OutOfMemory) × (f ≡ run_fault.File))
