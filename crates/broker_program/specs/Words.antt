-- what is reported of words that are no command line: clap's text, on one stream or the other (this project's own
-- choice)
use Rattle.std.specs.Prelude.{◌≡◌, ◌⊎◌, ℕ, List, ◌++◌, Option, Result}
use Rattle.std.specs.Io.KnownBytes.{Appends}
use Rattle.clap.specs.declared.error.kind.ErrorKind.{ErrorKind}
use Rattle.command_line.specs.Lines.{AsksForText, IsMistaken}
use Rattle.http_responses.specs.declared.writing.WriteFault.{WriteFault}
use Rattle.program_io.specs.Reported.{IsReported}
use Rattle.program_io.specs.Written.{IsLineOut, newline}
use Rattle.program_io.specs.declared.fault.RunFault.TheVariants as run_fault

-- Standard output was old and is new, standard error was `silent` and is `returned`, and they show what they have taken.
-- Line is whether standard error took all that it was to take.
module _ {O E : Type 0} (contents : O → Option (List ℕ)) (shows : E → Option (List ℕ)) where
  module _ (old new : O) (silent returned : E) (line : Result (Unit {0}) WriteFault) (status : ℕ) where
    -- a text is on standard error, and nothing on standard output; which text it is, no contract of clap says
    abbrev pub ReportsMistake : Type 0
    ReportsMistake =
        (status ≡ 2) × (new ≡ old) × (text : List ℕ) × IsLineOut text line (shows silent) (shows returned)

    -- a text is on standard output, and nothing on standard error
    abbrev pub ShowsText : Type 0
    ShowsText =
        (status ≡ 0) × (returned ≡ silent) × (text : List ℕ) × Appends (contents old) (contents new) (text ++ newline)

    -- standard output didn't take it
    abbrev pub LosesText : Type 0
    LosesText = (status ≡ 3) × IsReported run_fault.File line (shows silent) (shows returned)

    abbrev pub ReportsText : Type 0
    ReportsText = ShowsText ⊎ LosesText

    -- there was no memory for a text
    abbrev pub LacksMemory : Type 0
    LacksMemory =
        (status ≡ 3) × (new ≡ old) × IsReported run_fault.Memory line (shows silent) (shows returned)

  -- Of words in which clap finds these kinds. If one is a mistake, it is reported; if one is a request for the help or
  -- for the version, that is shown; and memory may be lacking for either.
  abbrev pub ReportsOfWords : (ErrorKind → Type 0) → (old new : O) (silent returned : E)
      → Result (Unit {0}) WriteFault → ℕ → Type 0
  ReportsOfWords Has old new silent returned line status =
      (IsMistaken Has × ReportsMistake old new silent returned line status)
      ⊎ ((AsksForText Has × ReportsText old new silent returned line status)
      ⊎ LacksMemory old new silent returned line status)
