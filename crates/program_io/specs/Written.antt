-- what the commands on pact files write: one line on standard output (this project's own choice)
use Rattle.std.specs.Prelude.{◌≡◌, ◌⊎◌, ◌+◌, ◌<◌, ◌≤◌, ⊤, ℕ, List, [], ◌∷◌, ◌++◌, length, Bool, true, false, Option, Result, Ok, Err, codes}
use Rattle.std.specs.Prelude.{IfSome, decimal, take}
use Rattle.std.specs.List.{flat_map}
use Rattle.std.specs.Io.KnownBytes.{Appends, Consumes, IsAtEnd}
use Rattle.http_responses.specs.declared.writing.WriteFault.{WriteFault}
use Rattle.pact_file.specs.File.{most_bytes}
use Rattle.pact_file.specs.Normal.{Normal}
use Rattle.pact_file.specs.Pact.{Pact, normal_text}
use Rattle.reply_check.specs.Replies.{RepliesRead}
use Rattle.reply_check.specs.Verdicts.{AreFailing, AreKnown}
use Rattle.reply_check.specs.declared.reply.Reply.{Reply}
use Rattle.program_io.specs.declared.check.FilesRead.{FilesRead}
use Rattle.program_io.specs.declared.check.FilesRead.TheVariants as files

abbrev pub newline : List ℕ
newline = codes "\n"

-- a beginning of the bytes is out, but not the whole
abbrev pub IsBegun : List ℕ → Option (List ℕ) → Option (List ℕ) → Type 0
IsBegun bytes old new = (n : ℕ) × (n < length bytes) × Appends old new (take n bytes)

-- the line is out; or the writer failed, and a beginning of it is
abbrev pub IsLineOut : List ℕ → Result (Unit {0}) WriteFault → Option (List ℕ) → Option (List ℕ) → Type 0
IsLineOut text (Ok u) old new = Appends old new (text ++ newline)
IsLineOut text (Err fault) old new = IsBegun (text ++ newline) old new

-- ---- what is read

-- what a reader gave: all that it had, or one byte more than a pact file may have
abbrev pub IsReadUpTo : (before after : Option (List ℕ)) → List ℕ → Type 0
IsReadUpTo before after file = Consumes before after file × (IsAtEnd after ⊎ (length file ≡ most_bytes + 1))

-- these are the first bytes of what it had, so many at most, if that is known
abbrev pub IsFrontOf : Option (List ℕ) → List ℕ → Type 0
IsFrontOf before file = IfSome before (λ bytes. file ≡ take (most_bytes + 1) bytes)

-- no more than that of the files, and of the replies no more than there may be
abbrev pub AreBounded : FilesRead → Type 0
AreBounded files.Neither = ⊤
AreBounded (files.Pact file) = length file.items ≤ most_bytes + 1
AreBounded (files.Both file recorded) = (length file.items ≤ most_bytes + 1) × (length recorded.items ≤ most_bytes)

-- ---- normalise

-- the file is a pact file, and this its normal text
abbrev pub IsNormalText : List ℕ → List ℕ → Type 0
IsNormalText file text = (pact : Pact) × Normal file (Ok pact) × (text ≡ normal_text pact)

module _ (file : List ℕ) (old new : Option (List ℕ)) where
  abbrev pub ReportsNormalText : Type 0
  ReportsNormalText = (text : List ℕ) × IsNormalText file text × Appends old new (text ++ newline)

  abbrev pub BeginsNormalText : Type 0
  BeginsNormalText = (text : List ℕ) × IsNormalText file text × IsBegun (text ++ newline) old new

module _ (before after old new : Option (List ℕ)) where
  -- of what was read to the end
  abbrev pub Normalises : Type 0
  Normalises = (file : List ℕ) × Consumes before after file × IsAtEnd after × ReportsNormalText file old new

  abbrev pub NormalisesUntil : Type 0
  NormalisesUntil = (file : List ℕ) × Consumes before after file × IsAtEnd after × BeginsNormalText file old new

-- ---- check

-- a place, after a space
abbrev pub place_text : ℕ → List ℕ
place_text place = codes " " ++ decimal place

abbrev pub is_pass : List ℕ → Bool
is_pass [] = true
is_pass (place ∷ places) = false

-- `pass`, or `fail 0 3`
abbrev pub verdict_text : List ℕ → List ℕ
verdict_text [] = codes "pass"
verdict_text (place ∷ places) = codes "fail" ++ flat_map place_text (place ∷ places)

-- these interactions of a pact fail by the replies that a file has
abbrev pub AreFailingBy : Pact → List ℕ → List ℕ → Type 0
AreFailingBy pact recorded places =
    (replies : List Reply) × RepliesRead recorded (Ok replies)
    × AreKnown pact.interactions replies × AreFailing pact.interactions replies places

module _ (pact : Pact) (recorded : List ℕ) (old new : Option (List ℕ)) where
  abbrev pub ReportsVerdict : Bool → Type 0
  ReportsVerdict passes =
      (places : List ℕ) × AreFailingBy pact recorded places × (passes ≡ is_pass places)
      × Appends old new (verdict_text places ++ newline)

  abbrev pub BeginsVerdict : Type 0
  BeginsVerdict =
      (places : List ℕ) × AreFailingBy pact recorded places × IsBegun (verdict_text places ++ newline) old new

module _ (old new : Option (List ℕ)) where
  -- of the two files that were read
  abbrev pub Checks : FilesRead → Bool → Type 0
  Checks (files.Both file recorded) passes =
      (pact : Pact) × Normal file.items (Ok pact) × ReportsVerdict pact recorded.items old new passes
  Checks _ passes = ⊥

  abbrev pub ChecksUntil : FilesRead → Type 0
  ChecksUntil (files.Both file recorded) =
      (pact : Pact) × Normal file.items (Ok pact) × BeginsVerdict pact recorded.items old new
  ChecksUntil _ = ⊥
