-- What the machine takes from pact files and from recorded replies: how a file is read (Pact Specification, version
-- 3), whether replies are well formed, and which interactions fail by them (this project's own choice)
use Rattle.std.specs.Prelude.{◌≡◌, ◌⊎◌, ℕ, Bool, false, nat_eq, List, Option, Some, None, Result, Ok, Err, codes}
use Rattle.std.specs.List.{starts_with}
use Rattle.pact_file.specs.Normal.{Normal}
use Rattle.pact_file.specs.Pact.{Interaction, Pact, normal_text}
use Rattle.pact_file.specs.Words.{number_text}
use Rattle.pact_rules.specs.declared.rule_fault.RuleFault.TheVariants as rule_fault
use Rattle.pact_file.specs.declared.fault.PactFault.{PactFault}
use Rattle.pact_file.specs.declared.fault.PactFault.TheVariants.{Rules}
use Rattle.pact_rules.specs.Lists.{OneOf}
use Rattle.reply_check.specs.Meeting.{HasPattern as InteractionHasPattern}
use Rattle.reply_check.specs.Recorded.{Reply}
use Rattle.reply_check.specs.Replies.{RepliesRead}
use Rattle.reply_check.specs.Verdicts.{AreKnown, AreFailing, UsesPattern}
use Rattle.reply_check.specs.Words.{number_text as replies_number}
use Rattle.reply_check.specs.declared.fault.RepliesFault.{RepliesFault}
use Rattle.command_facts.specs.declared.checking.Comparison.{Comparison}
use Rattle.command_facts.specs.declared.checking.Comparison.TheVariants.{Failing, UnknownReply, Pattern, NoPact}
use Rattle.broker_core.specs.Text.{Text}
use Rattle.broker_core.specs.Machine.{Reading}
use Rattle.broker_core.specs.Machine.Reading.{IsPact, IsRefused}
use Rattle.broker_core.specs.declared.command.FormFault.{FormFault}
use Rattle.broker_core.specs.declared.command.FormFault.TheVariants as fault

-- ---- a pact file

-- a normal pact with its two names and its text, or the fault with its number and its place
abbrev pub reading_of : Result Pact PactFault → Reading
reading_of (Ok p) = IsPact p.consumer p.provider (normal_text p)
reading_of (Err found) = IsRefused (fault.Pact (number_text found))

-- the file is read so
abbrev pub Reads : Text → Reading → Type 0
Reads file reading = (answer : Result Pact PactFault) × Normal file answer × (reading ≡ reading_of answer)

-- the fault says that a pattern of a pact file was refused
abbrev pub is_refusal : FormFault → Bool
is_refusal (fault.Pact place) = starts_with nat_eq place (codes "7.7 ")
is_refusal _ = false

-- ---- recorded replies

-- none, or the fault with its number and its place
abbrev pub replies_fault : Result (List Reply) RepliesFault → Option FormFault
replies_fault (Ok replies) = None
replies_fault (Err found) = Some (fault.Replies (replies_number found))

-- whether the bytes are well formed replies: the fault, or none
abbrev pub ReadsReplies : Text → Option FormFault → Type 0
ReadsReplies body found =
    (answer : Result (List Reply) RepliesFault) × RepliesRead body answer × (found ≡ replies_fault answer)

-- the places of the failing interactions; none if a reply belongs to no interaction
abbrev pub Compares : List Interaction → List Reply → Option (List ℕ) → Type 0
Compares interactions replies None = ¬ (AreKnown interactions replies)
Compares interactions replies (Some places) = AreKnown interactions replies × AreFailing interactions replies places

-- of the pact that the normal text is read as
abbrev pub Compared : Text → List Reply → Option (List ℕ) → Type 0
Compared text replies failing = (p : Pact) × Normal text (Ok p) × Compares p.interactions replies failing

-- and of the replies that the bytes are read as
abbrev pub Fails : Text → Text → Option (List ℕ) → Type 0
Fails text body failing =
    (replies : List Reply) × RepliesRead body (Ok replies) × Compared text replies failing

-- ---- what may keep a stored pact from being compared

-- the text can't be read as a pact
abbrev pub IsNoPact : Text → Type 0
IsNoPact text = (p : Pact) → ¬ (Normal text (Ok p))

-- the fault says that a pattern was refused as a file was read
abbrev pub ReportsRefusal : PactFault → Type 0
ReportsRefusal found = (i : ℕ) × (found ≡ Rules i rule_fault.Pattern)

-- if the text is read as a pact, it has a pattern
abbrev pub HasPatternIfPact : Text → Type 0
HasPatternIfPact text = (p : Pact) → Normal text (Ok p) → OneOf InteractionHasPattern p.interactions

-- a pattern is refused as the text is read
abbrev pub IsReadToRefusal : Text → Type 0
IsReadToRefusal text = (found : PactFault) × ReportsRefusal found × Normal text (Err found)

-- the text is read as a pact that knows each reply, and an interaction that has one has a pattern
abbrev pub IsComparedByPattern : Text → List Reply → Type 0
IsComparedByPattern text replies = (p : Pact) × Normal text (Ok p)
    × (AreKnown p.interactions replies × UsesPattern p.interactions replies)

-- a pattern of the text, or of an interaction that has a reply, is needed: not if the text is no pact for another
-- fault, nor if a reply belongs to no interaction
abbrev pub IsPatternAsked : Text → List Reply → Type 0
IsPatternAsked text replies = IsReadToRefusal text ⊎ IsComparedByPattern text replies

-- what the comparison of a stored pact with replies says
abbrev pub Matches : Text → List Reply → Comparison → Type 0
Matches text replies (Failing places) = Compared text replies (Some places)
Matches text replies UnknownReply = Compared text replies None
Matches text replies Pattern = HasPatternIfPact text × IsPatternAsked text replies
Matches text replies NoPact = IsNoPact text
