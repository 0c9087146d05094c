-- what replies that are compared with a stored pact lead to, for the clauses of private functions: no public clause
-- cites it
use Rattle.std.specs.Prelude.{◌≡◌, ℕ, List, Some, None, Ok}
use Rattle.broker_core.specs.Text.{Text}
use Rattle.broker_core.specs.State.{State}
use Rattle.broker_core.specs.Change.{Transition, text_of}
use Rattle.broker_core.specs.Machine.{report_replies}
use Rattle.broker_core.specs.declared.command.Report.{Report}
use Rattle.reply_check.specs.Recorded.{Reply}
use Rattle.pact_file.specs.Pact.{Pact}
use Rattle.pact_file.specs.Normal.{Normal}
use Rattle.command_facts.specs.Readings.{Matches}
use Rattle.command_facts.specs.declared.checking.Comparison.{Comparison}
use Rattle.command_facts.specs.declared.checking.Comparison.TheVariants.{Failing, UnknownReply, Pattern, NoPact}
use Rattle.command_facts.specs.Patterns.{RefusesPattern}
use Rattle.contract_commands.specs.Results.{HasPacticipant, CanReceive, reported_version}

-- the result comes in, or the replies are at fault, or a pattern was refused
abbrev pub Leads : State → Text → Report → ℕ → Comparison → Transition → Type 0
Leads s provider r content (Failing places) out =
    out ≡ report_replies s content (reported_version provider r) r.run (Some places)
Leads s provider r content UnknownReply out =
    out ≡ report_replies s content (reported_version provider r) r.run None
Leads s provider r content Pattern out = RefusesPattern s out
Leads s provider r content NoPact out = ⊥

-- the text of the content is compared with the replies, and it leads to this
abbrev pub Checks : State → Text → Report → ℕ → List Reply → Transition → Type 0
Checks s provider r content replies out =
    (text : Text) × (text_of s content ≡ Some text)
    × ((returned : Comparison) × Matches text replies returned × Leads s provider r content returned out)

-- the provider and the content are there, and a pact was read
abbrev pub CanLead : Text → ℕ → Comparison → State → Type 0
CanLead provider content returned s = CanReceive provider content s × (¬ (returned ≡ NoPact))

-- the provider is there, and the content has a text that is read as a pact
abbrev pub CanCheck : Text → ℕ → State → Type 0
CanCheck provider content s = HasPacticipant s provider
    × ((text : Text) × (text_of s content ≡ Some text) × ((p : Pact) × Normal text (Ok p)))
