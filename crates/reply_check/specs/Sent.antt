-- For private clauses: the expected headers among those that were sent.
use Rattle.std.specs.Prelude.{◌≡◌, List}
use Rattle.std.specs.List.{AllByRecursion}
use Rattle.pact_rules.specs.Rules.{Rules}
use Rattle.pact_file.specs.Pact.{Header}
use Rattle.pact_rules.specs.Lists.{OneOf}
use Rattle.reply_check.specs.Meeting.{FitsHeader}

-- of the same name, with a value that fits
abbrev pub IsFit : Rules → Header → Header → Type 0
IsFit rules h g = (g.name ≡ h.name) × FitsHeader rules h g.value

abbrev pub WasSent : Rules → List Header → Header → Type 0
WasSent rules sent h = OneOf (λ g. IsFit rules h g) sent

abbrev pub WereSent : Rules → List Header → List Header → Type 0
WereSent rules sent expected = AllByRecursion (λ h. WasSent rules sent h) expected
