use Rattle.std.proofs.Common.{◌∙◌}
use Rattle.contract_commands.proofs.ResultLemmas.{says_same-of_row}
use Rattle.contract_commands.proofs.results.says_same.Goals as goal

pub returns-in-Some : goal.returns-in-Some
returns-in-Some c = λ s provider report e row is.
    c.has_outcome.ensures ∙ says_same-of_row s provider report c.args.found c.args.row e row c.in-Some.number (is ∙ c.in-Some.is)
