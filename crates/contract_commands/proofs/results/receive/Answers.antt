use Rattle.std.{specs.Prelude.{option_map}, proofs.Common.{false, ◌≡◌, ℕ, Ok, Option, is_some}}
use Rattle.sqlite.specs.State.{State as Connection}
use Rattle.broker_core.specs.{State.{State}, Text.{Text, version}, Change.{result_of_run}, Request.{is_known}, declared.command.Report.{Report}}
use Rattle.broker_tables.{specs.{Failures.{LooksUpBetween}, Numbers.{number_of}}, proofs.QueryLemmas.{LooksUpBetween-then}}
use Rattle.broker_tables.proofs.FailLemmas.{FailsFromBetween-after_query}
use Rattle.contract_tables.specs.{Verified.{returned_of}, declared.lookups.ResultRow.{ResultRow}}
use Rattle.contract_commands.specs.{Pacts.{HasContent}, Results.{CanReceive, IsToReport, IsUnused, reported_version, IsNumbered, returned_row}}
use Rattle.contract_commands.proofs.ResultLemmas.{IsRowOf-of_some, returned_row-none, IsNumbered-of_names, AnswersTakingBetween-query, AnswersTakingBetween-query_then}
use Rattle.contract_commands.proofs.results.receive.Goals as goal

-- what the two queries find: the number of the version, and the result of the run
abbrev IsFound : Text → Report → Option ℕ → Option ResultRow → State → Type 0
IsFound provider report number row s =
    IsNumbered s (reported_version provider report) number × (option_map returned_row row ≡ option_map (returned_of s.versions) (result_of_run s provider report.run))

found_both : (old mid new : Connection) (provider : Text) (report : Report) (p name : Text) (number : Option ℕ) (row : Option ResultRow) → p ≡ provider → name ≡ report.provider_version
    → LooksUpBetween false old mid (Ok number) (λ n s. (n ≡ number_of s.versions (version p name)) × (is_some n ≡ is_known s (version p name)))
    → LooksUpBetween false mid new (Ok row) (λ found s. option_map returned_row found ≡ option_map (returned_of s.versions) (result_of_run s provider report.run)) → LooksUpBetween false old new (Ok row) (IsFound provider report number)
found_both old mid new provider report p name number row is called =
    LooksUpBetween-then old mid new number (Ok row) _ _ (IsFound provider report number) (λ s known found used. (IsNumbered-of_names s provider report p name number is called known, used))

pub returns-in-Some-clause-answers : goal.returns-in-Some-clause-answers
returns-in-Some-clause-answers g c =
    let provider = c.args.provider.now in
    let report = c.args.report.now in
    let number = c.in-Ok.value in
    let found = c.in-Ok-read_run.value in
    AnswersTakingBetween-query _ _ found c.answer_again.result (IsFound provider report number) _ _
    (λ s has first. let used = IsRowOf-of_some s (result_of_run s provider report.run) found c.in-Some.row c.in-Some.is first.1 in c.answer_again.ensures s provider report used.0 used.2 first.0.number_is used.1)
    (found_both _ _ _ provider report _ _ number found c.as_str.ensures c.as_str-2.ensures c.in-Ok.ensures c.in-Ok-read_run.ensures)

pub returns-in-None-clause-answers : goal.returns-in-None-clause-answers
returns-in-None-clause-answers g c =
    let provider = c.args.provider.now in
    let report = c.args.report.now in
    let number = c.in-Ok.value in
    let found = c.in-Ok-read_run.value in
    AnswersTakingBetween-query_then _ _ _ found c.receive_new.result (IsFound provider report number) _ _ _ _
    (λ s has first. (record { version = first.0; owned = has; unused = returned_row-none s (result_of_run s provider report.run) found c.in-None.is first.1 }, λ b t made. made))
    (found_both _ _ _ provider report _ _ number found c.as_str.ensures c.as_str-2.ensures c.in-Ok.ensures c.in-Ok-read_run.ensures)
    c.receive_new.ensures.answers

pub returns-in-None-clause-failure : goal.returns-in-None-clause-failure
returns-in-None-clause-failure g c =
    let provider = c.args.provider.now in
    let report = c.args.report.now in
    let number = c.in-Ok.value in
    let found = c.in-Ok-read_run.value in
    let to = IsToReport provider report c.args.found in
    FailsFromBetween-after_query _ _ _ _ found c.receive_new.result (IsFound provider report number) _ (CanReceive provider c.args.found.content) (λ s. IsUnused s provider report number × HasContent s c.args.found.content) to to
    (λ s held can first. ((record { version = first.0; owned = can.0; unused = returned_row-none s (result_of_run s provider report.run) found c.in-None.is first.1 }, can.1), λ made. made))
    (found_both _ _ _ provider report _ _ number found c.as_str.ensures c.as_str-2.ensures c.in-Ok.ensures c.in-Ok-read_run.ensures).call
    c.receive_new.ensures.answers c.receive_new.ensures.failure
