use Rattle.std.proofs.Common.{subst}
use Rattle.command_facts.{specs.{Readings.{Matches}, Performs.{IsToChange}}, proofs.PerformLemmas.{PerformsWhereBetween-query_then}}
use Rattle.contract_commands.{specs.Checks.{Leads, Checks, CanLead, CanCheck}, proofs.CheckLemmas.{Matches-not_NoPact}}
use Rattle.broker_tables.proofs.FailLemmas.{FailsFromBetween-after_query}
use Rattle.contract_commands.proofs.replies.check_content.Goals as goal

pub returns-in-Ok-compare-clause-answers : goal.returns-in-Ok-compare-clause-answers
returns-in-Ok-compare-clause-answers g c =
    let text = c.in-Ok.value in
    let returned = c.in-Ok-compare.returned in
    let reports = subst (λ t. Matches t c.args.replies.now returned) c.as_str.ensures c.in-Ok-compare.ensures in
    PerformsWhereBetween-query_then _ _ _ text c.answer_compared.result _ _ _ _ (λ s out. Checks s c.args.provider.now c.args.report.now c.args.content c.args.replies.now out)
    (λ s has stored. (has, λ out leads. (text, stored, (returned, reports, leads))))
    c.in-Ok.ensures.answers c.answer_compared.ensures.answers

pub returns-in-Ok-compare-clause-failure : goal.returns-in-Ok-compare-clause-failure
returns-in-Ok-compare-clause-failure g c =
    let provider = c.args.provider.now in
    let r = c.args.report.now in
    let content = c.args.content in
    let replies = c.args.replies.now in
    let text = c.in-Ok.value in
    let returned = c.in-Ok-compare.returned in
    let reports = subst (λ t. Matches t replies returned) c.as_str.ensures c.in-Ok-compare.ensures in
    FailsFromBetween-after_query _ _ _ _ text c.answer_compared.result _ _ (CanCheck provider content) (CanLead provider content returned)
    (IsToChange (λ s out. Checks s provider r content replies out)) (IsToChange (λ s out. Leads s provider r content returned out))
    (λ s held can stored. (((can.0, (text, stored)), Matches-not_NoPact s content text replies returned stored can.1 reports), λ made. (made.0, made.1, (text, stored, (returned, reports, made.2)))))
    c.in-Ok.ensures.answers c.answer_compared.ensures.answers c.answer_compared.ensures.failure
