-- worked examples of results that name the run of the provider's pipeline
use Rattle.std.{specs.Prelude.{codes, Some, None, []}, proofs.Common.{true, false, refl}}
use Rattle.broker_core.specs.{declared.policy.Caller.TheVariants.{Team}, declared.command.Command.TheVariants.{PostReplies, PostResult}}
use Rattle.broker_core.specs.{declared.command.Report.{Report}, declared.answer.Answer.TheVariants.{Done, Already, Taken}}
use Rattle.broker_core.specs.{declared.answer.Detail.TheVariants.{Result}, declared.answer.Clash.TheVariants.{Run}, Text.{Text, version}}
use Rattle.broker_core.specs.{State.{State, claimed_result}, Change.{report}}
use Rattle.broker_core.proofs.Fixture.{blue_token-not_office, stock, Answers, blue_token, blue, one, two, first_file, path_of, published, claims}

abbrev pub run : Text
run = codes "ci-7"

abbrev pub by_run : Text → Report
by_run provider_version = record { provider_version = provider_version; run = Some run }

abbrev pub with_run : State
with_run = (report published (claimed_result 1 (version stock one) true (Some run)) Result).state

PostResult-numbered : Answers published blue_token (PostResult (path_of one) (by_run one) true) (Done (Result 1))
PostResult-numbered = (_, (Some (Team blue), (blue_token-not_office, refl), (None, refl, (1, refl, refl))), refl)

PostResult-run_counts_once : Answers with_run blue_token (PostResult (path_of one) (by_run one) true) (Already (Result 1))
PostResult-run_counts_once = (_, (Some (Team blue), (blue_token-not_office, refl), (None, refl, (1, refl, refl))), refl)

PostResult-other_outcome_taken : Answers with_run blue_token (PostResult (path_of one) (by_run one) false) (Taken Run)
PostResult-other_outcome_taken = (_, (Some (Team blue), (blue_token-not_office, refl), (None, refl, (1, refl, refl))), refl)

PostResult-other_version_taken : Answers with_run blue_token (PostResult (path_of one) (by_run two) true) (Taken Run)
PostResult-other_version_taken = (_, (Some (Team blue), (blue_token-not_office, refl), (None, refl, (1, refl, refl))), refl)

PostReplies-other_evidence_taken : Answers with_run blue_token (PostReplies (path_of one) (by_run one) (codes "{}")) (Taken Run)
PostReplies-other_evidence_taken = (_, (Some (Team blue), (blue_token-not_office, refl), (None, refl, (1, refl, (first_file, refl, (Some [], refl, refl))))), refl)

PostResult-without_run_counts : Answers (claims published one true) blue_token (PostResult (path_of one) (record { provider_version = one; run = None }) true) (Done (Result 2))
PostResult-without_run_counts = (_, (Some (Team blue), (blue_token-not_office, refl), (None, refl, (1, refl, refl))), refl)
