-- worked examples of what is listed and taken out, and of the matrix
use Rattle.std.{specs.Prelude.{codes, Option, Some, None, ◌∷◌, []}, proofs.Common.{ℕ, Bool, true, false, refl}}
use Rattle.broker_core.specs.{declared.policy.Caller.TheVariants.{Team}, declared.command.Command.TheVariants.{Undeploy, EndSupport, GetEnvironment, GetMatrix}}
use Rattle.broker_core.specs.{declared.answer.Answer.TheVariants.{Done, Shown, Unknown}, declared.answer.Detail.TheVariants.{Plain}}
use Rattle.broker_core.{specs.{declared.answer.Verified.{Verified}, Text.{Text, version}, Change.{end_support}}, proofs.Judgement.{Rows, row_keys}}
use Rattle.broker_core.proofs.{Listings.{deployed_items-listed, released_items-listed}, Matrix.{row, matrix_rows-listed}}
use Rattle.broker_core.proofs.Fixture.{blue_token-not_office, red_token-not_office, shop, stock, Answers, red_token, blue_token, red, blue, live, one, two, gated, published, pact_rows}
use Rattle.broker_core.proofs.GateExamples.{both_present, present_rows, two_instances, instance_rows, passed_again, stock_rows, both_passed}
use Rattle.broker_core.specs.declared.answer.Shown.TheVariants as shown
use Rattle.broker_core.specs.declared.answer.Missing.TheVariants as missing

GetEnvironment-lists_all : Answers both_present blue_token (GetEnvironment live) (Shown (shown.Environment live gated
    (record { pacticipant = shop; instance = []; version = two } ∷ record { pacticipant = stock; instance = []; version = one } ∷ []) (version shop one ∷ [])))
GetEnvironment-lists_all = (_, (Some (Team blue), (blue_token-not_office, refl), (None, refl, (gated, refl, (_, deployed_items-listed both_present (row_keys both_present present_rows) live, (_, released_items-listed both_present (row_keys both_present present_rows) live, refl))))), refl)

GetEnvironment-instances_in_order : Answers two_instances red_token (GetEnvironment live) (Shown (shown.Environment live gated
    (record { pacticipant = stock; instance = codes "a"; version = one } ∷ record { pacticipant = stock; instance = codes "b"; version = two } ∷ []) []))
GetEnvironment-instances_in_order = (_, (Some (Team red), (red_token-not_office, refl), (None, refl, (gated, refl, (_, deployed_items-listed two_instances (row_keys two_instances instance_rows) live, (_, released_items-listed two_instances (row_keys two_instances instance_rows) live, refl))))), refl)

Undeploy-other_instance : Answers two_instances blue_token (Undeploy live (version stock two) (Some (codes "a"))) (Unknown missing.Deployed)
Undeploy-other_instance = (_, (Some (Team blue), (blue_token-not_office, refl), (None, refl, refl)), refl)

Undeploy-deployed : Answers two_instances blue_token (Undeploy live (version stock two) (Some (codes "b"))) (Done Plain)
Undeploy-deployed = (_, (Some (Team blue), (blue_token-not_office, refl), (None, refl, refl)), refl)

EndSupport-ends_once : Answers (end_support both_present live (version shop one)).state red_token (EndSupport live (version shop one)) (Unknown missing.Released)
EndSupport-ends_once = (_, (Some (Team red), (red_token-not_office, refl), (None, refl, refl)), refl)

abbrev pub verified_as : Text → ℕ → Bool → Option Verified
verified_as provider_version number pass = Some (record { provider_version = provider_version; result = number; latest = record { pass = pass; checked = false } })

GetMatrix-without_results : Answers published red_token (GetMatrix (version shop one)) (Shown (shown.Matrix (row (version shop one) stock None ∷ [])))
GetMatrix-without_results = (_, (Some (Team red), (red_token-not_office, refl), (None, refl, (_, matrix_rows-listed published (row_keys published pact_rows) (version shop one), refl))), refl)

GetMatrix-latest_result : Answers passed_again red_token (GetMatrix (version shop one)) (Shown (shown.Matrix (row (version shop one) stock (verified_as one 3 true) ∷ [])))
GetMatrix-latest_result = (_, (Some (Team red), (red_token-not_office, refl), (None, refl, (_, matrix_rows-listed passed_again (row_keys passed_again stock_rows) (version shop one), refl))), refl)

abbrev pub both_contracts : Rows
both_contracts = record present_rows { deployed = []; released = [] }

GetMatrix-of_provider : Answers both_passed blue_token (GetMatrix (version stock one))
    (Shown (shown.Matrix (row (version shop one) stock (verified_as one 1 true) ∷ row (version shop two) stock (verified_as one 2 true) ∷ [])))
GetMatrix-of_provider = (_, (Some (Team blue), (blue_token-not_office, refl), (None, refl, (_, matrix_rows-listed both_passed (row_keys both_passed both_contracts) (version stock one), refl))), refl)
