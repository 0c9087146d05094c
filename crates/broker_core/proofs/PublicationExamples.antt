-- worked examples of publications and branches
use Rattle.std.{specs.Prelude.{codes, Some, None}, proofs.Common.{refl}}
use Rattle.broker_core.specs.{declared.policy.Caller.TheVariants.{Team}, declared.command.Command.TheVariants.{PutPact, GetBranchPact}}
use Rattle.broker_core.specs.declared.command.FormFault.TheVariants.{Names}
use Rattle.broker_core.specs.{declared.answer.Answer.TheVariants.{Done, Already, Taken, BadForm, Shown, Unknown}, declared.answer.Detail.TheVariants.{Content}}
use Rattle.broker_core.specs.{declared.answer.Clash.TheVariants.{OtherContent}, Text.{version}, State.{State}, Change.{put_version, put_pact}}
use Rattle.broker_core.specs.Machine.Reading.{IsPact}
use Rattle.broker_core.proofs.Fixture.{blue_token-not_office, red_token-not_office, shop, stock, Answers, red_token, blue_token, red, blue, one, two, three, first_file, second_file, path_of, fixture, published}
use Rattle.broker_core.specs.declared.answer.Shown.TheVariants as shown
use Rattle.broker_core.specs.declared.answer.Missing.TheVariants as missing

PutPact-numbered : Answers fixture red_token (PutPact (path_of one) first_file) (Done (Content 1))
PutPact-numbered = (_, (Some (Team red), (red_token-not_office, refl), (None, (IsPact shop stock first_file, refl, refl), (first_file, refl, refl))), refl)

PutPact-same_content_already : Answers published red_token (PutPact (path_of one) first_file) (Already (Content 1))
PutPact-same_content_already = (_, (Some (Team red), (red_token-not_office, refl), (None, (IsPact shop stock first_file, refl, refl), (first_file, refl, refl))), refl)

PutPact-other_content_taken : Answers published red_token (PutPact (path_of one) second_file) (Taken OtherContent)
PutPact-other_content_taken = (_, (Some (Team red), (red_token-not_office, refl), (None, (IsPact shop stock second_file, refl, refl), (second_file, refl, refl))), refl)

PutPact-shared_number : Answers published red_token (PutPact (path_of three) first_file) (Done (Content 1))
PutPact-shared_number = (_, (Some (Team red), (red_token-not_office, refl), (None, (IsPact shop stock first_file, refl, refl), (first_file, refl, refl))), refl)

PutPact-names_of_path : Answers fixture red_token (PutPact (record (path_of one) { consumer = codes "store" }) first_file) (BadForm Names)
PutPact-names_of_path = (_, (Some (Team red), (red_token-not_office, refl), (Some Names, (IsPact shop stock first_file, refl, refl), refl)), refl)

-- both versions are on the branch
abbrev pub on_main : State
on_main = (put_version (put_version (put_pact published (version shop two) stock second_file).state (version shop one) (Some (codes "main"))).state (version shop two) (Some (codes "main"))).state

GetBranchPact-newest : Answers on_main blue_token (GetBranchPact stock shop (codes "main")) (Shown (shown.Pact second_file))
GetBranchPact-newest = (_, (Some (Team blue), (blue_token-not_office, refl), (None, refl, (version shop two, refl, (second_file, refl, refl)))), refl)

GetBranchPact-none : Answers on_main blue_token (GetBranchPact stock shop (codes "next")) (Unknown missing.Contract)
GetBranchPact-none = (_, (Some (Team blue), (blue_token-not_office, refl), (None, refl, refl)), refl)
