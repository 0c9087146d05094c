-- worked examples of the gate
use Rattle.std.{specs.Prelude.{codes, Some, None, ◌∷◌, []}, proofs.Common.{true, false, refl}}
use Rattle.broker_core.specs.{declared.policy.Caller.TheVariants.{Team}, declared.command.Command.TheVariants.{Deploy, CanIDeploy}}
use Rattle.broker_core.specs.{declared.command.Marks.{Marks}, declared.need.Kind.TheVariants.{Absent, Missing, Failed}}
use Rattle.broker_core.specs.{declared.answer.Answer.TheVariants.{Done, NotPermitted, Shown}, declared.answer.Detail.TheVariants.{Plain, Result}}
use Rattle.broker_core.specs.{Text.{Text, version}, State.{State, claimed_result}}
use Rattle.broker_core.specs.Change.{put_environment, put_grant, put_version, put_pact, report, deploy, release}
use Rattle.broker_core.proofs.Judgement.{Rows, row_keys, Judges-is_permitted}
use Rattle.broker_core.proofs.Fixture.{blue_token-not_office, red_token-not_office, shop, stock, Answers, red_token, blue_token, red, blue, live, one, two, three, first_file, second_file, gated, lacks, fixture, published, named_stock, claims, no_rows, pact_rows}
use Rattle.broker_core.specs.declared.answer.Shown.TheVariants as shown

abbrev pub named_shop : State
named_shop = (put_version fixture (version shop one) None).state

Deploy-without_needs : Answers named_shop red_token (Deploy live (version shop one) None) (Done Plain)
Deploy-without_needs = (_, (Some (Team red), (red_token-not_office, refl), (None, refl, (true, [], Judges-is_permitted named_shop (row_keys named_shop no_rows) (version shop one) live, refl))), refl)

Deploy-absent_provider : Answers published red_token (Deploy live (version shop one) None) (NotPermitted (lacks one None Absent ∷ []))
Deploy-absent_provider = (_, (Some (Team red), (red_token-not_office, refl), (None, refl, (false, lacks one None Absent ∷ [], Judges-is_permitted published (row_keys published pact_rows) (version shop one) live, refl))), refl)

Deploy-provider_without_consumers : Answers named_stock blue_token (Deploy live (version stock one) None) (Done Plain)
Deploy-provider_without_consumers = (_, (Some (Team blue), (blue_token-not_office, refl), (None, refl, (true, [], Judges-is_permitted named_stock (row_keys named_stock pact_rows) (version stock one) live, refl))), refl)

abbrev pub stock_deployed : State
stock_deployed = (deploy named_stock live (version stock one) []).state

abbrev pub stock_rows : Rows
stock_rows = record pact_rows { deployed = ((live, stock, []), one) ∷ [] }

Deploy-missing_result : Answers stock_deployed red_token (Deploy live (version shop one) None) (NotPermitted (lacks one (Some one) Missing ∷ []))
Deploy-missing_result = (_, (Some (Team red), (red_token-not_office, refl), (None, refl, (false, lacks one (Some one) Missing ∷ [], Judges-is_permitted stock_deployed (row_keys stock_deployed stock_rows) (version shop one) live, refl))), refl)

-- a pass, then a failure, then a pass
abbrev pub passed : State
passed = claims stock_deployed one true

abbrev pub failed : State
failed = claims passed one false

abbrev pub passed_again : State
passed_again = claims failed one true

CanIDeploy-pass : Answers passed red_token (CanIDeploy (version shop one) live) (Shown (shown.Gate live gated true []))
CanIDeploy-pass = (_, (Some (Team red), (red_token-not_office, refl), (None, refl, (gated, refl, (true, [], Judges-is_permitted passed (row_keys passed stock_rows) (version shop one) live, refl)))), refl)

CanIDeploy-later_failure : Answers failed red_token (CanIDeploy (version shop one) live) (Shown (shown.Gate live gated false (lacks one (Some one) Failed ∷ [])))
CanIDeploy-later_failure = (_, (Some (Team red), (red_token-not_office, refl), (None, refl, (gated, refl, (false, lacks one (Some one) Failed ∷ [], Judges-is_permitted failed (row_keys failed stock_rows) (version shop one) live, refl)))), refl)

Deploy-latest_result_counts : Answers passed_again red_token (Deploy live (version shop one) None) (Done Plain)
Deploy-latest_result_counts = (_, (Some (Team red), (red_token-not_office, refl), (None, refl, (true, [], Judges-is_permitted passed_again (row_keys passed_again stock_rows) (version shop one) live, refl))), refl)

-- shop 1 is deployed, and shop 3 has published the same content
abbrev pub republished : State
republished = (put_pact (deploy passed_again live (version shop one) []).state (version shop three) stock first_file).state

abbrev pub republished_rows : Rows
republished_rows = record {
  contracts = ((version shop three, stock), 1) ∷ ((version shop one, stock), 1) ∷ [];
  deployed = ((live, shop, []), one) ∷ ((live, stock, []), one) ∷ [];
  released = [];
}

Deploy-same_content : Answers republished red_token (Deploy live (version shop three) None) (Done Plain)
Deploy-same_content = (_, (Some (Team red), (red_token-not_office, refl), (None, refl, (true, [], Judges-is_permitted republished (row_keys republished republished_rows) (version shop three) live, refl))), refl)

-- two versions of the provider in two instances
abbrev pub two_instances : State
two_instances = (deploy (deploy (put_version named_stock (version stock two) None).state live (version stock one) (codes "a")).state live (version stock two) (codes "b")).state

abbrev pub instance_rows : Rows
instance_rows = record pact_rows { deployed = ((live, stock, codes "b"), two) ∷ ((live, stock, codes "a"), one) ∷ [] }

Deploy-each_deployed_version : Answers two_instances red_token (Deploy live (version shop one) None) (NotPermitted (lacks one (Some one) Missing ∷ lacks one (Some two) Missing ∷ []))
Deploy-each_deployed_version = (_, (Some (Team red), (red_token-not_office, refl), (None, refl, (false, lacks one (Some one) Missing ∷ lacks one (Some two) Missing ∷ [], Judges-is_permitted two_instances (row_keys two_instances instance_rows) (version shop one) live, refl))), refl)

abbrev pub one_passed : State
one_passed = claims two_instances one true

Deploy-one_good_version_too_few : Answers one_passed red_token (Deploy live (version shop one) None) (NotPermitted (lacks one (Some two) Missing ∷ []))
Deploy-one_good_version_too_few = (_, (Some (Team red), (red_token-not_office, refl), (None, refl, (false, lacks one (Some two) Missing ∷ [], Judges-is_permitted one_passed (row_keys one_passed instance_rows) (version shop one) live, refl))), refl)

-- shop 1 is released and shop 2 deployed beside stock 1, which passes for both; stock 2 passes only for shop 2
abbrev pub both_published : State
both_published = (put_pact published (version shop two) stock second_file).state

abbrev pub both_passed : State
both_passed = (report (claims both_published one true) (claimed_result 2 (version stock one) true None) Result).state

abbrev pub both_present : State
both_present = (deploy (release (deploy both_passed live (version stock one) []).state live (version shop one)).state live (version shop two) []).state

abbrev pub next_version : State
next_version = (report both_present (claimed_result 2 (version stock two) true None) Result).state

abbrev pub present_rows : Rows
present_rows = record {
  contracts = ((version shop two, stock), 2) ∷ ((version shop one, stock), 1) ∷ [];
  deployed = ((live, shop, []), two) ∷ ((live, stock, []), one) ∷ [];
  released = (live, version shop one) ∷ [];
}

Deploy-blocked_by_consumer : Answers next_version blue_token (Deploy live (version stock two) None) (NotPermitted (lacks one (Some two) Missing ∷ []))
Deploy-blocked_by_consumer = (_, (Some (Team blue), (blue_token-not_office, refl), (None, refl, (false, lacks one (Some two) Missing ∷ [], Judges-is_permitted next_version (row_keys next_version present_rows) (version stock two) live, refl))), refl)

-- if an environment isn't gated, the faults are shown and nothing is refused
abbrev pub dev : Text
dev = codes "dev"

abbrev pub ungated : Marks
ungated = record { gated = false; strict = false }

abbrev pub with_dev : State
with_dev = (put_grant (put_environment published dev ungated).state red dev).state

CanIDeploy-ungated_shows_faults : Answers with_dev red_token (CanIDeploy (version shop one) dev) (Shown (shown.Gate dev ungated true (lacks one None Absent ∷ [])))
CanIDeploy-ungated_shows_faults = (_, (Some (Team red), (red_token-not_office, refl), (None, refl, (ungated, refl, (true, lacks one None Absent ∷ [], Judges-is_permitted with_dev (row_keys with_dev pact_rows) (version shop one) dev, refl)))), refl)

Deploy-ungated_refuses_nothing : Answers with_dev red_token (Deploy dev (version shop one) None) (Done Plain)
Deploy-ungated_refuses_nothing = (_, (Some (Team red), (red_token-not_office, refl), (None, refl, (true, lacks one None Absent ∷ [], Judges-is_permitted with_dev (row_keys with_dev pact_rows) (version shop one) dev, refl))), refl)
