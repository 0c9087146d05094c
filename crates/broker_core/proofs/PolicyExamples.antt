-- worked examples of who may do what
use Rattle.std.{specs.{Prelude.{codes, Some, None}, Cmp.Lexicographic.{other_text}}, proofs.Common.{true, false, refl}}
use Rattle.broker_core.specs.{declared.policy.Caller.TheVariants.{Office, Team}, declared.policy.Rule.TheVariants.{OwnerWithGrant, KnownCaller}}
use Rattle.broker_core.specs.{declared.command.Command.{Command}, declared.command.Command.TheVariants.{Deploy, PutEnvironment, Malformed}}
use Rattle.broker_core.specs.{declared.command.FormFault.TheVariants.{Json, Field}, declared.answer.Answer.TheVariants.{Denied, BadForm, Unknown}}
use Rattle.broker_core.specs.{Text.{Text, version}, State.{State, opening}}
use Rattle.broker_core.specs.{Change.{unchanged_with, put_team, put_environment, put_grant, delete_grant, put_version}, Machine.{IsCallerOfDigest}}
use Rattle.broker_core.proofs.Fixture.{blue_token-not_office, red_token-not_office, shop, Answers, office_token, red_token, blue_token, red, blue, live, one, fixture, put_at-other_value, opening-no_team}
use Rattle.broker_core.specs.declared.answer.Missing.TheVariants as missing

-- red has named shop 1 and has no grant for live
abbrev pub without_grant : State
without_grant = (put_version (delete_grant fixture red live).state (version shop one) None).state

-- red has a grant only for dev
abbrev pub with_other_grant : State
with_other_grant = (put_grant (put_environment without_grant (codes "dev") (record { gated = false; strict = false })).state red (codes "dev")).state

Deploy-needs_grant : Answers without_grant red_token (Deploy live (version shop one) None) (Denied OwnerWithGrant)
Deploy-needs_grant = (_, (Some (Team red), (red_token-not_office, refl), (None, refl, refl)), refl)

Deploy-needs_grant_there : Answers with_other_grant red_token (Deploy live (version shop one) None) (Denied OwnerWithGrant)
Deploy-needs_grant_there = (_, (Some (Team red), (red_token-not_office, refl), (None, refl, refl)), refl)

Deploy-denied_to_office : Answers (put_version fixture (version shop one) None).state office_token (Deploy live (version shop one) None) (Denied OwnerWithGrant)
Deploy-denied_to_office = (_, (Some Office, refl, (None, refl, refl)), refl)

Deploy-missing_before_denied : Answers fixture blue_token (Deploy live (version shop one) None) (Unknown missing.Version)
Deploy-missing_before_denied = (_, (Some (Team blue), (blue_token-not_office, refl), (None, refl, refl)), refl)

Malformed-before_denied : Answers fixture red_token (Malformed Json) (BadForm Json)
Malformed-before_denied = (_, (Some (Team red), (red_token-not_office, refl), (Some Json, refl, refl)), refl)

PutEnvironment-strict_is_gated : Answers fixture office_token (PutEnvironment (codes "prod") (record { gated = false; strict = true })) (BadForm (Field (codes "strict")))
PutEnvironment-strict_is_gated = (_, (Some Office, refl, (Some (Field (codes "strict")), refl, refl)), refl)

abbrev pub unknown_token : Text
unknown_token = codes "who-is-this-000001"

unknown_token-no_caller : IsCallerOfDigest fixture unknown_token None
unknown_token-no_caller Office = other_text office_token unknown_token refl
unknown_token-no_caller (Team t) = put_at-other_value named_red.teams blue blue_token unknown_token (other_text blue_token unknown_token refl)
    (put_at-other_value (opening office_token).teams red red_token unknown_token (other_text red_token unknown_token refl) (opening-no_team unknown_token)) t
  where
    named_red : State
    named_red = (put_team (opening office_token) red red_token false).state

unknown_token-denied : (command : Command) → Answers fixture unknown_token command (Denied KnownCaller)
unknown_token-denied command = (unchanged_with fixture (Denied KnownCaller), (None, unknown_token-no_caller, refl), refl)
