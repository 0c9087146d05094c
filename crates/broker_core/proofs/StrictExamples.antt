-- worked examples of a strict environment, beside one that is only gated
use Rattle.std.{specs.Prelude.{codes, Some, None, ◌∷◌, []}, proofs.Common.{true, false, refl}}
use Rattle.broker_core.specs.{declared.policy.Caller.TheVariants.{Team}, declared.command.Command.TheVariants.{Deploy, CanIDeploy, PostReplies}}
use Rattle.broker_core.specs.{declared.command.Marks.{Marks}, declared.need.Kind.TheVariants.{Failed, Claimed}}
use Rattle.broker_core.specs.{declared.answer.Answer.TheVariants.{Done, NotPermitted, Shown}, declared.answer.Detail.TheVariants.{Plain, Result, Replies}}
use Rattle.broker_core.specs.{Text.{Text, version}, State.{State, checked_result}, Change.{put_environment, put_grant, put_pact, report, deploy}}
use Rattle.broker_core.{specs.Machine.{Request, Run}, proofs.Judgement.{Rows, row_keys, Judges-is_permitted}}
use Rattle.broker_core.proofs.Fixture.{blue_token-not_office, red_token-not_office, simple_parts, shop, stock, Answers, red_token, blue_token, red, blue, live, one, first_file, path_of, lacks, fixture, claims, pact_rows}
use Rattle.broker_core.specs.declared.answer.Shown.TheVariants as shown

abbrev pub prod : Text
prod = codes "prod"

abbrev pub strict : Marks
strict = record { gated = true; strict = true }

abbrev pub with_prod : State
with_prod = (put_grant (put_grant (put_environment fixture prod strict).state red prod).state blue prod).state

-- shop 1 has published; stock 1 is claimed to pass, and then deployed in both
abbrev pub claimed : State
claimed = claims (put_pact with_prod (version shop one) stock first_file).state one true

abbrev pub stock_in_both : State
stock_in_both = (deploy (deploy claimed prod (version stock one) []).state live (version stock one) []).state

abbrev pub both_rows : Rows
both_rows = record pact_rows { deployed = ((live, stock, []), one) ∷ ((prod, stock, []), one) ∷ [] }

Deploy-strict_without_consumers : Answers claimed blue_token (Deploy prod (version stock one) None) (Done Plain)
Deploy-strict_without_consumers = (_, (Some (Team blue), (blue_token-not_office, refl), (None, refl, (true, [], Judges-is_permitted claimed (row_keys claimed pact_rows) (version stock one) prod, refl))), refl)

Deploy-strict_claimed_pass : Answers stock_in_both red_token (Deploy prod (version shop one) None) (NotPermitted (lacks one (Some one) Claimed ∷ []))
Deploy-strict_claimed_pass = (_, (Some (Team red), (red_token-not_office, refl), (None, refl, (false, lacks one (Some one) Claimed ∷ [], Judges-is_permitted stock_in_both (row_keys stock_in_both both_rows) (version shop one) prod, refl))), refl)

Deploy-claimed_pass : Answers stock_in_both red_token (Deploy live (version shop one) None) (Done Plain)
Deploy-claimed_pass = (_, (Some (Team red), (red_token-not_office, refl), (None, refl, (true, [], Judges-is_permitted stock_in_both (row_keys stock_in_both both_rows) (version shop one) live, refl))), refl)

-- the broker checks replies, and they pass
abbrev pub checked : State
checked = (report stock_in_both (checked_result 1 (version stock one) true None) Result).state

PostReplies-checked_result : Answers stock_in_both blue_token (PostReplies (path_of one) (record { provider_version = one; run = None }) (codes "{}")) (Done (Replies [] 2 true))
PostReplies-checked_result = (_, (Some (Team blue), (blue_token-not_office, refl), (None, refl, (1, refl, (first_file, refl, (Some [], refl, refl))))), refl)

Deploy-strict_checked_pass : Answers checked red_token (Deploy prod (version shop one) None) (Done Plain)
Deploy-strict_checked_pass = (_, (Some (Team red), (red_token-not_office, refl), (None, refl, (true, [], Judges-is_permitted checked (row_keys checked both_rows) (version shop one) prod, refl))), refl)

-- a later claim takes the place of the check, and a later failure that of the claim
abbrev pub claimed_later : State
claimed_later = claims checked one true

abbrev pub failed_later : State
failed_later = claims claimed_later one false

CanIDeploy-later_claim : Answers claimed_later red_token (CanIDeploy (version shop one) prod) (Shown (shown.Gate prod strict false (lacks one (Some one) Claimed ∷ [])))
CanIDeploy-later_claim = (_, (Some (Team red), (red_token-not_office, refl), (None, refl, (strict, refl, (false, lacks one (Some one) Claimed ∷ [], Judges-is_permitted claimed_later (row_keys claimed_later both_rows) (version shop one) prod, refl)))), refl)

CanIDeploy-claimed_failure : Answers failed_later red_token (CanIDeploy (version shop one) prod) (Shown (shown.Gate prod strict false (lacks one (Some one) Failed ∷ [])))
CanIDeploy-claimed_failure = (_, (Some (Team red), (red_token-not_office, refl), (None, refl, (strict, refl, (false, lacks one (Some one) Failed ∷ [], Judges-is_permitted failed_later (row_keys failed_later both_rows) (version shop one) prod, refl)))), refl)

-- in a run: a claim isn't enough, the broker checks replies, and then it is
abbrev pub deploys : Request
deploys = record { token = Some red_token; command = Deploy prod (version shop one) None }

abbrev pub sends_replies : Request
sends_replies = record { token = Some blue_token; command = PostReplies (path_of one) (record { provider_version = one; run = None }) (codes "{}") }

Run-refused_then_recorded : Run simple_parts stock_in_both (deploys ∷ sends_replies ∷ deploys ∷ [])
    (NotPermitted (lacks one (Some one) Claimed ∷ []) ∷ Done (Replies [] 2 true) ∷ Done Plain ∷ []) (deploy checked prod (version shop one) []).state
Run-refused_then_recorded = (
  stock_in_both,
  (Some (Team red), (red_token-not_office, refl), (None, refl, (false, lacks one (Some one) Claimed ∷ [], Judges-is_permitted stock_in_both (row_keys stock_in_both both_rows) (version shop one) prod, refl))),
  (
    checked,
    (Some (Team blue), (blue_token-not_office, refl), (None, refl, (1, refl, (first_file, refl, (Some [], refl, refl))))),
    (
      (deploy checked prod (version shop one) []).state,
      (Some (Team red), (red_token-not_office, refl), (None, refl, (true, [], Judges-is_permitted checked (row_keys checked both_rows) (version shop one) prod, refl))),
      refl,
    ),
  ),
)
