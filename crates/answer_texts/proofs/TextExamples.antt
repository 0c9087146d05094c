-- a worked example of an answer's body, computed from the definitions
use Rattle.std.{specs.Prelude.{codes, Some, ◌∷◌, []}, proofs.Common.{◌≡◌, refl}}
use Rattle.serde_json.proofs.OnLiterals.{serde_json_on_literals}
use Rattle.broker_core.specs.{declared.answer.Answer.{Answer}, declared.answer.Answer.TheVariants.{NotPermitted}, declared.need.Kind.TheVariants.{Claimed}}
use Rattle.broker_core.specs.declared.need.PairFault.{PairFault}
use Rattle.answer_texts.specs.AnswerText.{answer_text}

-- version 1 of stock, the provider, only claims that it passes for the pact of version 1 of shop
abbrev pub is_claimed : PairFault
is_claimed = record { consumer = codes "shop"; consumer_version = codes "1"; provider = codes "stock"; provider_version = Some (codes "1"); kind = Claimed }

abbrev pub refused_for_a_claim : Answer
refused_for_a_claim = NotPermitted (is_claimed ∷ [])

pub answer_text-of_refusal : answer_text refused_for_a_claim ≡ codes "{\"answer\":\"not permitted\",\"faults\":[{\"consumer\":\"shop\",\"consumerVersion\":\"1\",\"kind\":\"claimed\",\"provider\":\"stock\",\"providerVersion\":\"1\"}]}"
unfolding serde_json_on_literals
answer_text-of_refusal = refl
