use Rattle.std.{specs.Prelude.{if◌then◌else◌}, proofs.Common.{◌≡◌, Option, Bool, true, List, sym, ap, ◌∙◌, ◌≤◌, ◌^◌, ℕ, length, subst}}
use Rattle.broker_core.specs.{Change.{Transition, deploy as deployment, unchanged_with, instance_of}, Gate.{Judges}, State.{State}, Text.{Text}}
use Rattle.broker_core.specs.{declared.answer.Answer.TheVariants.{NotPermitted}, declared.command.Command.TheVariants.{Deploy}}
use Rattle.broker_core.specs.{declared.command.Version.{Version}, declared.need.PairFault.{PairFault}}
use Rattle.environment_commands.{specs.Effects.{Enacts}, proofs.PlaceLemmas.{HasPlace-of_admitted}}
use Rattle.command_facts.proofs.CarryLemmas.{CarriesBetween-query_then_from, CarriesBetween-weaker, CarriesBetween-query_answer}
use Rattle.command_facts.proofs.ShortTexts.{IsName-short, instance_of-short}
use Rattle.environment_commands.proofs.deploy.deploy_judged.Goals as goal

-- what the gate permits is done
permitted_deploys : (s : State) (e : Text) (v : Version) (instance : Option Text) (text : Text) (permitted : Bool) (faults : List PairFault) → text ≡ instance_of instance → permitted ≡ true → Judges s v e permitted faults
    → (out : Transition) → out ≡ deployment s e v text → Enacts (Deploy e v instance) s out
permitted_deploys s e v instance text permitted faults same may judged out is = (
  permitted,
  faults,
  judged,
  is ∙ ap (deployment s e v) same ∙ sym (ap (λ (b : Bool). if b then deployment s e v (instance_of instance) else unchanged_with s (NotPermitted faults)) may),
)

pub returns-then-permitted : goal.returns-then-permitted
returns-then-permitted g c =
    CarriesBetween-weaker (λ s out it. it) (λ long named. long (IsName-short _ named.0, (IsName-short _ named.1.0, (subst (λ (t : List ℕ). length t ≤ 10 ^ 7) (sym c.instance_text.ensures) (instance_of-short _ named.2), tt))))
    (CarriesBetween-query_then_from (λ s admitted says. (admitted.1, permitted_deploys s _ _ c.args.instance.now c.instance_text.result.now _ _ c.instance_text.ensures c.if-permitted.true (says admitted)))
    (λ s held admitted says. (HasPlace-of_admitted s _ _ _ admitted, permitted_deploys s _ _ c.args.instance.now c.instance_text.result.now _ _ c.instance_text.ensures c.if-permitted.true (says admitted))) c.in-Ok.ensures c.record_deployment.ensures.carries)

pub returns-else-permitted : goal.returns-else-permitted
returns-else-permitted g c =
    CarriesBetween-query_answer (λ s admitted judged. (
      c.in-Ok.value.0,
      c.in-Ok.value.1.items,
      judged admitted,
      ap (λ (faults : List PairFault). unchanged_with s (NotPermitted faults)) c.new.ensures
          ∙ sym (ap (λ (b : Bool). if b then deployment s c.args.environment.now c.args.version.now (instance_of c.args.instance.now) else unchanged_with s (NotPermitted c.in-Ok.value.1.items)) c.if-permitted.false),
    )) c.in-Ok.ensures
