use Rattle.std.{specs.Prelude.{if◌then◌else◌}, proofs.Common.{◌≡◌, Bool, true, List, sym, ap, ◌∙◌}}
use Rattle.broker_core.specs.{Change.{Transition, release as released, unchanged_with}, Gate.{Judges}, State.{State}, Text.{Text}}
use Rattle.broker_core.specs.{declared.answer.Answer.TheVariants.{NotPermitted}, declared.command.Command.TheVariants.{Release}}
use Rattle.broker_core.specs.{declared.command.Version.{Version}, declared.need.PairFault.{PairFault}}
use Rattle.environment_commands.{specs.Effects.{Enacts}, proofs.PlaceLemmas.{HasPlace-of_admitted}}
use Rattle.command_facts.proofs.{CarryLemmas.{CarriesBetween-query_then_from, CarriesBetween-weaker, CarriesBetween-query_answer}, ShortTexts.{IsName-short}}
use Rattle.environment_commands.proofs.release.release_judged.Goals as goal

-- what the gate permits is done
permitted_releases : (s : State) (e : Text) (v : Version) (permitted : Bool) (faults : List PairFault) → permitted ≡ true → Judges s v e permitted faults
    → (out : Transition) → out ≡ released s e v → Enacts (Release e v) s out
permitted_releases s e v permitted faults may judged out is = (
  permitted,
  faults,
  judged,
  is ∙ sym (ap (λ (b : Bool). if b then released s e v else unchanged_with s (NotPermitted faults)) may),
)

pub returns-then-permitted : goal.returns-then-permitted
returns-then-permitted g c =
    CarriesBetween-weaker (λ s out it. it) (λ long named. long (IsName-short _ named.0, tt))
    (CarriesBetween-query_then_from (λ s admitted says. (admitted.1, permitted_releases s _ _ _ _ c.if-permitted.true (says admitted)))
    (λ s held admitted says. (HasPlace-of_admitted s _ _ _ admitted, permitted_releases s _ _ _ _ c.if-permitted.true (says admitted))) c.in-Ok.ensures c.record_release.ensures.carries)

pub returns-else-permitted : goal.returns-else-permitted
returns-else-permitted g c =
    CarriesBetween-query_answer (λ s admitted judged. (
      c.in-Ok.value.0,
      c.in-Ok.value.1.items,
      judged admitted,
      ap (λ (faults : List PairFault). unchanged_with s (NotPermitted faults)) c.new.ensures
          ∙ sym (ap (λ (b : Bool). if b then released s c.args.environment.now c.args.version.now else unchanged_with s (NotPermitted c.in-Ok.value.1.items)) c.if-permitted.false),
    )) c.in-Ok.ensures
