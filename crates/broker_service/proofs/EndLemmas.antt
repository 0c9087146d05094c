-- What a transaction ends with, from what its command did.
use Rattle.std.proofs.Common.{◌≡◌, ◌⊎◌, inl, inr, Option, Some, true, false, IsTrue, refl, sym, subst, ap, ◌∙◌}
use Rattle.sqlite.specs.{Effect.{Database}, State.{State}}
use Rattle.broker_core.specs.{Laws.{IsDone}, Text.{Text}, State.{State as Broker}, Change.{Transition, instance_of}, Machine.{Step, is_step}}
use Rattle.broker_core.specs.{declared.answer.Answer.{Answer}, declared.answer.Answer.TheVariants.{Pattern, Memory, Store}, declared.command.Command.{Command}}
use Rattle.broker_core.{specs.{declared.command.Command.TheVariants.{Deploy, Release}, declared.command.Version.{Version}}, proofs.StepLemmas.{Step-is_step}}
use Rattle.broker_core.proofs.Quiet.{OnlyDoneChanges-holds}
use Rattle.broker_tables.specs.Holds.{Holds}
use Rattle.command_facts.specs.{Primitives.{broker_primitives}, Patterns.{RefusesPattern, AsksPattern}}
use Rattle.broker_database.specs.{Ends.{Steps, KeepsAtPattern, Applies}, Headline.{RecordsExactly}, Stored.{Stores, HoldsState}}
use Rattle.broker_database.proofs.Sound.{HasSoundContents-step}
use Rattle.registry_tables.proofs.TeamRows.{teams_differ}
use Rattle.broker_core.proofs.Headline as headline

module _ (s : Broker) (token : Option Text) (command : Command) (was : Database) (stored : Stores was s) where
  abbrev pub IsStepOrPattern : Transition → Type 0
  IsStepOrPattern out = Step broker_primitives s token command out ⊎ (RefusesPattern s out × AsksPattern s token command)

  -- what is done is a step
  pub Step-of_done : (out : Transition) → IsStepOrPattern out → IsDone out.answer → Step broker_primitives s token command out
  Step-of_done out (inl step) is_done = step
  Step-of_done out (inr pattern) is_done = absurd (subst (λ (o : Transition). IsDone o.answer) pattern.0 is_done)

  pub Stores-next : (out : Transition) (db : Database) → Step broker_primitives s token command out → Holds db out.state → Stores db out.state
  Stores-next out db step held = record { tables = held; contents = HasSoundContents-step s token command out stored.contents step }

  pub Steps-of_step : (answer : Answer) (next : Broker) (new : State) → Step broker_primitives s token command (record { answer = answer; state = next }) → HoldsState next new → Steps s token command new answer ⊎ KeepsAtPattern s token command new answer
  Steps-of_step answer next new step keeps = inl (record { next = next; step = step; is_machines = Step-is_step broker_primitives s token command _ step; teams_differ = teams_differ was s stored.tables; keeps = keeps })

  -- what isn't done is undone, and changes nothing
  pub Steps-of_undone : (out : Transition) (new : State) → IsStepOrPattern out → ¬ (IsDone out.answer) → HoldsState s new → Steps s token command new out.answer ⊎ KeepsAtPattern s token command new out.answer
  Steps-of_undone out new (inl step) undone keeps = elim (OnlyDoneChanges-holds broker_primitives s token command out step) [
    | inl still ↦ Steps-of_step out.answer s new (subst (λ (t : Broker). Step broker_primitives s token command (record { answer = out.answer; state = t })) still step) keeps
    | inr is_done ↦ absurd (undone is_done)
  ]
  Steps-of_undone out new (inr pattern) undone keeps = inr (ap (λ (o : Transition). o.answer) pattern.0, pattern.1, keeps)

-- ---- the headline, of what apply leaves

module _ (s : Broker) (token : Option Text) (command : Command) (new : State) (answer : Answer) (applied : Applies s token command new answer) (is : IsTrue (is_step answer)) where
  is_step-other_answer : (a : Answer) → answer ≡ a → is_step a ≡ false → ⊥
  is_step-other_answer a same outside = let wrong : true ≡ false = sym is ∙ ap is_step same ∙ outside in cc

  -- an answer of the machine is that of a step
  Steps-of_applies : Applies s token command new answer → Steps s token command new answer
  Steps-of_applies (inl steps) = steps
  Steps-of_applies (inr (inl pattern)) = absurd (is_step-other_answer Pattern pattern.0 refl)
  Steps-of_applies (inr (inr (inl memory))) = absurd (is_step-other_answer Memory memory.0 refl)
  Steps-of_applies (inr (inr (inr store))) = absurd (is_step-other_answer Store store.0 refl)

  is_steps : Steps s token command new answer
  is_steps = Steps-of_applies applied

  pub RecordsExactly-deployed : (e : Text) (v : Version) (instance : Option Text) → command ≡ Deploy e v instance → RecordsExactly s token e v (λ t. t.deployed (e, v.pacticipant, instance_of instance) ≡ Some v.name) new answer
  RecordsExactly-deployed e v instance deploys = (
    is_steps.next,
    is_steps.keeps,
    headline.DeploysExactly-holds broker_primitives s token e v instance (record { answer = answer; state = is_steps.next }) is_steps.teams_differ
        (subst (λ (c : Command). Step broker_primitives s token c (record { answer = answer; state = is_steps.next })) deploys is_steps.step),
  )

  pub RecordsExactly-released : (e : Text) (v : Version) → command ≡ Release e v → RecordsExactly s token e v (λ t. IsTrue (t.released (e, v))) new answer
  RecordsExactly-released e v releases = (
    is_steps.next,
    is_steps.keeps,
    headline.ReleasesExactly-holds broker_primitives s token e v (record { answer = answer; state = is_steps.next }) is_steps.teams_differ
        (subst (λ (c : Command). Step broker_primitives s token c (record { answer = answer; state = is_steps.next })) releases is_steps.step),
  )
