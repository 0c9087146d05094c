-- a step by how far the command comes: four ways, in order
use Rattle.std.{specs.Prelude.{Option, Some, None, MatchOption}, proofs.Common.{◌≡◌, refl, sym, subst}}
use Rattle.broker_core.specs.{Text.{Text}, State.{State}, Request.{refusal}, Change.{Transition, unchanged_with}}
use Rattle.broker_core.specs.{Machine.{Primitives, FindsFault, IsCallerOfToken, Step, StepOfCaller, TakesEffect}, declared.answer.Answer.{Answer}}
use Rattle.broker_core.specs.{declared.answer.Answer.TheVariants.{BadForm, Denied}, declared.command.Command.{Command}, declared.command.FormFault.{FormFault}}
use Rattle.broker_core.specs.{declared.policy.Caller.{Caller}, declared.policy.Rule.TheVariants.{KnownCaller}}

pub data Way (parts : Primitives) (s : State) (token : Option Text) (c : Command) : Transition → Type 0 where
  nobody : IsCallerOfToken parts s token None → Way parts s token c (unchanged_with s (Denied KnownCaller))
  misformed : (caller : Caller) → IsCallerOfToken parts s token (Some caller) → (f : FormFault) → FindsFault parts c (Some f)
      → Way parts s token c (unchanged_with s (BadForm f))
  refused : (caller : Caller) → IsCallerOfToken parts s token (Some caller) → FindsFault parts c None
      → (answer : Answer) → refusal s caller c ≡ Some answer → Way parts s token c (unchanged_with s answer)
  acting : (caller : Caller) → IsCallerOfToken parts s token (Some caller) → FindsFault parts c None
      → (out : Transition) → refusal s caller c ≡ None → TakesEffect parts s c out → Way parts s token c out

-- what follows if there is a refusal, and if there is none
abbrev pub After : Primitives → State → Command → Transition → Option Answer → Type 0
After parts s c out r = MatchOption r (TakesEffect parts s c out) (λ answer. out ≡ unchanged_with s answer)

module _ (parts : Primitives) (s : State) (token : Option Text) (c : Command) where
  pub Way-of_Step : (out : Transition) → Step parts s token c out → Way parts s token c out
  Way-of_Step out step = by_who step.0 step.1 step.2
    where
      returned : (o : Transition) → out ≡ o → Way parts s token c o → Way parts s token c out
      returned o is = subst (Way parts s token c) (sym is)

      by_refusal : (caller : Caller) → IsCallerOfToken parts s token (Some caller) → FindsFault parts c None
          → (r : Option Answer) → refusal s caller c ≡ r → After parts s c out r → Way parts s token c out
      by_refusal caller calls form None is it = acting caller calls form out is it
      by_refusal caller calls form (Some answer) is it = returned _ it (refused caller calls form answer is)

      by_form : (caller : Caller) → IsCallerOfToken parts s token (Some caller) → (f : Option FormFault) → FindsFault parts c f
          → MatchOption f (After parts s c out (refusal s caller c)) (λ fault. out ≡ unchanged_with s (BadForm fault)) → Way parts s token c out
      by_form caller calls None form it = by_refusal caller calls form (refusal s caller c) refl it
      by_form caller calls (Some f) form it = returned _ it (misformed caller calls f form)

      by_who : (who : Option Caller) → IsCallerOfToken parts s token who
          → MatchOption who (out ≡ unchanged_with s (Denied KnownCaller)) (λ caller. StepOfCaller parts s caller c out) → Way parts s token c out
      by_who None calls it = returned _ it (nobody calls)
      by_who (Some caller) calls it = by_form caller calls it.0 it.1 it.2

  pub Step-of_Way : (out : Transition) → Way parts s token c out → Step parts s token c out
  Step-of_Way _ (nobody calls) = (None, calls, refl)
  Step-of_Way _ (misformed caller calls f form) = (Some caller, calls, (Some f, form, refl))
  Step-of_Way _ (refused caller calls form answer is) = (Some caller, calls, (None, form, subst (After parts s c (unchanged_with s answer)) (sym is) refl))
  Step-of_Way _ (acting caller calls form out is it) = (Some caller, calls, (None, form, subst (After parts s c out) (sym is) it))
