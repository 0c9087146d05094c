-- Who sends a command, to the machine; and what a known caller's command leads to, if its form has no fault.
use Rattle.std.{specs.Prelude.{Option, Some, None, MatchOption}, proofs.Common.{◌≡◌, refl, sym, subst}}
use Rattle.broker_core.specs.{State.{State}, Request.{refusal}, Change.{Transition, unchanged_with}}
use Rattle.broker_core.specs.{Machine.{FindsFault, IsCallerOfToken, TakesEffect, StepOfCaller}, Text.{Text}, declared.answer.Answer.{Answer}}
use Rattle.broker_core.specs.{declared.command.Command.{Command}, declared.policy.Caller.{Caller}}
use Rattle.caller_facts.specs.Callers.{IsSender}
use Rattle.command_facts.specs.Primitives.{broker_primitives}

-- the machine knows who sends it
pub IsCallerOfToken-of_sender : (s : State) (token : Option Text) (who : Option Caller) → IsSender s token who → IsCallerOfToken broker_primitives s token who
IsCallerOfToken-of_sender s (Some token) who is = is
IsCallerOfToken-of_sender s None who is = is

module _ (s : State) (caller : Caller) (command : Command) (form : FindsFault broker_primitives command None) where
  -- it is refused
  pub StepOfCaller-refused : (answer : Answer) → refusal s caller command ≡ Some answer → StepOfCaller broker_primitives s caller command (unchanged_with s answer)
  StepOfCaller-refused answer is = (
    None,
    form,
    subst (λ (r : Option Answer). MatchOption r (TakesEffect broker_primitives s command (unchanged_with s answer)) (λ other. unchanged_with s answer ≡ unchanged_with s other)) (sym is) refl,
  )

  -- nothing StepOfCaller-refused it
  pub StepOfCaller-effect : (out : Transition) → refusal s caller command ≡ None → TakesEffect broker_primitives s command out → StepOfCaller broker_primitives s caller command out
  StepOfCaller-effect out is effect = (
    None,
    form,
    subst (λ (r : Option Answer). MatchOption r (TakesEffect broker_primitives s command out) (λ other. out ≡ unchanged_with s other)) (sym is) effect,
  )
