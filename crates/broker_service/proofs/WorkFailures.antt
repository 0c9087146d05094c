-- Why the work of a command fails: the store failed, memory ran out, or the command's change was refused.
use Rattle.std.{specs.Prelude.{⊤}, proofs.Common.{Bool, ◌≡◌, inl, inr, true, false, Ok, Some, Option, Result, sym, ap, subst, ◌∙◌, ◌⊎◌}}
use Rattle.std.proofs.lemmas.Result.{IfErr-weaker}
use Rattle.sqlite.specs.State.{State, HasCleanDisk}
use Rattle.table_access.{specs.{Calls.{CallsTablesBetween, EndsBy}, declared.StoreFault.{StoreFault}}, proofs.CallLemmas.{EndsBy-weaken}}
use Rattle.broker_core.specs.{Contents.{HasSoundContents}, Change.{Transition}, Machine.{IsCallerOfToken, is_step}, State.{State as Broker}, Text.{Text}}
use Rattle.broker_core.specs.{declared.answer.Answer.{Answer}, declared.command.Command.{Command}, declared.policy.Caller.{Caller}, SoundNames.{AreNames}}
use Rattle.broker_core.proofs.StepLemmas.{Step-is_step}
use Rattle.broker_tables.specs.{Failures.{ShowsState, FailsOnlyBy, HasFailedOrMemory, LooksUpBetween, FailsFromBetween}, Room.{HasRoomFor, enough}}
use Rattle.broker_tables.proofs.FailLemmas.{FailsFromBetween-after_query}
use Rattle.command_facts.specs.Performs.{PerformsBetween, CarriesBetween, FailsBetween, IsStepOf, CallersStep, TokensStep, IsToChange, IsMisnamed}
use Rattle.command_facts.{specs.Primitives.{broker_primitives}, proofs.{CarryLemmas.{PerformsBetween-of_carries}, PerformLemmas.{CallersStep-of_step}}}
use Rattle.broker_service.specs.{Transacted.{IsNoFailure}, Does.{DoesBetween}}
use Rattle.broker_core.specs.declared.answer.Answer.TheVariants as answers

module _ (old new : State) (r : Result Answer StoreFault) (caller : Caller) (given command : Command) (same : given ≡ command) where
  -- a step of the command is what its caller does by it
  changes : (s : Broker) → IsToChange (IsStepOf caller command) s → IsToChange (CallersStep caller given) s
  changes s it =
      let out : Transition = record { answer = answers.Done it.0; state = it.1 } in
      (it.0, it.1, λ sound. inl (subst (λ (c : Command). IsStepOf caller c s out) (sym same) it.2))

  returned : (s : Broker) (fault : StoreFault) → HasFailedOrMemory old new fault ⊎ (IsToChange (IsStepOf caller command) s × (HasRoomFor enough old.now → EndsBy (IsMisnamed command) old new fault))
      → HasFailedOrMemory old new fault ⊎ (IsToChange (CallersStep caller given) s × (HasRoomFor enough old.now → EndsBy (IsMisnamed given) old new fault))
  returned s fault (inl failure) = inl failure
  returned s fault (inr change) = inr (changes s change.0, λ room. EndsBy-weaken old new fault (λ long named. long (subst AreNames same named)) (change.1 room))

  -- a command that may change something
  pub FailsFromBetween-of_change : FailsBetween true old new r (IsMisnamed command) (λ _. ⊤) (IsStepOf caller command) → FailsFromBetween old new r (IsMisnamed given) (HasSoundContents broker_primitives) (IsToChange (CallersStep caller given))
  FailsFromBetween-of_change why clean s here sound = IfErr-weaker r _ _ (returned s) (why clean s here tt)

  -- such a command, if each stored pact can be read again
  pub FailsFromBetween-of_sound_change : FailsFromBetween old new r (IsMisnamed command) (HasSoundContents broker_primitives) (IsToChange (IsStepOf caller command)) → FailsFromBetween old new r (IsMisnamed given) (HasSoundContents broker_primitives) (IsToChange (CallersStep caller given))
  FailsFromBetween-of_sound_change why clean s here sound = IfErr-weaker r _ _ (returned s) (why clean s here sound)

-- a command whose change is never refused
pub FailsFromBetween-of_failure : (TooBig : Type 0) (old new : State) (r : Result Answer StoreFault) (Allows Changes : Broker → Type 0) → FailsOnlyBy old new r (HasFailedOrMemory old new) → FailsFromBetween old new r TooBig Allows Changes
FailsFromBetween-of_failure TooBig old new r Allows Changes why clean s here allowed = IfErr-weaker r _ _ (λ fault it. inl it) (why clean s here)

-- what a known caller's command does, the token's does
pub TokensStep-of_caller : (s : Broker) (token : Option Text) (command : Command) (caller : Caller) → IsCallerOfToken broker_primitives s token (Some caller) → (out : Transition) → CallersStep caller command s out → TokensStep token command s out
TokensStep-of_caller s token command caller who out it sound = elim (it sound) [ inl step ↦ inl (Some caller, who, step) | inr pattern ↦ inr (pattern.0, (caller, who, pattern.1)) ]

-- a query, and then a command
pub FailsFromBetween-query_then : {A : Type 0} (TooBig : Type 0) (old mid new : State) (a : A) (r : Result Answer StoreFault) (P : A → Broker → Type 0) (Q : Answer → Type 0) (Allows Made Changes : Broker → Type 0) → ((s : Broker) → P a s → Made s → Changes s)
    → LooksUpBetween true old mid (Ok a) P → CallsTablesBetween mid new r Q → FailsFromBetween mid new r TooBig Allows Made → FailsFromBetween old new r TooBig Allows Changes
FailsFromBetween-query_then TooBig old mid new a r P Q Allows Made Changes more one = FailsFromBetween-after_query TooBig old mid new a r P Q Allows Allows Changes Made (λ s held allowed read. (allowed, more s read)) one.call

-- ---- the answer of a command is no failure

IsNoFailure-step : (answer : Answer) → is_step answer ≡ true → IsNoFailure answer
IsNoFailure-step answer step = (
  λ is. let clash : true ≡ false = sym step ∙ ap is_step is in cc,
  λ is. let clash : true ≡ false = sym step ∙ ap is_step is in cc,
  λ is. let clash : true ≡ false = sym step ∙ ap is_step is in cc,
)

IsNoFailure-pattern : (answer : Answer) → answer ≡ answers.Pattern → IsNoFailure answer
IsNoFailure-pattern answer pattern = (
  λ is. let clash : answers.Pattern ≡ answers.Memory = sym pattern ∙ is in cc,
  λ is. let clash : answers.Pattern ≡ answers.Store = sym pattern ∙ is in cc,
  λ is. let clash : answers.Pattern ≡ answers.Stopped = sym pattern ∙ is in cc,
)

pub IsNoFailure-performs : (old new : State) (answer : Answer) (token : Option Text) (command : Command) → PerformsBetween old new (TokensStep token command) (Ok answer) → HasCleanDisk new → (s : Broker) → ShowsState old s → HasSoundContents broker_primitives s → IsNoFailure answer
IsNoFailure-performs old new answer token command it clean s here sound =
    let next = it.ok clean s here.held in
    elim (next.1 sound) [
      | inl step ↦ IsNoFailure-step answer (Step-is_step broker_primitives s token command _ step)
      | inr pattern ↦ IsNoFailure-pattern answer (ap (λ out. out.answer) pattern.0)
    ]

-- ---- a command in the arm that DoesBetween-of_carries it

FailsFromBetween-of_fails : (changes : Bool) (old new : State) (r : Result Answer StoreFault) (caller : Caller) (given command : Command) → given ≡ command → FailsBetween changes old new r (IsMisnamed command) (λ _. ⊤) (IsStepOf caller command)
    → FailsFromBetween old new r (IsMisnamed given) (HasSoundContents broker_primitives) (IsToChange (CallersStep caller given))
FailsFromBetween-of_fails true old new r caller given command same why = FailsFromBetween-of_change old new r caller given command same why
FailsFromBetween-of_fails false old new r caller given command same why = FailsFromBetween-of_failure _ old new r _ _ (λ clean s here. why clean s here tt)

pub DoesBetween-of_carries : {changes : Bool} {old new : State} {r : Result Answer StoreFault} {given command : Command} (caller : Caller) → given ≡ command → CarriesBetween changes old new (λ _. ⊤) (λ _. ⊤) (IsMisnamed command) (IsStepOf caller command) r → DoesBetween old new (IsMisnamed given) (CallersStep caller given) r
DoesBetween-of_carries {changes} {old} {new} {r} {given} {command} caller same it = record { answers = CallersStep-of_step old new r caller given command same (PerformsBetween-of_carries it); failure = FailsFromBetween-of_fails changes old new r caller given command same it.failure }
