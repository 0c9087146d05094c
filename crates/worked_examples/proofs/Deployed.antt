-- What is handed on of an answer, by what the broker promises of it.
use Rattle.std.proofs.Common.{◌≡◌, false, true, inl, inr, Bool, Option, Some, Ok, Err, IsTrue, refl, ap, subst}
use Rattle.sqlite.specs.{Held.{Held}, State.{State}}
use Rattle.broker_core.specs.{Change.{instance_of}, Headline.{IsRefusal}, Machine.{is_step}, State.{State as Broker}, Text.{Text}}
use Rattle.broker_core.specs.declared.answer.Answer.{Answer}
use Rattle.broker_core.specs.declared.answer.Answer.TheVariants.{Done, Already, Shown, Denied, Unknown, BadForm, Taken, Full, NotPermitted, Pattern, Memory, Store, Stopped}
use Rattle.broker_core.specs.declared.command.Version.{Version}
use Rattle.broker_database.specs.{BrokerView.{BrokerView}, Headline.{RecordsExactly}, Stored.{HoldsState}}
use Rattle.command_facts.specs.Primitives.{broker_primitives}
use Rattle.worked_examples.specs.Deploying.{is_accepted, DeploysExactly}

pub is_accepted-is_step : (a : Answer) → is_accepted a ≡ true → IsTrue (is_step a)
is_accepted-is_step (Done detail) is = refl
is_accepted-is_step (Already detail) is = refl
is_accepted-is_step (Shown shown) is = refl
is_accepted-is_step (Denied rule) is = refl
is_accepted-is_step (Unknown missing) is = refl
is_accepted-is_step (BadForm fault) is = refl
is_accepted-is_step (Taken clash) is = refl
is_accepted-is_step Full is = refl
is_accepted-is_step (NotPermitted faults) is = refl
is_accepted-is_step Pattern is = absurd (cc)
is_accepted-is_step Memory is = absurd (cc)
is_accepted-is_step Store is = absurd (cc)
is_accepted-is_step Stopped is = absurd (cc)

pub IsTrue-of_not_false : (b : Bool) → ¬ (b ≡ false) → IsTrue b
IsTrue-of_not_false true going = refl
IsTrue-of_not_false false going = absurd (going refl)

module _ (s : Broker) (token : Option Text) (e : Text) (v : Version) where
  is_accepted-no_refusal : (a : Answer) → is_accepted a ≡ true → IsRefusal broker_primitives s token e v a → ⊥
  is_accepted-no_refusal (Done detail) is it = it
  is_accepted-no_refusal (Already detail) is it = it
  is_accepted-no_refusal (Shown shown) is it = it
  is_accepted-no_refusal (Denied rule) is it = cc
  is_accepted-no_refusal (Unknown missing) is it = cc
  is_accepted-no_refusal (BadForm fault) is it = it
  is_accepted-no_refusal (Taken clash) is it = it
  is_accepted-no_refusal Full is it = it
  is_accepted-no_refusal (NotPermitted faults) is it = cc
  is_accepted-no_refusal Pattern is it = it
  is_accepted-no_refusal Memory is it = it
  is_accepted-no_refusal Store is it = it
  is_accepted-no_refusal Stopped is it = it

-- what is promised of a deployment, by what the broker promises of its answer
module _ {X : Type 0} (shown : Held X → State) (s : Broker) (token e : Text) (v : Version) (instance : Option Text) (answer : Answer) (new : BrokerView X)
    (it : RecordsExactly s (Some token) e v (λ t. t.deployed (e, v.pacticipant, instance_of instance) ≡ Some v.name) (shown new.connection) answer) where
  pub done : is_accepted answer ≡ true → DeploysExactly shown s token e v instance (Ok tt) new
  done is = record {
    recorded = λ may. (refl, (it.0, it.1, (it.2.recorded.1 may).1));
    refused = λ refused. absurd (is_accepted-no_refusal s (Some token) e v answer is (it.2.refused refused).0);
  }

  pub refused : is_accepted answer ≡ false → DeploysExactly shown s token e v instance (Err answer) new
  refused is = record {
    recorded = λ may. elim (it.2.recorded.1 may).0 [ inl done ↦ absurd (cc (ap is_accepted done)) | inr already ↦ absurd (cc (ap is_accepted already)) ];
    refused = λ refused. let same = it.2.refused refused in
        (subst (λ (t : Broker). HoldsState t (shown new.connection)) same.1 it.1, (answer, refl, same.0));
  }
