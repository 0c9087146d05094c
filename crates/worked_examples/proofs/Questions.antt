-- What a question leaves, by what the broker promises of its answer.
use Rattle.std.{specs.Prelude.{MatchOption}, proofs.Common.{◌≡◌, ◌⊎◌, Bool, Option, Some, None, true, false, inl, inr, ap, refl, subst}}
use Rattle.sqlite.specs.{Held.{Held}, State.{State, HasCleanDisk}}
use Rattle.table_access.specs.Calls.{HasFailed}
use Rattle.broker_core.specs.{Change.{Transition, unchanged_with}, Laws.{IsDone}, Machine.{Step, StepOfCaller, TakesEffect}}
use Rattle.broker_core.specs.{Request.{asks, first_missing, is_allowed, refused}, State.{State as Broker}, Text.{Text}, declared.policy.Caller.{Caller}}
use Rattle.broker_core.specs.{declared.policy.Rule.TheVariants.{KnownCaller}, declared.answer.Answer.{Answer}}
use Rattle.broker_core.specs.{declared.answer.Answer.TheVariants.{BadForm, Denied, Shown, Store, Unknown}, declared.answer.Missing.{Missing}}
use Rattle.broker_core.specs.declared.command.Command.{Command}
use Rattle.broker_core.specs.declared.command.Command.TheVariants.{PutTeam, PutPacticipant, PutEnvironment, PutGrant, DeleteGrant, PutVersion, PutPact, GetPact, GetBranchPact, PostResult, PostReplies, Deploy, Undeploy, Release, EndSupport, GetEnvironment, CanIDeploy, GetMatrix, Malformed}
use Rattle.command_facts.specs.{Patterns.{ComparesPattern}, Primitives.{broker_primitives}}
use Rattle.broker_database.specs.{BrokerView.{BrokerView}, Calls.{Applied}, Causes.{HoldsReadable}, Ends.{KeepsAtPattern, Steps}, Stored.{HoldsState}}
use Rattle.worked_examples.specs.Asking.{IsOnlyAsked, is_question}
use Rattle.table_access.specs.declared.StoreFault.TheVariants as faults
use Rattle.broker_core.specs.declared.answer.Shown.TheVariants as shows

module _ (s : Broker) (out : Transition) where
  -- the state is the same, and the answer isn't Done
  abbrev pub IsVerifiedAs : Type 0
  IsVerifiedAs = (answer : Answer) × (out ≡ unchanged_with s answer) × (¬ (IsDone answer))

  refused-or_returned : (command : Command) (what : Option Missing) (allowed : Bool) (T : Type 0) → MatchOption (refused command what allowed) T (λ answer. out ≡ unchanged_with s answer) → T ⊎ IsVerifiedAs
  refused-or_returned command (Some what) allowed T is = inr (Unknown what, is, λ no. no)
  refused-or_returned command None true T it = inl it
  refused-or_returned command None false T is = inr (Denied (asks command).rule, is, λ no. no)

  TakesEffect-question : (command : Command) → is_question command ≡ true → TakesEffect broker_primitives s command out → IsVerifiedAs
  TakesEffect-question (GetPact path) question (text, has, is) = (Shown (shows.Pact text), is, λ no. no)
  TakesEffect-question (GetBranchPact provider consumer branch) question (v, there, (text, has, is)) = (Shown (shows.Pact text), is, λ no. no)
  TakesEffect-question (GetEnvironment e) question (marks, there, (items, deployed, (versions, released, is))) = (Shown (shows.Environment e marks items versions), is, λ no. no)
  TakesEffect-question (CanIDeploy v e) question (marks, there, (permitted, faults, judged, is)) = (Shown (shows.Gate e marks permitted faults), is, λ no. no)
  TakesEffect-question (GetMatrix v) question (rows, listed, is) = (Shown (shows.Matrix rows), is, λ no. no)
  TakesEffect-question (PutTeam team token) question it = absurd (cc)
  TakesEffect-question (PutPacticipant p team) question it = absurd (cc)
  TakesEffect-question (PutEnvironment e marks) question it = absurd (cc)
  TakesEffect-question (PutGrant team e) question it = absurd (cc)
  TakesEffect-question (DeleteGrant team e) question it = absurd (cc)
  TakesEffect-question (PutVersion v branch) question it = absurd (cc)
  TakesEffect-question (PutPact path file) question it = absurd (cc)
  TakesEffect-question (PostResult path report success) question it = absurd (cc)
  TakesEffect-question (PostReplies path report replies) question it = absurd (cc)
  TakesEffect-question (Deploy e v instance) question it = absurd (cc)
  TakesEffect-question (Undeploy e v instance) question it = absurd (cc)
  TakesEffect-question (Release e v) question it = absurd (cc)
  TakesEffect-question (EndSupport e v) question it = absurd (cc)
  TakesEffect-question (Malformed fault) question it = absurd (cc)

  StepOfCaller-question : (caller : Caller) (command : Command) → is_question command ≡ true → StepOfCaller broker_primitives s caller command out → IsVerifiedAs
  StepOfCaller-question caller command question (None, finds, it) = elim (refused-or_returned command (first_missing s command) (is_allowed s caller command) (TakesEffect broker_primitives s command out) it) [
    | inl takes ↦ TakesEffect-question command question takes
    | inr returned ↦ returned
  ]
  StepOfCaller-question caller command question (Some fault, finds, is) = (BadForm fault, is, λ no. no)

  -- so it is of each step of a question
  returned : (token : Option Text) (command : Command) → is_question command ≡ true → Step broker_primitives s token command out → IsVerifiedAs
  returned token command question (None, calls, is) = (Denied KnownCaller, is, λ no. no)
  returned token command question (Some caller, calls, it) = StepOfCaller-question caller command question it

-- no pattern is asked
ComparesPattern-no_question : (s : Broker) (caller : Caller) (command : Command) → is_question command ≡ true → ComparesPattern s caller command → ⊥
ComparesPattern-no_question s caller (GetPact path) question it = it
ComparesPattern-no_question s caller (GetBranchPact provider consumer branch) question it = it
ComparesPattern-no_question s caller (GetEnvironment e) question it = it
ComparesPattern-no_question s caller (CanIDeploy v e) question it = it
ComparesPattern-no_question s caller (GetMatrix v) question it = it
ComparesPattern-no_question s caller (PutTeam team token) question it = it
ComparesPattern-no_question s caller (PutPacticipant p team) question it = it
ComparesPattern-no_question s caller (PutEnvironment e marks) question it = it
ComparesPattern-no_question s caller (PutGrant team e) question it = it
ComparesPattern-no_question s caller (DeleteGrant team e) question it = it
ComparesPattern-no_question s caller (PutVersion v branch) question it = it
ComparesPattern-no_question s caller (PutPact path file) question it = it
ComparesPattern-no_question s caller (PostResult path report success) question it = it
ComparesPattern-no_question s caller (PostReplies path report replies) question it = absurd (cc)
ComparesPattern-no_question s caller (Deploy e v instance) question it = it
ComparesPattern-no_question s caller (Undeploy e v instance) question it = it
ComparesPattern-no_question s caller (Release e v) question it = it
ComparesPattern-no_question s caller (EndSupport e v) question it = it
ComparesPattern-no_question s caller (Malformed fault) question it = it

-- what is promised of a question
module _ {X : Type 0} (shown : Held X → State) (old : BrokerView X) (token : Text) (command : Command) (question : is_question command ≡ true) (answer : Answer) (new : BrokerView X) (it : Applied shown old (Some token) command answer new) where
  module _ (clean : HasCleanDisk (shown new.connection)) (going : old.is_stopped ≡ false) (works : ¬ (HasFailed (shown old.connection) (shown new.connection) faults.Store)) (s : Broker) (readable : HoldsReadable s (shown old.connection)) where
    no_store : answer ≡ Store → ⊥
    no_store is = elim (it.failure clean going is s readable) [
      | inl failed ↦ works failed
      | inr kept ↦ let done = kept.0 in let same = returned s done.0 (Some token) command question done.2 in same.2 (subst (λ (out : Transition). IsDone out.answer) same.1 done.1)
    ]

    runs : (b : Bool) → new.is_stopped ≡ b → new.is_stopped ≡ false
    runs false is = is
    runs true is = absurd (no_store ((it.stops going).0 is))

    by_step : Steps s (Some token) command (shown new.connection) answer → IsOnlyAsked shown s token command answer new
    by_step steps =
        let same = returned s (record { answer = answer; state = steps.next }) (Some token) command question steps.step in
        let state : steps.next ≡ s = ap (λ (out : Transition). out.state) same.1 in
        record {
          answered = inl (subst (λ (t : Broker). Step broker_primitives s (Some token) command (record { answer = answer; state = t })) state steps.step);
          holds = subst (λ (t : Broker). HoldsState t (shown new.connection)) state steps.keeps;
          runs = runs new.is_stopped refl;
        }

    by_pattern : KeepsAtPattern s (Some token) command (shown new.connection) answer → ⊥
    by_pattern at = let asked = at.1 in ComparesPattern-no_question s asked.0 command question asked.2

    pub goes_on : IsOnlyAsked shown s token command answer new
    goes_on = elim (it.applies clean going s readable.held) [
      | inl steps ↦ by_step steps
      | inr (inl pattern) ↦ absurd (by_pattern pattern)
      | inr (inr (inl memory)) ↦ record { answered = inr memory.0; holds = memory.1; runs = runs new.is_stopped refl }
      | inr (inr (inr failed)) ↦ absurd (no_store failed.0)
    ]
