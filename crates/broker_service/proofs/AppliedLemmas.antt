-- What the broker's call leaves, put together from what its transaction leaves.
use Rattle.std.{specs.Prelude.{◌≢◌}, proofs.Common.{◌≡◌, ◌↔◌, ◌⊎◌, inl, inr, Option, Result, Ok, Err, IfOk, false, IsTrue, refl, ap, sym, subst, ◌∙◌}}
use Rattle.sqlite.specs.{Held.{Held}, State.{State, HasCleanDisk}}
use Rattle.table_access.specs.{Calls.{HasFailed, KeepsLastCommit}, declared.StoreFault.{StoreFault}}
use Rattle.broker_core.specs.{Laws.{IsDone}, State.{State as Broker}, Text.{Text}, declared.answer.Answer.{Answer}, declared.command.Command.{Command}}
use Rattle.broker_core.specs.SoundNames.{AreNames}
use Rattle.broker_database.specs.{BrokerView.{BrokerView}, Calls.{Applied}, Causes.{HoldsReadable, IsNotKept, StaysReadable}}
use Rattle.broker_database.specs.{Ends.{Applies, IsAsBefore, IsUnchangedUnless}, Transaction.{returned}, declared.ending.Failure.{Failure}}
use Rattle.broker_database.{specs.{declared.ending.Failure.TheVariants.{Call, Commit}, Stored.{HoldsState}}, proofs.Transaction.{Survives-refl}}
use Rattle.broker_service.specs.Transacted.{AppliesOrFails, IsNoFailure, Transacted, failed_as}
use Rattle.broker_service.proofs.EndLemmas.{RecordsExactly-deployed, RecordsExactly-released}
use Rattle.table_access.specs.declared.StoreFault.TheVariants as fault
use Rattle.broker_core.specs.declared.answer.Answer.TheVariants as answers

-- the answer that reports a transaction's result
abbrev pub answer_of : Result Answer StoreFault → Answer
answer_of (Ok answer) = answer
answer_of (Err why) = failed_as why

Applies-answer_of : (s : Broker) (token : Option Text) (command : Command) (new : State) (r : Result Answer StoreFault) → AppliesOrFails s token command new r → Applies s token command new (answer_of r)
Applies-answer_of s token command new (Ok answer) (inl steps) = inl steps
Applies-answer_of s token command new (Ok answer) (inr pattern) = inr (inl pattern)
Applies-answer_of s token command new (Err fault.Memory) kept = inr (inr (inl (refl, kept)))
Applies-answer_of s token command new (Err fault.Store) either = inr (inr (inr (refl, either)))

IsAsBefore-not_done : (old new : State) (r : Result Answer StoreFault) → IsUnchangedUnless IsDone old new r → answer_of r ≢ answers.Store → ¬ (IsDone (answer_of r)) → IsAsBefore old new
IsAsBefore-not_done old new (Ok answer) it other undone = it undone
IsAsBefore-not_done old new (Err fault.Memory) it other undone = it
IsAsBefore-not_done old new (Err fault.Store) it other undone = absurd (other refl)

KeepsLastCommit-store : (old new : State) (r : Result Answer StoreFault) → IsUnchangedUnless IsDone old new r → answer_of r ≡ answers.Store → KeepsLastCommit old new
KeepsLastCommit-store old new (Ok answer) it is = (it (subst (λ (a : Answer). ¬ (IsDone a)) (sym is) (λ none. none))).commit
KeepsLastCommit-store old new (Err fault.Memory) it is = it.commit
KeepsLastCommit-store old new (Err fault.Store) it is = it

answer_of-not_stopped : (r : Result Answer StoreFault) → IfOk r IsNoFailure → answer_of r ≢ answers.Stopped
answer_of-not_stopped (Ok answer) it is = it.2 is
answer_of-not_stopped (Err fault.Memory) it is = absurd (cc)
answer_of-not_stopped (Err fault.Store) it is = absurd (cc)

-- `Store` is answered only if the result is its fault
answer_of-store : (r : Result Answer StoreFault) → IfOk r IsNoFailure → answer_of r ≡ answers.Store → r ≡ Err fault.Store
answer_of-store (Ok answer) it is = absurd (it.1 is)
answer_of-store (Err fault.Memory) it is = absurd (cc)
answer_of-store (Err fault.Store) it is = refl

-- a transaction whose fault is Store failed by it in a call, or its COMMIT was refused
returned-store : (r : Result Answer Failure) → returned r ≡ Err fault.Store → (r ≡ Err (Call fault.Store)) ⊎ ((why : StoreFault) × (r ≡ Err (Commit why)))
returned-store (Ok answer) is = absurd (cc)
returned-store (Err (Call why)) is = inl (let same : why ≡ fault.Store = (let h = is in cc) in ap (λ (f : StoreFault). let r : Result Answer Failure = Err (Call f) in r) same)
returned-store (Err (Commit why)) is = inr (why, refl)

module _ {X : Type 0} (shown : Held X → State) where
  -- why it did, of a broker that held a state that can be read back
  Transacted-store_cause : (token : Option Text) (command : Command) (r : Result Answer Failure) (old new : Held X) → Transacted shown token command old new r → HasCleanDisk (shown new) → AreNames command
      → (s : Broker) → HoldsReadable s (shown old) → returned r ≡ Err fault.Store → HasFailed (shown old) (shown new) fault.Store ⊎ IsNotKept shown s token command old new
  Transacted-store_cause token command r old new it clean named s holds is = elim (returned-store r is) [
    | inl call ↦ elim (it.failure clean named s holds call) [ inl failed ↦ inl failed | inr inside ↦ inr (inside.0, λ room. inl (inside.1 room)) ]
    | inr commit ↦ elim (it.refused clean s holds commit.0 commit.1) [ inl failed ↦ inl failed | inr lacks ↦ inr (lacks.1, λ room. inr lacks.2) ]
  ]

  -- what a running broker's transaction leaves
  pub Applied-of_transacted : (old : BrokerView X) (token : Option Text) (command : Command) (r : Result Answer Failure) (answer : Answer) (new : BrokerView X) → answer ≡ answer_of (returned r)
      → Transacted shown token command old.connection new.connection r
      → IfOk (returned r) IsNoFailure → (IsTrue new.is_stopped ↔ (answer ≡ answers.Store)) → old.is_stopped ≡ false → AreNames command × StaysReadable token command → Applied shown old token command answer new
  Applied-of_transacted old token command r answer new is it answered stops running (named, reads) = record {
    readable = reads;
    applies = λ clean _. applies clean;
    deployments = λ clean _ step s holds. RecordsExactly-deployed s token command _ answer (applies clean s holds) step;
    releases = λ clean _ step s holds. RecordsExactly-released s token command _ answer (applies clean s holds) step;
    unchanged = λ clean _ other undone. IsAsBefore-not_done _ _ (returned r) (it.unchanged clean) (subst (λ (a : Answer). a ≢ answers.Store) is other) (subst (λ (a : Answer). ¬ (IsDone a)) is undone);
    fails = λ clean store. KeepsLastCommit-store _ _ (returned r) (it.unchanged clean) (sym is ∙ store);
    failure = λ clean _ store s holds. Transacted-store_cause token command r old.connection new.connection it clean named s holds (answer_of-store (returned r) answered (sym is ∙ store));
    room = λ clean _. it.room clean;
    over = it.over;
    stops = λ _. stops;
    stopped = λ stopped. absurd (cc);
    runs = λ _. subst (λ (a : Answer). a ≢ answers.Stopped) (sym is) (answer_of-not_stopped (returned r) answered);
    survives = it.survives;
  }
    where
      applies : HasCleanDisk (shown new.connection) → (s : Broker) → HoldsState s (shown old.connection) → Applies s token command (shown new.connection) answer
      applies clean s holds = subst (λ (a : Answer). Applies s token command (shown new.connection) a) (sym is) (Applies-answer_of s token command (shown new.connection) (returned r) (it.ends clean s holds))

  -- what a stopped broker is left as
  pub Applied-stopped : (b : BrokerView X) (token : Option Text) (command : Command) → IsTrue b.is_stopped → StaysReadable token command → Applied shown b token command answers.Stopped b
  Applied-stopped b token command is reads = record {
    readable = reads;
    applies = λ clean running. absurd (cc);
    deployments = λ clean running. absurd (cc);
    releases = λ clean running. absurd (cc);
    unchanged = λ clean running. absurd (cc);
    fails = λ clean store. absurd (cc);
    failure = λ clean running. absurd (cc);
    room = λ clean running. absurd (cc);
    over = λ clean was. was;
    stops = λ running. absurd (cc);
    stopped = λ _. (refl, refl);
    runs = λ running. absurd (cc);
    survives = ((shown b.connection).now.trees, Survives-refl (shown b.connection));
  }
