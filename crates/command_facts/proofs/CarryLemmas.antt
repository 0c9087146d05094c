-- How a command is put together from calls on the tables, with why it fails: one lemma per return. The states, what a
-- query finds and what a command does are inferred from the records that state the calls.
use Rattle.std.specs.{Prelude.{⊤}, List.{AllByRecursion}}
use Rattle.std.proofs.{Common.{Bool, true, false, ◌≡◌, ◌≤◌, ℕ, List, Ok, Err, Result, inl, inr, refl, sym, subst, ◌∙◌, arith}, lemmas.Result.{IfErr-weaker}}
use Rattle.sqlite.specs.State.{State}
use Rattle.table_access.specs.{Calls.{HasFailed}, declared.StoreFault.{StoreFault}}
use Rattle.table_access.proofs.CallLemmas.{CallsBetween-weaken, CallsBetween-then_failed_call, CallsBetween-no_call, CallsBetween-then_call, CallsBetween-pass_Err, CallsBetween-may_take_memory}
use Rattle.broker_core.specs.{State.{State as Broker}, Change.{Transition, unchanged_with, done}, declared.answer.Answer.{Answer}}
use Rattle.broker_core.specs.{declared.answer.Answer.TheVariants.{Done}, declared.answer.Detail.TheVariants.{Plain}}
use Rattle.broker_tables.specs.Failures.{LooksUpBetween, FailsOnlyBy, FailsByStoreFromBetween}
use Rattle.broker_tables.specs.Holds.{Holds, ChangesTakingBetween, ChangesBetween, QueriesBetween}
use Rattle.broker_tables.specs.{ChangeRefusals.{FailsByStoreTakingBetween, FailsByStoreUnlessBetween}, Room.{enough}}
use Rattle.broker_tables.proofs.FailLemmas.{FailsByStoreFromBetween-after_query, FailsFromBetween-no_change, FailsFromBetween-after_query, FailsFromBetween-weaken, FailsFromBetween-change_after_query, FailsByStoreTakingBetween-of_unless}
use Rattle.broker_tables.proofs.{QueryLemmas.{Holds-same_database}, RoomLemmas.{is_counted}}
use Rattle.command_facts.specs.Performs.{PerformsBetween, PerformsWhereBetween, FailsBetween, CarriesBetween, IsToChange, returned_done}
use Rattle.command_facts.proofs.PerformLemmas.{HoldsAfter-unchanged, PerformsWhereBetween-query_answer, PerformsWhereBetween-query_changes, PerformsWhereBetween-query_then}

-- ---- why a command fails

-- a command that fails only by the store or memory meets also the law of one that may be refused its change
FailsBetween-of_failure : (changes : Bool) (old new : State) (r : Result Answer StoreFault) (TooBig : Type 0) (Open : Broker → Type 0) (Q : Broker → Transition → Type 0) → FailsByStoreFromBetween old new r Open → FailsBetween changes old new r TooBig Open Q
FailsBetween-of_failure true old new r TooBig Open Q why = FailsFromBetween-no_change TooBig old new r Open (IsToChange Q) why
FailsBetween-of_failure false old new r TooBig Open Q why = why

-- a command that answers doesn't fail
FailsBetween-of_answer : (changes : Bool) (old new : State) (answer : Answer) (TooBig : Type 0) (Open : Broker → Type 0) (Q : Broker → Transition → Type 0) → FailsBetween changes old new (Ok answer) TooBig Open Q
FailsBetween-of_answer changes old new answer TooBig Open Q = FailsBetween-of_failure changes old new (Ok answer) TooBig Open Q (λ clean s here may. tt)

-- a command after a query fails for the causes for which it fails by itself
FailsBetween-after_query : {A : Type 0} {any : Bool} (changes : Bool) (old mid new : State) (x : A) (r : Result Answer StoreFault) (TooBig : Type 0) (P : A → Broker → Type 0) (Next Open Then : Broker → Type 0) (Q R : Broker → Transition → Type 0)
    → ((s : Broker) → Holds old.now s → Open s → P x s → Then s × ((out : Transition) → Q s out → R s out)) → QueriesBetween any old mid (Ok x) P → PerformsWhereBetween mid new Next Q r → FailsBetween changes mid new r TooBig Then Q → FailsBetween changes old new r TooBig Open R
FailsBetween-after_query true old mid new x r TooBig P Next Open Then Q R more one two why =
    FailsFromBetween-after_query TooBig old mid new x r P _ Open Then (IsToChange R) (IsToChange Q) (λ s held may returned. let go = more s held may returned in (go.0, λ made. (made.0, made.1, go.1 _ made.2))) one two why
FailsBetween-after_query false old mid new x r TooBig P Next Open Then Q R more one two why =
    FailsByStoreFromBetween-after_query old mid new x r P _ Open Then (λ s held may returned. (more s held may returned).0) one two why

-- ---- one call after another

-- nothing is called
pub CarriesBetween-answer : {changes : Bool} {c : State} {answer : Answer} {TooBig : Type 0} {Allows Open : Broker → Type 0} {Q : Broker → Transition → Type 0} → ((s : Broker) → Allows s → Q s (unchanged_with s answer)) → CarriesBetween changes c c Allows Open TooBig Q (Ok answer)
CarriesBetween-answer {changes} {c} {answer} {TooBig} {Allows} {Open} {Q} f = record {
  answers = CallsBetween-no_call c answer _ (λ s held may. (s, f s may, HoldsAfter-unchanged c c s refl held));
  failure = FailsBetween-of_answer changes c c answer TooBig Open Q;
}

-- a query, and an answer
pub CarriesBetween-query_answer : {A : Type 0} {any changes : Bool} {old new : State} {x : A} {answer : Answer} {TooBig : Type 0} {P : A → Broker → Type 0} {Allows Open : Broker → Type 0} {Q : Broker → Transition → Type 0}
    → ((s : Broker) → Allows s → P x s → Q s (unchanged_with s answer)) → LooksUpBetween any old new (Ok x) P → CarriesBetween changes old new Allows Open TooBig Q (Ok answer)
CarriesBetween-query_answer {A} {any} {changes} {old} {new} {x} {answer} {TooBig} {P} {Allows} {Open} {Q} f it = record { answers = PerformsWhereBetween-query_answer old new x answer Allows P Q f it.call; failure = FailsBetween-of_answer changes old new answer TooBig Open Q }

-- a command that CarriesBetween-answer more
FailsBetween-weaker : (changes : Bool) (old new : State) (r : Result Answer StoreFault) (Long TooBig : Type 0) (Allows : Broker → Type 0) (Q R : Broker → Transition → Type 0)
    → (Long → TooBig) → ((s : Broker) (out : Transition) → Q s out → R s out) → FailsBetween changes old new r Long Allows Q → FailsBetween changes old new r TooBig Allows R
FailsBetween-weaker true old new r Long TooBig Allows Q R long more why = FailsFromBetween-weaken Long TooBig old new r Allows (IsToChange R) long
    (λ clean s here may. IfErr-weaker r _ _ (λ e is. elim is [ inl failure ↦ inl failure | inr made ↦ inr ((made.0.0, made.0.1, more s _ made.0.2), made.1) ]) (why clean s here may))
FailsBetween-weaker false old new r Long TooBig Allows Q R long more why = why

pub CarriesBetween-weaker : {changes : Bool} {old new : State} {r : Result Answer StoreFault} {Long TooBig : Type 0} {Allows Open : Broker → Type 0} {Q R : Broker → Transition → Type 0}
    → ((s : Broker) (out : Transition) → Q s out → R s out) → (Long → TooBig) → CarriesBetween changes old new Allows Open Long Q r → CarriesBetween changes old new Allows Open TooBig R r
CarriesBetween-weaker {changes} {old} {new} {r} {Long} {TooBig} {Allows} {Open} {Q} {R} more long it = record {
  answers = CallsBetween-weaken old new r _ _ (λ a h s held may. let next = h s held may in (next.0, more s _ next.1, next.2)) it.answers;
  failure = FailsBetween-weaker changes old new r Long TooBig Open Q R long more it.failure;
}

-- a query, and then a command; from other states that are open to it than those that allow it
pub CarriesBetween-query_then_from : {A : Type 0} {any changes : Bool} {old mid new : State} {x : A} {r : Result Answer StoreFault} {TooBig : Type 0} {P : A → Broker → Type 0} {Allows Next Open Then : Broker → Type 0} {Q R : Broker → Transition → Type 0}
    → ((s : Broker) → Allows s → P x s → Next s × ((out : Transition) → Q s out → R s out)) → ((s : Broker) → Holds old.now s → Open s → P x s → Then s × ((out : Transition) → Q s out → R s out))
    → LooksUpBetween any old mid (Ok x) P → CarriesBetween changes mid new Next Then TooBig Q r → CarriesBetween changes old new Allows Open TooBig R r
CarriesBetween-query_then_from {A} {any} {changes} {old} {mid} {new} {x} {r} {TooBig} {P} {Allows} {Next} {Open} {Then} {Q} {R} more fails one two = record {
  answers = PerformsWhereBetween-query_then old mid new x r Allows P Next Q R more one.call two.answers;
  failure = FailsBetween-after_query changes old mid new x r TooBig P Next Open Then Q R fails one.call two.answers two.failure;
}

-- and from the same
pub CarriesBetween-query_then : {A : Type 0} {any changes : Bool} {old mid new : State} {x : A} {r : Result Answer StoreFault} {TooBig : Type 0} {P : A → Broker → Type 0} {Allows Next : Broker → Type 0} {Q R : Broker → Transition → Type 0}
    → ((s : Broker) → Allows s → P x s → Next s × ((out : Transition) → Q s out → R s out)) → LooksUpBetween any old mid (Ok x) P → CarriesBetween changes mid new Next Next TooBig Q r → CarriesBetween changes old new Allows Allows TooBig R r
CarriesBetween-query_then more one two = CarriesBetween-query_then_from more (λ s held may returned. more s may returned) one two

-- a query, and then a command that CarriesBetween-query_removal no memory and whose change is refused at no state
pub CarriesBetween-query_then_unrefused : {A : Type 0} {any : Bool} {old mid new : State} {x : A} {r : Result Answer StoreFault} {TooBig : Type 0} {P : A → Broker → Type 0} {Allows Next : Broker → Type 0} {Q R : Broker → Transition → Type 0}
    → ((s : Broker) → Allows s → P x s → Next s × ((out : Transition) → Q s out → R s out)) → LooksUpBetween any old mid (Ok x) P → PerformsWhereBetween mid new Next Q r → FailsOnlyBy mid new r (HasFailed mid new) → CarriesBetween false old new Allows (λ _. ⊤) TooBig R r
CarriesBetween-query_then_unrefused {A} {any} {old} {mid} {new} {x} {r} {TooBig} {P} {Allows} {Next} {Q} {R} more one two why = record {
  answers = PerformsWhereBetween-query_then old mid new x r Allows P Next Q R more one.call two;
  failure = FailsByStoreFromBetween-after_query old mid new x r P _ (λ _. ⊤) (λ _. ⊤) (λ s held may returned. tt) one.call two (λ clean s here free. IfErr-weaker r _ _ (λ e is. inl is) (why clean s here));
}

-- a query, and then a listing that fails only by the store or memory at the states that the query's answer describes
pub CarriesBetween-query_listing_if : {A : Type 0} {any changes : Bool} {old mid new : State} {x : A} {r : Result Answer StoreFault} {TooBig : Type 0} {P : A → Broker → Type 0} {Allows Open Then : Broker → Type 0} {Q : Answer → Broker → Type 0} {R : Broker → Transition → Type 0}
    → ((s : Broker) → Allows s → P x s → (answer : Answer) → Q answer s → R s (unchanged_with s answer)) → ((s : Broker) → Holds old.now s → P x s → Then s)
    → LooksUpBetween any old mid (Ok x) P → QueriesBetween true mid new r Q → FailsByStoreFromBetween mid new r Then → CarriesBetween changes old new Allows Open TooBig R r
CarriesBetween-query_listing_if {A} {any} {changes} {old} {mid} {new} {x} {r} {TooBig} {P} {Allows} {Open} {Then} {Q} {R} more found one two why = record {
  answers = CallsBetween-then_call old mid new x r _ _ _ (λ p b q s held may. let first = p s held in let second = q s (Holds-same_database old mid s first.1 held) in (s, more s may first.0 b second.0, HoldsAfter-unchanged old new s (second.1 ∙ first.1) held)) one.call two;
  failure = FailsBetween-of_failure changes old new r TooBig Open R (FailsByStoreFromBetween-after_query old mid new x r P _ Open Then (λ s held may returned. found s held returned) one.call two why);
}

-- and a listing that fails only by the store or memory at every state
pub CarriesBetween-query_listing : {A : Type 0} {any changes : Bool} {old mid new : State} {x : A} {r : Result Answer StoreFault} {TooBig : Type 0} {P : A → Broker → Type 0} {Allows Open : Broker → Type 0} {Q : Answer → Broker → Type 0} {R : Broker → Transition → Type 0}
    → ((s : Broker) → Allows s → P x s → (answer : Answer) → Q answer s → R s (unchanged_with s answer)) → LooksUpBetween any old mid (Ok x) P → LooksUpBetween true mid new r Q → CarriesBetween changes old new Allows Open TooBig R r
CarriesBetween-query_listing more one two = CarriesBetween-query_listing_if {Then = λ _. ⊤} more (λ s held returned. tt) one two.call (λ clean s here free. two.failure clean s here)

-- ---- a query, and then changes

PerformsWhereBetween-returned_done : {A : Type 0} {any : Bool} (taken : ℕ) → taken ≤ enough → (old mid new : State) (x : A) (r : Result (Unit {0}) StoreFault) (P : A → Broker → Type 0) (Allows : Broker → Type 0) (Next : Broker → Broker → Type 0) (Q : Broker → Transition → Type 0)
    → ((s : Broker) → Allows s → P x s → (t : Broker) × Next s t × Q s (done t)) → QueriesBetween any old mid (Ok x) P → ChangesTakingBetween taken mid new r Next → PerformsWhereBetween old new Allows Q (returned_done r)
PerformsWhereBetween-returned_done taken few old mid new x (Ok u) P Allows Next Q more one two = PerformsWhereBetween-query_changes taken few old mid new x u (Done Plain) Allows P Next Q more one two
PerformsWhereBetween-returned_done taken few old mid new x (Err e) P Allows Next Q more one two = CallsBetween-then_failed_call old mid new x e _ _ _ one (CallsBetween-may_take_memory mid new (Err e) _ two)

FailsBetween-query_changes : {A : Type 0} {any : Bool} (taken numbers : ℕ) → numbers ≤ enough → (old mid new : State) (x : A) (r : Result (Unit {0}) StoreFault) (P : A → Broker → Type 0) (Open Made : Broker → Type 0) (Next : Broker → Broker → Type 0) (Q : Broker → Transition → Type 0) (Long TooBig : Type 0) → (Long → TooBig)
    → ((s : Broker) → Open s → P x s → Made s × IsToChange Q s) → QueriesBetween any old mid (Ok x) P → ChangesTakingBetween taken mid new r Next → FailsByStoreTakingBetween numbers mid new r Long Made → FailsBetween true old new (returned_done r) TooBig Open Q
FailsBetween-query_changes taken numbers few old mid new x (Ok u) P Open Made Next Q Long TooBig long more one two why = λ clean s here may. tt
FailsBetween-query_changes taken numbers few old mid new x (Err e) P Open Made Next Q Long TooBig long more one two why =
    FailsFromBetween-weaken {A = Unit {0}} Long TooBig old new (Err e) Open (IsToChange Q) long
    (FailsFromBetween-change_after_query Long old mid new x (Err e) P _ numbers few Made Open (IsToChange Q) (λ s held may returned. more s may returned) one two why)

FailsBetween-query_removal : {A : Type 0} {any : Bool} (old mid new : State) (x : A) (r : Result (Unit {0}) StoreFault) (P : A → Broker → Type 0) (Allows : Broker → Type 0) (Next : Broker → Broker → Type 0) (Q : Broker → Transition → Type 0) (TooBig : Type 0)
    → QueriesBetween any old mid (Ok x) P → ChangesBetween mid new r Next → FailsOnlyBy mid new r (HasFailed mid new) → FailsBetween false old new (returned_done r) TooBig Allows Q
FailsBetween-query_removal old mid new x (Ok u) P Allows Next Q TooBig one two why = λ clean s here may. tt
FailsBetween-query_removal old mid new x (Err e) P Allows Next Q TooBig one two why =
    FailsByStoreFromBetween-after_query {B = Unit {0}} old mid new x (Err e) P _ Allows (λ _. ⊤) (λ s held may returned. tt) one two (λ clean s here free. inl (why clean s here))

-- changes that take so many row numbers of a table, and are refused if fewer are left
pub CarriesBetween-query_changes_from : {A : Type 0} {any : Bool} {old mid new : State} {x : A} {r : Result (Unit {0}) StoreFault} {answer : Result Answer StoreFault} {Long TooBig : Type 0} {P : A → Broker → Type 0} {Allows Open Made : Broker → Type 0} {Next : Broker → Broker → Type 0} {Q : Broker → Transition → Type 0}
    → (taken numbers : ℕ) → taken ≤ enough → numbers ≤ enough → ((s : Broker) → Allows s → P x s → (t : Broker) × Next s t × Q s (done t)) → ((s : Broker) → Open s → P x s → Made s × IsToChange Q s) → (Long → TooBig)
    → answer ≡ returned_done r → LooksUpBetween any old mid (Ok x) P → ChangesTakingBetween taken mid new r Next → FailsByStoreTakingBetween numbers mid new r Long Made → CarriesBetween true old new Allows Open TooBig Q answer
CarriesBetween-query_changes_from {A} {any} {old} {mid} {new} {x} {r} {answer} {Long} {TooBig} {P} {Allows} {Open} {Made} {Next} {Q} taken numbers few some more fails long is one two why =
    subst (λ (a : Result Answer StoreFault). CarriesBetween true old new Allows Open TooBig Q a) (sym is) (record {
      answers = PerformsWhereBetween-returned_done taken few old mid new x r P Allows Next Q more one.call two;
      failure = FailsBetween-query_changes taken numbers some old mid new x r P Open Made Next Q Long TooBig long fails one.call two why;
    })

pub CarriesBetween-query_changes : {A : Type 0} {any : Bool} {old mid new : State} {x : A} {r : Result (Unit {0}) StoreFault} {answer : Result Answer StoreFault} {Long TooBig : Type 0} {P : A → Broker → Type 0} {Allows Made : Broker → Type 0} {Next : Broker → Broker → Type 0} {Q : Broker → Transition → Type 0}
    → (taken numbers : ℕ) → taken ≤ enough → numbers ≤ enough → ((s : Broker) → Allows s → P x s → Made s × ((t : Broker) × Next s t × Q s (done t))) → (Long → TooBig)
    → answer ≡ returned_done r → LooksUpBetween any old mid (Ok x) P → ChangesTakingBetween taken mid new r Next → FailsByStoreTakingBetween numbers mid new r Long Made → CarriesBetween true old new Allows Allows TooBig Q answer
CarriesBetween-query_changes taken numbers few some more long is one two why =
    CarriesBetween-query_changes_from taken numbers few some (λ s may returned. (more s may returned).1) (λ s may returned. let it = more s may returned in (it.0, (Plain, it.1.0, it.1.2))) long is one two why

-- one change, of these tables
pub CarriesBetween-query_change_from : {A : Type 0} {any : Bool} {old mid new : State} {x : A} {r : Result (Unit {0}) StoreFault} {answer : Result Answer StoreFault} {Long TooBig : Type 0} {P : A → Broker → Type 0} {Allows Open Made : Broker → Type 0} {Next : Broker → Broker → Type 0} {Q : Broker → Transition → Type 0}
    → (tables : List (List ℕ)) → AllByRecursion (λ name. is_counted name ≡ true) tables → ((s : Broker) → Allows s → P x s → (t : Broker) × Next s t × Q s (done t)) → ((s : Broker) → Open s → P x s → Made s × IsToChange Q s) → (Long → TooBig)
    → answer ≡ returned_done r → LooksUpBetween any old mid (Ok x) P → ChangesBetween mid new r Next → FailsByStoreUnlessBetween mid new r tables Long Made → CarriesBetween true old new Allows Open TooBig Q answer
CarriesBetween-query_change_from tables counted more fails long is one two why = CarriesBetween-query_changes_from 2 1 (omega arith) (omega arith) more fails long is one two (FailsByStoreTakingBetween-of_unless _ _ _ _ tables counted 1 (omega arith) _ why)

-- one change, allowed at each state from which it leads to another
pub CarriesBetween-query_change : {A : Type 0} {any : Bool} {old mid new : State} {x : A} {r : Result (Unit {0}) StoreFault} {answer : Result Answer StoreFault} {Long TooBig : Type 0} {P : A → Broker → Type 0} {Allows : Broker → Type 0} {Next : Broker → Broker → Type 0} {Q : Broker → Transition → Type 0}
    → (tables : List (List ℕ)) → AllByRecursion (λ name. is_counted name ≡ true) tables → ((s : Broker) → Allows s → P x s → (t : Broker) × Next s t × Q s (done t)) → (Long → TooBig)
    → answer ≡ returned_done r → LooksUpBetween any old mid (Ok x) P → ChangesBetween mid new r Next → FailsByStoreUnlessBetween mid new r tables Long (λ s. (t : Broker) × Next s t) → CarriesBetween true old new Allows Allows TooBig Q answer
CarriesBetween-query_change tables counted more long is one two why =
    CarriesBetween-query_change_from tables counted more (λ s may returned. let it = more s may returned in ((it.0, it.1), (Plain, it.0, it.2))) long is one two why

-- one that CarriesBetween-query_removal a row away, which is never refused
pub CarriesBetween-query_removal : {A : Type 0} {any : Bool} {old mid new : State} {x : A} {r : Result (Unit {0}) StoreFault} {answer : Result Answer StoreFault} {TooBig : Type 0} {P : A → Broker → Type 0} {Allows Open : Broker → Type 0} {Next : Broker → Broker → Type 0} {Q : Broker → Transition → Type 0}
    → ((s : Broker) → Allows s → P x s → (t : Broker) × Next s t × Q s (done t)) → answer ≡ returned_done r → LooksUpBetween any old mid (Ok x) P → ChangesBetween mid new r Next → FailsOnlyBy mid new r (HasFailed mid new) → CarriesBetween false old new Allows Open TooBig Q answer
CarriesBetween-query_removal {A} {any} {old} {mid} {new} {x} {r} {answer} {TooBig} {P} {Allows} {Open} {Next} {Q} more is one two why =
    subst (λ (a : Result Answer StoreFault). CarriesBetween false old new Allows Open TooBig Q a) (sym is) (record {
      answers = PerformsWhereBetween-returned_done 2 (omega arith) old mid new x r P Allows Next Q more one.call two;
      failure = FailsBetween-query_removal old mid new x r P Open Next Q TooBig one.call two why;
    })

-- ---- for what is stated in two clauses

-- from any state
pub PerformsBetween-of_carries : {changes : Bool} {old new : State} {r : Result Answer StoreFault} {TooBig : Type 0} {Q : Broker → Transition → Type 0} → CarriesBetween changes old new (λ _. ⊤) (λ _. ⊤) TooBig Q r → PerformsBetween old new Q r
PerformsBetween-of_carries {changes} {old} {new} {r} {TooBig} {Q} it = CallsBetween-weaken old new r _ _ (λ a h s held. h s held tt) it.answers

-- what it does from any state it does from those that allow it
pub PerformsWhereBetween-of_performs : (old new : State) (r : Result Answer StoreFault) (Allows : Broker → Type 0) (Q : Broker → Transition → Type 0) → PerformsBetween old new Q r → PerformsWhereBetween old new Allows Q r
PerformsWhereBetween-of_performs old new r Allows Q it = CallsBetween-weaken old new r _ _ (λ a h s held may. h s held) it
