-- How a command is put together from calls on the tables.
use Rattle.std.proofs.Common.{Bool, true, ◌≡◌, ◌≤◌, ◌+◌, ℕ, Ok, Result, inl, refl, sym, subst, ◌∙◌, arith}
use Rattle.sqlite.specs.State.{State}
use Rattle.table_access.specs.declared.StoreFault.{StoreFault}
use Rattle.table_access.proofs.CallLemmas.{CallsBetween-weaken, CallsBetween-then_Ok, CallsBetween-then_call, CallsBetween-no_call}
use Rattle.broker_core.specs.{State.{State as Broker}, Change.{Transition, unchanged_with}, declared.answer.Answer.{Answer}, Machine.{StepOfCaller}}
use Rattle.broker_core.specs.{declared.command.Command.{Command}, declared.policy.Caller.{Caller}}
use Rattle.broker_tables.specs.Holds.{Holds, HoldsAfter, QueriesBetween, ChangesTakingBetween, ChangesBetween, ChangesAndAnswersBetween, AnswersTakingBetween}
use Rattle.broker_tables.{specs.Room.{TakesRoom, enough}, proofs.QueryLemmas.{Holds-same_database}}
use Rattle.broker_tables.proofs.RoomLemmas.{TakesRoom-same, TakesRoom-more, TakesRoom-trans}
use Rattle.command_facts.specs.{Performs.{PerformsBetween, PerformsWhereBetween, CallersStep}, Primitives.{broker_primitives}}

-- ---- the state that is held

-- if the database didn't change
pub HoldsAfter-unchanged : (old new : State) (s : Broker) → new.now ≡ old.now → Holds old.now s → HoldsAfter enough old new s
HoldsAfter-unchanged old new s same held = (Holds-same_database old new s same held, TakesRoom-same enough old.now new.now same)

-- after a query
pub HoldsAfter-after_query : (taken : ℕ) (old mid new : State) (t : Broker) → mid.now ≡ old.now → HoldsAfter taken mid new t → HoldsAfter taken old new t
HoldsAfter-after_query taken old mid new t same it = (it.0, subst (λ d. TakesRoom taken d new.now) same it.1)

-- after changes
HoldsAfter-enough : (taken : ℕ) → taken ≤ enough → (old new : State) (t : Broker) → HoldsAfter taken old new t → HoldsAfter enough old new t
HoldsAfter-enough taken few old new t it = (it.0, TakesRoom-more taken enough few old.now new.now it.1)

HoldsAfter-enough_after_query : (taken : ℕ) → taken ≤ enough → (old mid new : State) (t : Broker) → mid.now ≡ old.now → HoldsAfter taken mid new t → HoldsAfter enough old new t
HoldsAfter-enough_after_query taken few old mid new t same it = HoldsAfter-enough taken few old new t (HoldsAfter-after_query taken old mid new t same it)

-- if nothing is called
pub ChangesAndAnswersBetween-unchanged : {A : Type 0} (c : State) (a : A) (Allows : Broker → Type 0) (Next : A → Broker → Broker → Type 0) → ((s : Broker) → Allows s → Next a s s) → ChangesAndAnswersBetween c c (Ok a) Allows Next
ChangesAndAnswersBetween-unchanged c a Allows Next f = CallsBetween-no_call c a _ (λ s held may. (s, f s may, (held, TakesRoom-same 2 c.now c.now refl)))

-- ---- one call after another

-- nothing is called
pub PerformsBetween-answer : (c : State) (answer : Answer) (Q : Broker → Transition → Type 0) → ((s : Broker) → Q s (unchanged_with s answer)) → PerformsBetween c c Q (Ok answer)
PerformsBetween-answer c answer Q f = CallsBetween-no_call c answer _ (λ s held. (s, f s, HoldsAfter-unchanged c c s refl held))

-- a query, and an answer
pub PerformsBetween-query_answer : {A : Type 0} {any : Bool} (old new : State) (x : A) (answer : Answer) (P : A → Broker → Type 0) (Q : Broker → Transition → Type 0) → ((s : Broker) → P x s → Q s (unchanged_with s answer)) → QueriesBetween any old new (Ok x) P → PerformsBetween old new Q (Ok answer)
PerformsBetween-query_answer old new x answer P Q f it = CallsBetween-then_Ok old new x answer _ _ (λ h s held. (s, f s (h s held).0, HoldsAfter-unchanged old new s (h s held).1 held)) it

-- a query, and then a command
pub PerformsBetween-query_then : {A : Type 0} {any : Bool} (old mid new : State) (x : A) (r : Result Answer StoreFault) (P : A → Broker → Type 0) (Q R : Broker → Transition → Type 0) → ((s : Broker) → P x s → (out : Transition) → Q s out → R s out) → QueriesBetween any old mid (Ok x) P → PerformsBetween mid new Q r → PerformsBetween old new R r
PerformsBetween-query_then old mid new x r P Q R f one two = CallsBetween-then_call old mid new x r _ _ _ (λ p b q s held. let first = p s held in let next = q s (Holds-same_database old mid s first.1 held) in (next.0, f s first.0 _ next.1, HoldsAfter-after_query enough old mid new next.0 first.1 next.2)) one two

-- a command that is always a step
pub CallersStep-of_step : (old new : State) (r : Result Answer StoreFault) (caller : Caller) (given command : Command) → given ≡ command
    → PerformsBetween old new (λ s out. StepOfCaller broker_primitives s caller command out) r → PerformsBetween old new (CallersStep caller given) r
CallersStep-of_step old new r caller given command is it =
    subst (λ c. PerformsBetween old new (CallersStep caller c) r) (sym is)
    (CallsBetween-weaken old new r _ _ (λ answer h s held. let next = h s held in (next.0, λ sound. inl next.1, next.2)) it)

-- ---- commands that the state allows

-- a query whose answer shows that the state allows the command, and then the command
pub PerformsBetween-query_then_allowed : {A : Type 0} {any : Bool} (old mid new : State) (x : A) (r : Result Answer StoreFault) (P : A → Broker → Type 0) (Allows : Broker → Type 0) (Q R : Broker → Transition → Type 0)
    → ((s : Broker) → P x s → Allows s × ((out : Transition) → Q s out → R s out)) → QueriesBetween any old mid (Ok x) P → PerformsWhereBetween mid new Allows Q r → PerformsBetween old new R r
PerformsBetween-query_then_allowed old mid new x r P Allows Q R f one two =
    CallsBetween-then_call old mid new x r _ _ _ (λ p b q s held. let first = p s held in let go = f s first.0 in let next = q s (Holds-same_database old mid s first.1 held) go.0 in (next.0, go.1 _ next.1, HoldsAfter-after_query enough old mid new next.0 first.1 next.2)) one two

-- if the state allows it, a query and then a command
pub PerformsWhereBetween-query_then : {A : Type 0} {any : Bool} (old mid new : State) (x : A) (r : Result Answer StoreFault) (Allows : Broker → Type 0) (P : A → Broker → Type 0) (Next : Broker → Type 0) (Q R : Broker → Transition → Type 0)
    → ((s : Broker) → Allows s → P x s → Next s × ((out : Transition) → Q s out → R s out)) → QueriesBetween any old mid (Ok x) P → PerformsWhereBetween mid new Next Q r → PerformsWhereBetween old new Allows R r
PerformsWhereBetween-query_then old mid new x r Allows P Next Q R f one two =
    CallsBetween-then_call old mid new x r _ _ _ (λ p b q s held allowed. let first = p s held in let go = f s allowed first.0 in let next = q s (Holds-same_database old mid s first.1 held) go.0 in (next.0, go.1 _ next.1, HoldsAfter-after_query enough old mid new next.0 first.1 next.2)) one two

-- a query, and an answer
pub PerformsWhereBetween-query_answer : {A : Type 0} {any : Bool} (old new : State) (x : A) (answer : Answer) (Allows : Broker → Type 0) (P : A → Broker → Type 0) (Q : Broker → Transition → Type 0)
    → ((s : Broker) → Allows s → P x s → Q s (unchanged_with s answer)) → QueriesBetween any old new (Ok x) P → PerformsWhereBetween old new Allows Q (Ok answer)
PerformsWhereBetween-query_answer old new x answer Allows P Q f it = CallsBetween-then_Ok old new x answer _ _ (λ h s held allowed. (s, f s allowed (h s held).0, HoldsAfter-unchanged old new s (h s held).1 held)) it

-- a query, and changes
pub PerformsWhereBetween-query_changes : {A : Type 0} {any : Bool} (taken : ℕ) → taken ≤ enough → (old mid new : State) (x : A) (u : Unit {0}) (answer : Answer) (Allows : Broker → Type 0) (P : A → Broker → Type 0) (Next : Broker → Broker → Type 0) (Q : Broker → Transition → Type 0)
    → ((s : Broker) → Allows s → P x s → (t : Broker) × Next s t × Q s (record { answer = answer; state = t })) → QueriesBetween any old mid (Ok x) P → ChangesTakingBetween taken mid new (Ok u) Next → PerformsWhereBetween old new Allows Q (Ok answer)
PerformsWhereBetween-query_changes taken few old mid new x u answer Allows P Next Q f one two =
    CallsBetween-then_Ok old new u answer (λ _. (s : Broker) → Holds old.now s → Allows s → (t : Broker) × Q s (record { answer = answer; state = t }) × HoldsAfter enough old new t) _ (λ h. h)
    (CallsBetween-then_call old mid new x (Ok u) _ _ _ (λ p b q s held allowed. let first = p s held in let next = f s allowed first.0 in (next.0, next.2, HoldsAfter-enough_after_query taken few old mid new next.0 first.1 (q s (Holds-same_database old mid s first.1 held) next.0 next.1))) one two)

-- changes that answer
pub PerformsWhereBetween-change_answer : {A : Type 0} (taken : ℕ) → taken ≤ enough → (old new : State) (x : A) (answer : Answer) (Allows Takes : Broker → Type 0) (Next : A → Broker → Broker → Type 0) (Q : Broker → Transition → Type 0)
    → ((s : Broker) → Allows s → Takes s × ((t : Broker) → Next x s t → Q s (record { answer = answer; state = t }))) → AnswersTakingBetween taken old new (Ok x) Takes Next → PerformsWhereBetween old new Allows Q (Ok answer)
PerformsWhereBetween-change_answer taken few old new x answer Allows Takes Next Q f it =
    CallsBetween-then_Ok old new x answer _ _ (λ h s held allowed. let go = f s allowed in let next = h s held go.0 in (next.0, go.1 next.0 next.1, HoldsAfter-enough taken few old new next.0 next.2)) it

-- a change that answers, and another change
pub PerformsWhereBetween-change_then_change : {A : Type 0} (old mid new : State) (x : A) (u : Unit {0}) (answer : Answer) (taken : ℕ) → 2 + taken ≤ enough → (Allows Takes Then : Broker → Type 0) (Next : A → Broker → Broker → Type 0) (Last : Broker → Broker → Type 0) (Q : Broker → Transition → Type 0)
    → ((s : Broker) → Allows s → Takes s × ((t : Broker) → Next x s t → Then t × ((w : Broker) → Last t w → Q s (record { answer = answer; state = w }))))
    → ChangesAndAnswersBetween old mid (Ok x) Takes Next → AnswersTakingBetween taken mid new (Ok u) Then (λ _. Last) → PerformsWhereBetween old new Allows Q (Ok answer)
PerformsWhereBetween-change_then_change old mid new x u answer taken few Allows Takes Then Next Last Q f one two =
    CallsBetween-then_Ok old new u answer (λ _. (s : Broker) → Holds old.now s → Allows s → (t : Broker) × Q s (record { answer = answer; state = t }) × HoldsAfter enough old new t) _ (λ h. h)
    (CallsBetween-then_call old mid new x (Ok u) _ _ _ (λ p b q s held allowed.
    let go = f s allowed in
    let first = p s held go.0 in
    let more = go.1 first.0 first.1 in
    let last = q first.0 first.2.0 more.0 in
    (last.0, more.1 last.0 last.1, (last.2.0, TakesRoom-more (2 + taken) enough few old.now new.now (TakesRoom-trans 2 taken old.now mid.now new.now first.2.1 last.2.1)))) one two)
