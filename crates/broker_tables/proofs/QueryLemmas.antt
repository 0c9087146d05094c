-- Queries that fail only as the store fails, one and one after another. Each lemma has the form of its namesake in
-- `CallLemmas`, also of the memory that they may take; why a query fails goes along, and asks nothing of the caller.
use Rattle.std.proofs.Common.{Bool, true, false, refl, sym, subst, inl, inr, ◌⊎◌, ◌≡◌, ◌∙◌, arith, Ok, Err, Result, IfOk, IfErr, ◌≤◌}
use Rattle.std.proofs.lemmas.Result.{IfErr-weaker}
use Rattle.sqlite.specs.State.{State, HasCleanDisk}
use Rattle.table_access.specs.{declared.StoreFault.{StoreFault}, declared.StoreFault.TheVariants.{Memory, Store}, Calls.{CallsBetween, GoesOn, EndsBy}}
use Rattle.table_access.proofs.CallLemmas.{CallsBetween-weaken, CallsBetween-then_result, CallsBetween-pass_Err, CallsBetween-then_call, EndsBy-later_call}
use Rattle.broker_core.specs.State.{State as Broker}
use Rattle.broker_tables.specs.{Holds.{Holds, IsRead, QueriesBetween}, Failures.{ShowsState, FailsOnlyBy, HasFailedTaking, LooksUpBetween}}

-- a database that is as it was holds the same state
pub Holds-same_database : (old new : State) (s : Broker) → new.now ≡ old.now → Holds old.now s → Holds new.now s
Holds-same_database old new s same held = subst (λ d. Holds d s) (sym same) held

-- one query after another
pub IsRead-both : {A B C : Type 0} (old mid new : State) (a : A) (b : B) (c : C) (P : A → Broker → Type 0) (Q : B → Broker → Type 0) (R : C → Broker → Type 0) → ((s : Broker) → P a s → Q b s → R c s) → IsRead old mid P a → IsRead mid new Q b → IsRead old new R c
IsRead-both old mid new a b c P Q R f p q s held = let one = p s held in let two = q s (Holds-same_database old mid s one.1 held) in (f s one.0 two.0, two.1 ∙ one.1)

-- what served a query serves the next one
pub ShowsState-after_query : {A : Type 0} {any : Bool} (old mid : State) (a : A) (P : A → Broker → Type 0) → HasCleanDisk mid → QueriesBetween any old mid (Ok a) P → (s : Broker) → ShowsState old s → ShowsState mid s
ShowsState-after_query old mid a P clean one s it = record {
  inside = (one.goes_on clean it.inside).0;
  unlimited = one.survives.limit ∙ it.unlimited;
  held = Holds-same_database old mid s (one.ok clean s it.held).1 it.held;
  readable = it.readable;
}

-- a later failure of the store is one of both calls together
pub EndsBy-later_or_Memory : {TooBig : Type 0} (old mid new : State) (e : StoreFault) → GoesOn old mid → old.faults ≤ mid.faults → EndsBy TooBig mid new e ⊎ (e ≡ Memory) → EndsBy TooBig old new e ⊎ (e ≡ Memory)
EndsBy-later_or_Memory old mid new e on up (inl ended) = inl (EndsBy-later_call old mid new e on up ended)
EndsBy-later_or_Memory old mid new e on up (inr room) = inr room

HasFailedTaking-later_call : (takes : Bool) (old mid new : State) (e : StoreFault) → GoesOn old mid → old.faults ≤ mid.faults → HasFailedTaking takes mid new e → HasFailedTaking takes old new e
HasFailedTaking-later_call true = EndsBy-later_or_Memory
HasFailedTaking-later_call false = EndsBy-later_call

-- if a row reads, a fault that is Store only if it doesn't read is Memory
pub fault-Memory_if_read : {Reads : Type 0} (fault : StoreFault) → (fault ≡ Store → ¬ Reads) → Reads → fault ≡ Memory
fault-Memory_if_read Memory only reads = refl
fault-Memory_if_read Store only reads = absurd (only refl reads)

-- ---- one call

-- a failure for Cause is one for Why, if Cause gives Why in each state that is served
pub FailsOnlyBy-of_cause : {A : Type 0} (old new : State) (r : Result A StoreFault) (Cause Why : StoreFault → Type 0) → ((s : Broker) → ShowsState old s → (e : StoreFault) → Cause e → Why e) → (HasCleanDisk new → IfErr r Cause) → FailsOnlyBy old new r Why
FailsOnlyBy-of_cause old new r Cause Why why cause clean s here = IfErr-weaker r _ _ (why s here) (cause clean)

-- what a call answers is read of the state, and if that is served, the call fails only for this cause
pub LooksUpBetween-read : {A : Type 0} {takes : Bool} (old new : State) (r : Result A StoreFault) (Q : A → Type 0) (P : A → Broker → Type 0) (Cause : StoreFault → Type 0) → ((a : A) → Q a → IsRead old new P a) → ((s : Broker) → ShowsState old s → (e : StoreFault) → Cause e → HasFailedTaking takes old new e)
    → CallsBetween takes old new r Q → (HasCleanDisk new → IfErr r Cause) → LooksUpBetween takes old new r P
LooksUpBetween-read {takes} old new r Q P Cause more why call cause = record { call = CallsBetween-weaken old new r Q _ more call; failure = FailsOnlyBy-of_cause old new r Cause (HasFailedTaking takes old new) why cause }

-- the same by the arms of a match on its answer: a computation that fails only if a row breaks the rules, which no row
-- does if the state is served
pub LooksUpBetween-read_result : {A B : Type 0} {any takes : Bool} (old new : State) (a : A) (r : Result B StoreFault) (Q : A → Type 0) (P : B → Broker → Type 0) → IfOk r (λ b. Q a → IsRead old new P b) → (takes ≡ false → IfErr r (λ e. e ≡ Store)) → ((s : Broker) → ShowsState old s → Q a → IfErr r (λ e. ⊥))
    → CallsBetween any old new (Ok a) Q → LooksUpBetween takes old new r P
LooksUpBetween-read_result old new a r Q P more store never call =
    record { call = CallsBetween-then_result old new a r Q _ more store call; failure = λ clean s here. IfErr-weaker r _ _ (λ e no. absurd no) (never s here (call.ok clean)) }

pub LooksUpBetween-read_Ok : {A B : Type 0} {any takes : Bool} (old new : State) (a : A) (b : B) (Q : A → Type 0) (P : B → Broker → Type 0) → (Q a → IsRead old new P b) → CallsBetween any old new (Ok a) Q → LooksUpBetween takes old new (Ok b) P
LooksUpBetween-read_Ok old new a b Q P more call = LooksUpBetween-read_result old new a (Ok b) Q P more (λ none. tt) (λ s here q. tt) call

pub LooksUpBetween-read_Err : {A B : Type 0} {takes : Bool} (old new : State) (e : StoreFault) (Q : A → Type 0) (P : B → Broker → Type 0) (Cause : StoreFault → Type 0) → ((s : Broker) → ShowsState old s → (e : StoreFault) → Cause e → HasFailedTaking takes old new e)
    → CallsBetween takes old new (Err e) Q → (HasCleanDisk new → Cause e) → LooksUpBetween takes old new (Err e) P
LooksUpBetween-read_Err old new e Q P Cause why call cause = record { call = CallsBetween-pass_Err old new e Q _ call; failure = λ clean s here. why s here e (cause clean) }

-- an answer that no state that is served has
pub LooksUpBetween-read_never : {A B : Type 0} {any : Bool} (old new : State) (a : A) (e : StoreFault) (Q : A → Type 0) (P : B → Broker → Type 0) → ((s : Broker) → ShowsState old s → Q a → ⊥) → CallsBetween any old new (Ok a) Q → LooksUpBetween true old new (Err e) P
LooksUpBetween-read_never old new a e Q P never call = LooksUpBetween-read_result old new a (Err e) Q P tt (λ none. absurd (cc)) never call

-- ---- queries

-- one that answers has no failure
pub LooksUpBetween-Ok : {A : Type 0} {takes : Bool} (old new : State) (a : A) (P : A → Broker → Type 0) → QueriesBetween takes old new (Ok a) P → LooksUpBetween takes old new (Ok a) P
LooksUpBetween-Ok old new a P it = record { call = it; failure = λ clean s here. tt }

-- another answer, computed from the first
pub LooksUpBetween-then_Ok : {A B : Type 0} {any takes : Bool} (old new : State) (a : A) (b : B) (P : A → Broker → Type 0) (Q : B → Broker → Type 0) → (IsRead old new P a → IsRead old new Q b) → LooksUpBetween any old new (Ok a) P → LooksUpBetween takes old new (Ok b) Q
LooksUpBetween-then_Ok old new a b P Q more it = LooksUpBetween-read_Ok old new a b _ Q more it.call

-- what is read says more
pub LooksUpBetween-weaken : {A : Type 0} {takes : Bool} (old new : State) (r : Result A StoreFault) (P Q : A → Broker → Type 0) → ((a : A) → IsRead old new P a → IsRead old new Q a) → LooksUpBetween takes old new r P → LooksUpBetween takes old new r Q
LooksUpBetween-weaken old new r P Q more it = record { call = CallsBetween-weaken old new r _ _ more it.call; failure = it.failure }

pub LooksUpBetween-pass_Err : {A B : Type 0} {takes : Bool} (old new : State) (e : StoreFault) (P : A → Broker → Type 0) (Q : B → Broker → Type 0) → LooksUpBetween takes old new (Err e) P → LooksUpBetween takes old new (Err e) Q
LooksUpBetween-pass_Err old new e P Q it = record { call = CallsBetween-pass_Err old new e _ _ it.call; failure = it.failure }

-- one after another
pub LooksUpBetween-then_query : {A B : Type 0} {any takes : Bool} (old mid new : State) (a : A) (r : Result B StoreFault) (P : A → Broker → Type 0) (Q R : B → Broker → Type 0) → (IsRead old mid P a → (b : B) → IsRead mid new Q b → IsRead old new R b)
    → LooksUpBetween any old mid (Ok a) P → LooksUpBetween takes mid new r Q → LooksUpBetween takes old new r R
LooksUpBetween-then_query {takes} old mid new a r P Q R more one two = record {
  call = CallsBetween-then_call old mid new a r _ _ _ more one.call two.call;
  failure = λ clean s here.
      let mid_clean : HasCleanDisk mid = omega (arith, two.call.survives.clean, clean) in
      IfErr-weaker r _ _ (λ e why. HasFailedTaking-later_call takes old mid new e (one.call.goes_on mid_clean here.inside) one.call.survives.counts why) (two.failure clean s (ShowsState-after_query old mid a P mid_clean one.call s here));
}

-- the failure of a query after another
pub LooksUpBetween-then_failed : {A B C : Type 0} {any takes : Bool} (old mid new : State) (a : A) (e : StoreFault) (P : A → Broker → Type 0) (Q : B → Broker → Type 0) (R : C → Broker → Type 0) → LooksUpBetween any old mid (Ok a) P → LooksUpBetween takes mid new (Err e) Q → LooksUpBetween takes old new (Err e) R
LooksUpBetween-then_failed {A} {B} {C} old mid new a e P Q R one two =
    LooksUpBetween-pass_Err old new e (λ (b : B) (s : Broker). Q b s) R (LooksUpBetween-then_query old mid new a (Err e) P Q Q (λ p b. IsRead-both old mid new a b b P Q Q (λ s one two. two) p) one two)

-- ---- by what is read of a state

-- another answer of a query
pub LooksUpBetween-other_answer : {A B : Type 0} {any takes : Bool} (old new : State) (x : A) (y : B) (P : A → Broker → Type 0) (Q : B → Broker → Type 0) → ((s : Broker) → P x s → Q y s) → LooksUpBetween any old new (Ok x) P → LooksUpBetween takes old new (Ok y) Q
LooksUpBetween-other_answer old new x y P Q f = LooksUpBetween-then_Ok old new x y P Q (λ h s held. let it = h s held in (f s it.0, it.1))

-- one query after another
pub LooksUpBetween-then : {A B : Type 0} {any takes : Bool} (old mid new : State) (x : A) (r : Result B StoreFault) (P : A → Broker → Type 0) (Q R : B → Broker → Type 0) → ((s : Broker) → P x s → (b : B) → Q b s → R b s) → LooksUpBetween any old mid (Ok x) P → LooksUpBetween takes mid new r Q → LooksUpBetween takes old new r R
LooksUpBetween-then old mid new x r P Q R f = LooksUpBetween-then_query old mid new x r P Q R (λ p b. IsRead-both old mid new x b b P Q R (λ s one two. f s one b two) p)

-- two queries give what each of them gives
pub LooksUpBetween-both : {A B : Type 0} {any takes : Bool} (old mid new : State) (x : A) (y : B) (P : A → Broker → Type 0) (Q : B → Broker → Type 0) → LooksUpBetween any old mid (Ok x) P → LooksUpBetween takes mid new (Ok y) Q → LooksUpBetween takes old new (Ok y) (λ b s. P x s × Q b s)
LooksUpBetween-both old mid new x y P Q = LooksUpBetween-then old mid new x (Ok y) P Q (λ b s. P x s × Q b s) (λ s one b two. (one, two))

-- and an answer from both, also by what the database holds
pub LooksUpBetween-from_both_held : {A B C : Type 0} {any also takes : Bool} (old mid new : State) (x : A) (y : B) (z : C) (P : A → Broker → Type 0) (Q : B → Broker → Type 0) (R : C → Broker → Type 0) → ((s : Broker) → Holds new.now s → P x s → Q y s → R z s) → LooksUpBetween any old mid (Ok x) P → LooksUpBetween also mid new (Ok y) Q → LooksUpBetween takes old new (Ok z) R
LooksUpBetween-from_both_held old mid new x y z P Q R f one two =
    LooksUpBetween-then_Ok old new y z (λ b s. P x s × Q b s) R (λ h s held. let it = h s held in (f s (Holds-same_database old new s it.1 held) it.0.0 it.0.1, it.1)) (LooksUpBetween-both old mid new x y P Q one two)

pub LooksUpBetween-from_both : {A B C : Type 0} {any also takes : Bool} (old mid new : State) (x : A) (y : B) (z : C) (P : A → Broker → Type 0) (Q : B → Broker → Type 0) (R : C → Broker → Type 0) → ((s : Broker) → P x s → Q y s → R z s) → LooksUpBetween any old mid (Ok x) P → LooksUpBetween also mid new (Ok y) Q → LooksUpBetween takes old new (Ok z) R
LooksUpBetween-from_both old mid new x y z P Q R f = LooksUpBetween-from_both_held old mid new x y z P Q R (λ s held. f s)
