-- One call on the tables, and one after another.
use Rattle.std.proofs.Common.{Bool, inl, inr, ◌≡◌, ◌∙◌, true, false, IsTrue, refl, sym, ap, arith, Ok, Err, Result, IfOk, IfErr, OnOk, ℕ, List, Option, Some, None, ◌≤◌}
use Rattle.std.proofs.lemmas.Bool.{false_from_ne_true}
use Rattle.sqlite.specs.{Order.{Row}, Tree.{Trees}, declared.error.Error.{Error}}
use Rattle.sqlite.specs.State.{State, HasCleanDisk, Survives, Shows, Shown, ShowsRows, FailsToQuery, FailsToShow, IsNotRun, CommitsShowing, HasCause}
use Rattle.sqlite.proofs.StateLemmas.{survives_then}
use Rattle.sqlite_schema.specs.declared.command.Returning.{Returning}
use Rattle.sqlite_resolve.specs.declared.compiled.Compiled.{Compiled}
use Rattle.sqlite_trees.specs.{declared.error.StoreError.{StoreError}, declared.error.StoreError.TheVariants.{OutOfMemory, Broken, Unstorable}}
use Rattle.table_access.specs.{Unit.{IsLeft}, declared.StoreFault.{StoreFault}, declared.StoreFault.TheVariants.{Memory, Store}}
use Rattle.table_access.specs.Calls.{KeepsLastCommit, CallsBetween, CallsTablesBetween, CallsStoreBetween, GoesOn, EndsBy, IsEnded, FailsAs, ReportsMemoryUnless, fault_of}
use Rattle.table_access.proofs.{StatementRefusals.{RefusesToRead-Store}, Texts.{IsRefused, HasCause-weaken, IsNoStatement-Store, Does-misplaced_or_Store}}

-- if nothing changed, or the transaction was rolled back, nothing is committed
pub IsLeft-KeepsLastCommit : (a b : State) → IsLeft a b → KeepsLastCommit a b
IsLeft-KeepsLastCommit a b (inl same) = record { was_open = λ _. same.0.was_open; committed = λ _. same.0.committed_is }
IsLeft-KeepsLastCommit a b (inr back) = record { was_open = back.was_open; committed = λ now. (back.undone now).1 }

ShowsRows-inside : (old new : State) (sql : List ℕ) (c : Compiled) (params : Row) (rows : List Row) (returning : Option Returning) → ShowsRows old new sql c params rows returning → IsTrue old.in_transaction → Shows old new new.now old.committed true
ShowsRows-inside old new sql c params rows None h inside =
    let same = h.3.0 in record { was_open = same.was_open; is_open = same.is_open; now_is = refl; committed_is = same.committed_is; mode = same.mode ∙ inside }
ShowsRows-inside old new sql c params rows (Some what) h inside =
    let same = h.1.shown in record { was_open = same.was_open; is_open = same.is_open; now_is = refl; committed_is = rw inside at same.committed_is; mode = same.mode ∙ inside }

pub Shown-inside : (sql : List ℕ) (params : Row) (old new : State) (rows : List Row) → Shown sql params old new rows → IsTrue old.in_transaction → Shows old new new.now old.committed true
unfolding Shown
Shown-inside sql params old new rows h inside = ShowsRows-inside old new sql h.0 _ rows h.0.returning h.2 inside

-- how a query fails
FailsToShow-IsRefused : (old new : State) (sql : List ℕ) (c : Compiled) (params : Row) (e : Error) (returning : Option Returning) → FailsToShow old new sql c params e returning → IsRefused old new e
FailsToShow-IsRefused old new sql c params e None h = inl (h.3, RefusesToRead-Store old.step_limit c.command h.0 params e h.2)
FailsToShow-IsRefused old new sql c params e (Some what) (inl same) = inl (same.1, Does-misplaced_or_Store old c _ params e same.0)
FailsToShow-IsRefused old new sql c params e (Some what) (inr fails) = inr (fails.0, fails.1, HasCause-weaken old new fails.0 (λ big. tt) fails.2, fails.3, fails.4)

-- a query that fails is CallsStoreBetween-refused: it changed nothing and its error is Store, or the store failed
pub FailsToQuery-IsRefused : (sql : List ℕ) (params : Row) (old new : State) (e : Error) → FailsToQuery sql params old new e → IsRefused old new e
unfolding FailsToQuery IsNotRun
FailsToQuery-IsRefused sql params old new e (inl (inl h)) = inl (h.1, IsNoStatement-Store old sql params e h.0)
FailsToQuery-IsRefused sql params old new e (inl (inr h)) = inr (h.0, h.1, HasCause-weaken old new h.0 (λ big. tt) h.2, h.3, h.4)
FailsToQuery-IsRefused sql params old new e (inr h) = FailsToShow-IsRefused old new sql h.0 _ e h.0.returning h.2

-- a statement that is CallsStoreBetween-refused leaves the transaction, or the store failed
IsRefused-FailsAs : (old new : State) (e : Error) (fault : StoreFault) → fault ≡ fault_of e → IsRefused old new e → IsTrue old.in_transaction → FailsAs old new fault
IsRefused-FailsAs old new e fault is (inl same) inside = inl (same.0.0.mode ∙ inside, λ _. same.0.0.is_open)
IsRefused-FailsAs old new e fault is (inr fails) inside = inr (record { cause = fails.0; fault_is = is ∙ ap fault_of fails.1; has = fails.2; over = fails.3.autocommit; blamed = fails.4 })

-- if the store was out of memory, the transaction is ended
pub IsRefused-ends_for_Memory : (old new : State) (e : Error) (fault : StoreFault) → fault ≡ fault_of e → IsRefused old new e → fault ≡ Memory → IsEnded old new Memory
IsRefused-ends_for_Memory old new e fault is (inl same) short = absurd (let clash : Memory ≡ Store = sym short ∙ is ∙ same.1 in cc)
IsRefused-ends_for_Memory old new e fault is (inr fails) short = record { cause = fails.0; fault_is = sym short ∙ is ∙ ap fault_of fails.1; has = fails.2; over = fails.3.autocommit; blamed = fails.4 }

pub CommitsShowing-outside : (sql : List ℕ) (params : Row) (old : State) (db : Trees) → CommitsShowing sql params old db → old.in_transaction ≡ false
unfolding CommitsShowing
CommitsShowing-outside sql params old db h = h.3.0

-- ---- where Memory is returned

-- a call that succeeds doesn't return Memory
pub ReportsMemoryUnless-Ok : {A : Type 0} (takes : Bool) (old new : State) (a : A) → ReportsMemoryUnless takes old new (Ok a)
ReportsMemoryUnless-Ok true old new a = tt
ReportsMemoryUnless-Ok false old new a = λ clean inside is. absurd (cc)

-- the same failure, of a call with another kind of answer
ReportsMemoryUnless-Err : (A B : Type 0) (takes : Bool) (old new : State) (e : StoreFault) → ReportsMemoryUnless {A = A} takes old new (Err e) → ReportsMemoryUnless {A = B} takes old new (Err e)
ReportsMemoryUnless-Err A B true old new e short = tt
ReportsMemoryUnless-Err A B false old new e short = λ clean inside is. short clean inside (let same : e ≡ Memory = (let h = is in cc) in ap Err same)

-- nor does a call that fails with Store
pub ReportsMemoryUnless-Store : (A : Type 0) (takes : Bool) (old new : State) (e : StoreFault) → (takes ≡ false → e ≡ Store) → ReportsMemoryUnless {A = A} takes old new (Err e)
ReportsMemoryUnless-Store A true old new e store = tt
ReportsMemoryUnless-Store A false old new e store = λ clean inside is. absurd (let clash : Store ≡ Memory = (let same : e ≡ Memory = (let h = is in cc) in sym (store refl) ∙ same) in cc)

-- ---- calls: `takes` says whether the last one may take memory, and nothing depends on it of one that gave an answer

-- a computation that may fail, after a call: if it takes no memory, it fails only if a row breaks the rules
pub CallsBetween-then_result : {A B : Type 0} {any takes : Bool} (old new : State) (a : A) (r : Result B StoreFault) (P : A → Type 0) (Q : B → Type 0) → IfOk r (λ b. P a → Q b) → (takes ≡ false → IfErr r (λ e. e ≡ Store)) → CallsBetween any old new (Ok a) P → CallsBetween takes old new r Q
CallsBetween-then_result {takes} old new a (Ok b) P Q more store it = record { ok = λ clean. more (it.ok clean); goes_on = it.goes_on; fails = it.fails; commits = it.commits; survives = it.survives; memory = ReportsMemoryUnless-Ok takes old new b }
CallsBetween-then_result {B} {takes} old new a (Err e) P Q more store it = record { ok = λ _. tt; goes_on = λ _ _. tt; fails = λ clean inside. inl (it.goes_on clean inside); commits = it.commits; survives = it.survives; memory = ReportsMemoryUnless-Store B takes old new e store }

-- another answer, computed from the first
pub CallsBetween-then_Ok : {A B : Type 0} {any takes : Bool} (old new : State) (a : A) (b : B) (P : A → Type 0) (Q : B → Type 0) → (P a → Q b) → CallsBetween any old new (Ok a) P → CallsBetween takes old new (Ok b) Q
CallsBetween-then_Ok old new a b P Q more it = CallsBetween-then_result old new a (Ok b) P Q more (λ none. tt) it

-- a row that breaks the rules, or an allocation that fails, after a call
pub CallsBetween-then_stop : {A B : Type 0} {any : Bool} (old new : State) (a : A) (e : StoreFault) (P : A → Type 0) (Q : B → Type 0) → CallsBetween any old new (Ok a) P → CallsTablesBetween old new (Err e) Q
CallsBetween-then_stop old new a e P Q it = CallsBetween-then_result old new a (Err e) P Q tt (λ none. absurd (cc)) it

-- the same failure, of a call with another kind of answer and any claim of it
pub CallsBetween-pass_Err : {A B : Type 0} {takes : Bool} (old new : State) (e : StoreFault) (P : A → Type 0) (Q : B → Type 0) → CallsBetween takes old new (Err e) P → CallsBetween takes old new (Err e) Q
CallsBetween-pass_Err {A} {B} {takes} old new e P Q it = record { ok = it.ok; goes_on = it.goes_on; fails = it.fails; commits = it.commits; survives = it.survives; memory = ReportsMemoryUnless-Err A B takes old new e it.memory }

-- a call whose answer has P is one whose answer has Q, if P of an answer gives Q
pub CallsBetween-weaken : {A : Type 0} {takes : Bool} (old new : State) (r : Result A StoreFault) (P Q : A → Type 0) → ((a : A) → P a → Q a) → CallsBetween takes old new r P → CallsBetween takes old new r Q
CallsBetween-weaken old new (Ok a) P Q more it = CallsBetween-then_Ok old new a a P Q (more a) it
CallsBetween-weaken old new (Err e) P Q more it = CallsBetween-pass_Err old new e P Q it

-- a call that takes no memory is one that may
pub CallsBetween-may_take_memory : {A : Type 0} {takes : Bool} (old new : State) (r : Result A StoreFault) (P : A → Type 0) → CallsBetween takes old new r P → CallsTablesBetween old new r P
CallsBetween-may_take_memory old new r P it = record { ok = it.ok; goes_on = it.goes_on; fails = it.fails; commits = it.commits; survives = it.survives; memory = tt }

-- nothing is called
pub CallsBetween-no_call : {A : Type 0} {takes : Bool} (c : State) (a : A) (P : A → Type 0) → P a → CallsBetween takes c c (Ok a) P
CallsBetween-no_call {takes} c a P h = record {
  ok = λ _. h;
  goes_on = λ _ inside. (inside, λ h. h);
  fails = λ _ _. tt;
  commits = λ _ _. record { was_open = λ h. h; committed = λ _. refl };
  survives = record { clean = omega arith; shield = λ h. h; counts = omega arith; limit = refl; closes = λ _ h. inl h; crash = λ _ db h. inl h };
  memory = ReportsMemoryUnless-Ok takes c c a;
}

IsTrue-contrapositive : (a b : Bool) → (IsTrue a → IsTrue b) → b ≡ false → a ≡ false
IsTrue-contrapositive a b stays now = false_from_ne_true a (λ was. let e = stays was in cc)

pub KeepsLastCommit-trans : (a b c : State) → KeepsLastCommit a b → KeepsLastCommit b c → KeepsLastCommit a c
KeepsLastCommit-trans a b c one two = record { was_open = λ now. one.was_open (two.was_open now); committed = λ now. two.committed now ∙ one.committed (two.was_open now) }

-- a cause of a later call is one of both
HasCause-later_call : (TooBig : Type 0) (a b c : State) (cause : StoreError) → (IsTrue a.is_open → IsTrue b.is_open) → a.faults ≤ b.faults → HasCause b c TooBig cause → HasCause a c TooBig cause
HasCause-later_call TooBig a b c OutOfMemory stays up h = tt
HasCause-later_call TooBig a b c Broken stays up h = IsTrue-contrapositive a.is_open b.is_open stays h
HasCause-later_call TooBig a b c Unstorable stays up h = h
HasCause-later_call TooBig a b c _ stays up h = omega (arith, up, h)

pub EndsBy-later_call : {TooBig : Type 0} (a b c : State) (e : StoreFault) → GoesOn a b → a.faults ≤ b.faults → EndsBy TooBig b c e → EndsBy TooBig a c e
EndsBy-later_call {TooBig} a b c e on up ended = record { cause = ended.cause; fault_is = ended.fault_is; has = HasCause-later_call TooBig a b c ended.cause on.1 up ended.has; over = ended.over; blamed = ended.blamed }

pub EndsBy-weaken : {A B : Type 0} (a b : State) (e : StoreFault) → (A → B) → EndsBy A a b e → EndsBy B a b e
EndsBy-weaken {A} {B} a b e more ended = record { cause = ended.cause; fault_is = ended.fault_is; has = HasCause-weaken a b ended.cause more ended.has; over = ended.over; blamed = ended.blamed }

-- one call after another: Q of the last answer is had from P of the first
pub CallsBetween-then_call : {A B : Type 0} {any takes : Bool} (old mid new : State) (a : A) (r : Result B StoreFault) (P : A → Type 0) (Q R : B → Type 0) → (P a → (b : B) → Q b → R b) → CallsBetween any old mid (Ok a) P → CallsBetween takes mid new r Q → CallsBetween takes old new r R
CallsBetween-then_call {A} {B} {takes} old mid new a r P Q R more one two = record {
  ok = λ clean. both r (one.ok (mid_clean clean)) (two.ok clean);
  goes_on = λ clean inside. let first = one.goes_on (mid_clean clean) inside in goes r first (two.goes_on clean first.0);
  fails = λ clean inside. let first = one.goes_on (mid_clean clean) inside in stops r first (two.fails clean first.0);
  commits = λ clean inside. KeepsLastCommit-trans old mid new (one.commits (mid_clean clean) inside) (two.commits clean (one.goes_on (mid_clean clean) inside).0);
  survives = survives_then old mid new _ _ _ (λ _ db h. h) (λ clean db h. IsTrue-contrapositive old.in_transaction mid.in_transaction (λ inside. (one.goes_on (mid_clean clean) inside).0) h) one.survives two.survives;
  memory = reports takes two.memory;
}
  where
    mid_clean : HasCleanDisk new → HasCleanDisk mid
    mid_clean clean = omega (arith, two.survives.clean, clean)

    goes : (x : Result B StoreFault) → GoesOn old mid → OnOk x (GoesOn mid new) → OnOk x (GoesOn old new)
    goes (Ok b) first second = (second.0, λ h. second.1 (first.1 h))
    goes (Err e) first second = tt

    stops : (x : Result B StoreFault) → GoesOn old mid → IfErr x (FailsAs mid new) → IfErr x (FailsAs old new)
    stops (Ok b) first second = tt
    stops (Err e) first second = elim second [ inl goes ↦ inl (goes.0, λ h. goes.1 (first.1 h)) | inr ended ↦ inr (EndsBy-later_call old mid new e first one.survives.counts ended) ]

    reports : (t : Bool) → ReportsMemoryUnless t mid new r → ReportsMemoryUnless t old new r
    reports true short = tt
    reports false short = λ clean inside is. let first = one.goes_on (mid_clean clean) inside in EndsBy-later_call old mid new Memory first one.survives.counts (short clean first.0 is)

    both : (x : Result B StoreFault) → P a → IfOk x Q → IfOk x R
    both (Ok b) p q = more p b q
    both (Err e) p q = tt

-- a call that failed after another
pub CallsBetween-then_failed_call : {A B C : Type 0} {any takes : Bool} (old mid new : State) (a : A) (e : StoreFault) (P : A → Type 0) (Q : B → Type 0) (R : C → Type 0) → CallsBetween any old mid (Ok a) P → CallsBetween takes mid new (Err e) Q → CallsBetween takes old new (Err e) R
CallsBetween-then_failed_call {A} {B} {C} old mid new a e P Q R one two = CallsBetween-pass_Err old new e Q R (CallsBetween-then_call old mid new a (Err e) P Q Q (λ p b q. q) one two)

-- ---- statements, which take no memory of their own

-- a statement that CallsStoreBetween-ran inside the transaction
pub CallsStoreBetween-ran : {A : Type 0} (old new : State) (a : A) (P : A → Type 0) → (HasCleanDisk new → P a) → (HasCleanDisk new → IsTrue old.in_transaction → Shows old new new.now old.committed true) → Survives old new (λ _. old.in_transaction ≡ false)
    → CallsStoreBetween old new (Ok a) P
CallsStoreBetween-ran old new a P returned shows survives = record {
  ok = returned;
  goes_on = λ clean inside. let on = shows clean inside in (on.mode, λ _. on.is_open);
  fails = λ _ _. tt;
  commits = λ clean inside. let same = shows clean inside in record { was_open = λ _. same.was_open; committed = λ _. same.committed_is };
  survives = survives;
  memory = ReportsMemoryUnless-Ok false old new a;
}

-- one that was CallsStoreBetween-refused
pub CallsStoreBetween-refused : {A : Type 0} (old new : State) (e : Error) (fault : StoreFault) (P : A → Type 0) → fault ≡ fault_of e → (HasCleanDisk new → IsRefused old new e) → Survives old new (λ _. old.in_transaction ≡ false) → CallsStoreBetween old new (Err fault) P
CallsStoreBetween-refused old new e fault P is why survives = record {
  ok = λ _. tt;
  goes_on = λ _ _. tt;
  fails = λ clean inside. IsRefused-FailsAs old new e fault is (why clean) inside;
  commits = λ clean inside. IsLeft-KeepsLastCommit old new (elim (why clean) [ inl same ↦ inl same.0 | inr fails ↦ inr fails.3 ]);
  survives = survives;
  memory = λ clean inside short. IsRefused-ends_for_Memory old new e fault is (why clean) (let same : fault ≡ Memory = (let h = short in cc) in same);
}
