-- Queries that fail only as the store fails if the state allows them: their answers, and their failures, as
-- `QueryLemmas` of broker_tables has it of those that each state allows.
use Rattle.std.{specs.Prelude.{⊤}, proofs.Common.{Bool, Ok, Err, Result, true}}
use Rattle.sqlite.specs.State.{State}
use Rattle.table_access.specs.declared.StoreFault.{StoreFault}
use Rattle.table_access.proofs.CallLemmas.{CallsBetween-may_take_memory, CallsBetween-then_call, CallsBetween-pass_Err}
use Rattle.broker_core.specs.State.{State as Broker}
use Rattle.broker_tables.specs.{Failures.{LooksUpBetween, FailsByStoreFromBetween}, Holds.{IsRead, QueriesBetween}}
use Rattle.broker_tables.proofs.FailLemmas.{FailsByStoreFromBetween-after_query}
use Rattle.broker_tables.proofs.QueryLemmas.{IsRead-both, LooksUpBetween-other_answer, LooksUpBetween-from_both, LooksUpBetween-Ok}

-- another answer
pub QueriesBetween-answers_more : {A B : Type 0} {any takes : Bool} (old new : State) (x : A) (y : B) (P : A → Broker → Type 0) (Q : B → Broker → Type 0)
    → ((s : Broker) → P x s → Q y s) → QueriesBetween any old new (Ok x) P → QueriesBetween takes old new (Ok y) Q
QueriesBetween-answers_more {any} {takes} old new x y P Q f one = (LooksUpBetween-other_answer {takes = takes} old new x y P Q f (LooksUpBetween-Ok old new x P one)).call

-- an answer from two
pub QueriesBetween-answers_both : {A B C : Type 0} {any also takes : Bool} (old mid new : State) (x : A) (y : B) (z : C) (P : A → Broker → Type 0) (Q : B → Broker → Type 0) (R : C → Broker → Type 0)
    → ((s : Broker) → P x s → Q y s → R z s) → QueriesBetween any old mid (Ok x) P → QueriesBetween also mid new (Ok y) Q → QueriesBetween takes old new (Ok z) R
QueriesBetween-answers_both {takes} old mid new x y z P Q R f one two =
    (LooksUpBetween-from_both {takes = takes} old mid new x y z P Q R f (LooksUpBetween-Ok old mid x P one) (LooksUpBetween-Ok mid new y Q two)).call

-- the failure of one after another
pub QueriesBetween-failed_after : {A B C : Type 0} {any takes : Bool} (old mid new : State) (a : A) (e : StoreFault) (P : A → Broker → Type 0) (Q : B → Broker → Type 0) (R : C → Broker → Type 0)
    → QueriesBetween any old mid (Ok a) P → QueriesBetween takes mid new (Err e) Q → QueriesBetween takes old new (Err e) R
QueriesBetween-failed_after {B} old mid new a e P Q R one two =
    CallsBetween-pass_Err old new e (λ (b : B). IsRead mid new Q b) (IsRead old new R) (CallsBetween-then_call old mid new a (Err e) (IsRead old mid P) (IsRead mid new Q) (IsRead mid new Q) (λ p b q. q) one two)

-- one after another
pub QueriesBetween-answers_then : {A B : Type 0} {any takes : Bool} (old mid new : State) (x : A) (r : Result B StoreFault) (P : A → Broker → Type 0) (Q R : B → Broker → Type 0)
    → ((s : Broker) → P x s → (b : B) → Q b s → R b s) → QueriesBetween any old mid (Ok x) P → QueriesBetween takes mid new r Q → QueriesBetween takes old new r R
QueriesBetween-answers_then old mid new x r P Q R f one two =
    CallsBetween-then_call old mid new x r (IsRead old mid P) (IsRead mid new Q) (IsRead old new R) (λ p b. IsRead-both old mid new x b b P Q R (λ s one two. f s one b two) p) one two

-- a query after another, whose answer shows that the state allows it
pub LooksUpBetween-allowed : {A B : Type 0} {any takes : Bool} (old mid new : State) (x : A) (r : Result B StoreFault) (P : A → Broker → Type 0) (Q R : B → Broker → Type 0) (Allows : Broker → Type 0)
    → ((s : Broker) → P x s → Allows s) → ((s : Broker) → P x s → (b : B) → Q b s → R b s)
    → LooksUpBetween any old mid (Ok x) P → QueriesBetween takes mid new r Q → FailsByStoreFromBetween mid new r Allows → LooksUpBetween true old new r R
LooksUpBetween-allowed old mid new x r P Q R Allows allow f one two failure = record {
  call = CallsBetween-may_take_memory old new r _ (QueriesBetween-answers_then old mid new x r P Q R f one.call two);
  failure = λ clean s here. FailsByStoreFromBetween-after_query old mid new x r P (IsRead mid new Q) (λ s. ⊤) Allows (λ s held free read. allow s read) one.call two failure clean s here tt;
}
