-- A computation after a query, and an answer without one, over the state that the database holds.
use Rattle.std.proofs.{Common.{Bool, true, ◌≡◌, inr, Ok, Err, Result, IfOk, IfErr}, lemmas.Result.{IfErr-weaker}}
use Rattle.sqlite.specs.State.{State}
use Rattle.table_access.specs.{declared.StoreFault.{StoreFault}, declared.StoreFault.TheVariants.{Memory}}
use Rattle.table_access.proofs.CallLemmas.{CallsBetween-then_Ok, CallsBetween-then_stop}
use Rattle.broker_core.specs.State.{State as Broker}
use Rattle.broker_tables.specs.{Holds.{IsRead, QueriesBetween}, Failures.{LooksUpBetween}}

-- an answer that is QueriesBetween-computed after a query, or no room for it
pub QueriesBetween-computed : {A B : Type 0} {any : Bool} (old new : State) (a : A) (r : Result B StoreFault) (P : A → Broker → Type 0) (L : B → Type 0) (R : B → Broker → Type 0) → ((s : Broker) → P a s → (b : B) → L b → R b s)
    → IfOk r L → QueriesBetween any old new (Ok a) P → QueriesBetween true old new r R
QueriesBetween-computed old new a (Ok b) P L R more is one = CallsBetween-then_Ok old new a b (IsRead old new P) (IsRead old new R) (λ first s held. let f = first s held in (more s f.0 b is, f.1)) one
QueriesBetween-computed old new a (Err e) P L R more is one = CallsBetween-then_stop old new a e (IsRead old new P) (IsRead old new R) one

pub LooksUpBetween-computed : {A B : Type 0} {any : Bool} (old new : State) (a : A) (r : Result B StoreFault) (P : A → Broker → Type 0) (L : B → Type 0) (R : B → Broker → Type 0) → ((s : Broker) → P a s → (b : B) → L b → R b s)
    → IfOk r L → IfErr r (λ e. e ≡ Memory) → LooksUpBetween any old new (Ok a) P → LooksUpBetween true old new r R
LooksUpBetween-computed old new a r P L R more is room one = record { call = QueriesBetween-computed old new a r P L R more is one.call; failure = λ clean s here. IfErr-weaker r _ _ (λ e memory. inr memory) room }
