-- A change of one statement: what it leaves of each state that allows it, and why it fails.
use Rattle.std.{specs.Prelude.{IfErr}, proofs.{Common.{ℕ, Result}, lemmas.Result.{IfErr-weaker}}}
use Rattle.sqlite.specs.State.{State}
use Rattle.table_access.{specs.{declared.StoreFault.{StoreFault}, Calls.{CallsStoreBetween}}, proofs.CallLemmas.{CallsBetween-weaken}}
use Rattle.broker_core.specs.State.{State as Broker}
use Rattle.broker_tables.specs.{Holds.{Holds}, ChangeRefusals.{HoldsOpen}}

-- what the statement makes of a state, the call does
pub CallsStoreBetween-alters : {old new : State} {r : Result (Unit {0}) StoreFault} {Done : ℕ → Type 0} {Next : Broker → Broker → Type 0} {After : Broker → Type 0}
    → ((s : Broker) → Holds old.now s → (t : Broker) → Next s t → (count : ℕ) → Done count → After t) → CallsStoreBetween old new r (λ _. (count : ℕ) × Done count)
    → CallsStoreBetween old new r (λ _. (s : Broker) → Holds old.now s → (t : Broker) → Next s t → After t)
CallsStoreBetween-alters {old = old} {new = new} {r = r} does = CallsBetween-weaken old new r _ _ (λ _ h s held t next. does s held t next h.0 h.1)

-- and it fails for what the statement fails for
pub IfErr-failure : {A : Type 0} {old : State} (r : Result A StoreFault) {Allows : Broker → Type 0} {Numbers Clean : Type 0} {Cause Why : StoreFault → Type 0}
    → ((s : Broker) → HoldsOpen old s → Allows s → Numbers → (fault : StoreFault) → Cause fault → Why fault) → (Clean → IfErr r Cause)
    → Clean → (s : Broker) → HoldsOpen old s → Allows s → Numbers → IfErr r Why
IfErr-failure r ends cause clean s here allowed numbers = IfErr-weaker r _ _ (ends s here allowed numbers) (cause clean)
