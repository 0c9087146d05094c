-- A command that takes no memory of its own runs out of memory only if the store does.
use Rattle.std.{specs.Prelude.{⊤}, proofs.Common.{Bool, false, ◌≡◌, Ok, Err, Result, sym, subst}}
use Rattle.sqlite.specs.State.{State}
use Rattle.table_access.specs.{Calls.{CallsBetween, CallsStoreBetween, ReportsMemory}, declared.StoreFault.{StoreFault}}
use Rattle.table_access.proofs.CallLemmas.{ReportsMemoryUnless-Ok, CallsBetween-then_call, CallsBetween-pass_Err}
use Rattle.broker_core.specs.{declared.answer.Answer.{Answer}, declared.answer.Answer.TheVariants.{Done}, declared.answer.Detail.TheVariants.{Plain}}
use Rattle.command_facts.specs.Performs.{returned_done}

ReportsMemory-returned_done : (old new : State) (r : Result (Unit {0}) StoreFault) (P : Unit {0} → Type 0) → CallsStoreBetween old new r P → ReportsMemory old new (returned_done r)
ReportsMemory-returned_done old new (Ok u) P it = ReportsMemoryUnless-Ok false old new (Done Plain)
ReportsMemory-returned_done old new (Err e) P it = (CallsBetween-pass_Err {B = Answer} old new e P (λ _. ⊤) it).memory

-- a call that answers, and then a change, whose result is the command's answer
pub ReportsMemory-after_query : {A : Type 0} {any : Bool} {old mid new : State} {x : A} {r : Result (Unit {0}) StoreFault} {answer : Result Answer StoreFault} {P : A → Type 0} {Q : Unit {0} → Type 0}
    → answer ≡ returned_done r → CallsBetween any old mid (Ok x) P → CallsStoreBetween mid new r Q → ReportsMemory old new answer
ReportsMemory-after_query {A} {any} {old} {mid} {new} {x} {r} {answer} {P} {Q} is one two =
    subst (λ (a : Result Answer StoreFault). ReportsMemory old new a) (sym is) (ReportsMemory-returned_done old new r Q (CallsBetween-then_call old mid new x r P Q Q (λ p b q. q) one two))
