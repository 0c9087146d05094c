-- What is answered of a file that wasn't read.
use Rattle.std.{specs.Prelude.{⊤}, proofs.Common.{◌≡◌, true, Result, inl, inr, refl, sym, subst}}
use Rattle.sqlite.specs.State.{State}
use Rattle.table_access.{specs.declared.StoreFault.{StoreFault}, proofs.CallLemmas.{CallsBetween-no_call, CallsBetween-then_stop}}
use Rattle.broker_core.specs.{State.{State as Broker}, Change.{Transition, unchanged_with}, declared.answer.Answer.{Answer}}
use Rattle.broker_core.specs.{declared.answer.Answer.TheVariants.{BadForm}, declared.command.FormFault.{FormFault}}
use Rattle.command_facts.specs.{Performs.{PerformsBetween}, declared.reading.FileReadFault.{FileReadFault}}
use Rattle.command_facts.{specs.declared.reading.FileReadFault.TheVariants.{Form, Memory}, proofs.PerformLemmas.{PerformsBetween-answer}}
use Rattle.broker_tables.specs.Failures.{FailsFromBetween}
use Rattle.contract_commands.specs.Pacts.{answer_to}
use Rattle.table_access.specs.declared.StoreFault.TheVariants as store

pub PerformsBetween-unread : (c : State) (e : FileReadFault) (r : Result Answer StoreFault) (Q : Broker → Transition → Type 0) → r ≡ answer_to e → ((found : FormFault) → e ≡ Form found → (s : Broker) → Q s (unchanged_with s (BadForm found))) → PerformsBetween c c Q r
PerformsBetween-unread c (Form found) r Q is f = subst (λ (a : Result Answer StoreFault). PerformsBetween c c Q a) (sym is) (PerformsBetween-answer c (BadForm found) Q (f found refl))
PerformsBetween-unread c Memory r Q is f = subst (λ (a : Result Answer StoreFault). PerformsBetween c c Q a) (sym is) (CallsBetween-then_stop {any = true} c c (tt {0}) store.Memory (λ _. ⊤) _ (CallsBetween-no_call c (tt {0}) (λ _. ⊤) tt))

-- a file is left PerformsBetween-unread only if it is at fault, or if memory runs out
pub FailsFromBetween-unread : (TooBig : Type 0) (c : State) (e : FileReadFault) (r : Result Answer StoreFault) (First Changes : Broker → Type 0) → r ≡ answer_to e → FailsFromBetween c c r TooBig First Changes
FailsFromBetween-unread TooBig c (Form found) r First Changes is = subst (λ (a : Result Answer StoreFault). FailsFromBetween c c a TooBig First Changes) (sym is) (λ clean s here may. tt)
FailsFromBetween-unread TooBig c Memory r First Changes is = subst (λ (a : Result Answer StoreFault). FailsFromBetween c c a TooBig First Changes) (sym is) (λ clean s here may. inl (inr refl))
