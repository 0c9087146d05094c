-- the answer of a step is one of the machine's own: none says that a pattern was too costly, that memory or the store failed, or that a broker is stopped
use Rattle.std.proofs.Common.{◌≡◌, refl, true, Option}
use Rattle.broker_core.specs.{declared.command.Command.{Command}, Text.{Text}, State.{State}, Change.{Transition}, Machine.{Primitives, Step, is_step}}
use Rattle.broker_core.proofs.{Effects.{Effect-of_Step}, Effects.Effect.{returned, changed}}

-- what a step answers is never the store, the memory, a pattern or that the broker is stopped
pub Step-is_step : (parts : Primitives) (s : State) (token : Option Text) (c : Command) (out : Transition) → Step parts s token c out → is_step out.answer ≡ true
Step-is_step parts s token c out step =
    elim (Effect-of_Step parts s token c out step) as (λ o _. is_step o.answer ≡ true) [ returned answer is ↦ is | changed t detail change ↦ refl ]
