-- The answers that are no step.
use Rattle.std.proofs.Common.{◌≡◌, false, refl}
use Rattle.broker_core.specs.{declared.answer.Answer.{Answer}, declared.answer.Answer.TheVariants.{Pattern, Memory, Store, Stopped}, Machine.{is_step}}

pub is_step-only_stopped : (answer : Answer) → is_step answer ≡ false → ¬ (answer ≡ Pattern) → ¬ (answer ≡ Memory) → ¬ (answer ≡ Store) → answer ≡ Stopped
is_step-only_stopped Pattern fails p m s = absurd (p refl)
is_step-only_stopped Memory fails p m s = absurd (m refl)
is_step-only_stopped Store fails p m s = absurd (s refl)
is_step-only_stopped Stopped fails p m s = refl
is_step-only_stopped _ fails p m s = absurd (cc)
