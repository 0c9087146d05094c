-- The judgement of an environment with these marks, from all faults of a version there.
use Rattle.std.specs.{Prelude.{Option, Some}, Option.{option_map_or}}
use Rattle.std.proofs.{Common.{◌≡◌, ◌==◌, ◌∷◌, [], List, Bool, true, false, ◌||◌, not, length, refl, subst, ap, arith}, lemmas.Bool.{eqb-true}}
use Rattle.broker_core.specs.{State.{State, is_gated, is_strict}, Text.{Text}, Gate.{Judges}, declared.command.Marks.{Marks}}
use Rattle.broker_core.{specs.{declared.command.Version.{Version}, declared.need.PairFault.{PairFault}}, proofs.GateLemmas.{Judges-of_faults}}
use Rattle.broker_core.proofs.Judgement.{is_none_left}
use Rattle.deploy_tables.specs.Needs.{AreFaults}

is_none_left-length_zero : (faults : List PairFault) → is_none_left faults ≡ (length faults == 0)
is_none_left-length_zero [] = refl
is_none_left-length_zero (f ∷ fs) = some_left (length (f ∷ fs) == 0) refl
  where
    some_left : (b : Bool) → (length (f ∷ fs) == 0) ≡ b → false ≡ b
    some_left false is = refl
    some_left true is = absurd (omega (arith, eqb-true (length (f ∷ fs)) 0 is))

pub Judges-by_fault_count : (s : State) (v : Version) (e : Text) (marks : Marks) (faults : List PairFault) → s.environments e ≡ Some marks → AreFaults s v e marks.strict faults → Judges s v e (not marks.gated || length faults == 0) faults
Judges-by_fault_count s v e marks faults marks_are listed =
    let strict : is_strict s e ≡ marks.strict = ap (λ (o : Option Marks). option_map_or (λ m. m.strict) o false) marks_are in
    let gated : is_gated s e ≡ marks.gated = ap (λ (o : Option Marks). option_map_or (λ m. m.gated) o true) marks_are in
    subst (λ (b : Bool). Judges s v e b faults) (λ i. not (gated i) || is_none_left-length_zero faults i) (Judges-of_faults s v e faults (listed strict))
