-- The text of a verdict, by whether no interaction fails.
use Rattle.std.{specs.List.{flat_map}, proofs.Common.{◌≡◌, ◌↔◌, ◌++◌, ℕ, List, [], ◌∷◌, Bool, true, false, IsTrue, codes, refl}}
use Rattle.program_io.specs.Written.{is_pass, place_text, verdict_text}

pub pass_text : (places : List ℕ) (text : List ℕ) → places ≡ [] → text ≡ codes "pass" → text ≡ verdict_text places
pass_text places text none is = rw none is

pub fail_text : (places : List ℕ) (text : List ℕ) → ¬ (places ≡ []) → text ≡ codes "fail" ++ flat_map place_text places → text ≡ verdict_text places
fail_text [] text some is = absurd (some refl)
fail_text (place ∷ places) text some is = is

pub passes_is : (places : List ℕ) (passes : Bool) → (IsTrue passes ↔ (places ≡ [])) → passes ≡ is_pass places
passes_is [] passes h = h.1 refl
passes_is (place ∷ places) true h = let bad : place ∷ places ≡ [] = h.0 refl in cc
passes_is (place ∷ places) false h = refl
