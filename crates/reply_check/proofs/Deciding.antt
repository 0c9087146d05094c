-- Deciding by going through a list.
use Rattle.std.specs.List.{AllByRecursion}
use Rattle.std.proofs.Common.{◌≡◌, ◌⊎◌, inl, inr, ◌↔◌, Bool, true, false, List, [], ◌∷◌, ◌++◌, IsTrue, refl, sym, ◌∙◌, subst, ⊎_elim, true≢false}
use Rattle.pact_rules.specs.Lists.{OneOf, IsIn}

pub Bool-by_test : {B : Type 0} (b : Bool) → (b ≡ true → B) → (b ≡ false → B) → B
Bool-by_test true is isnt = is refl
Bool-by_test false is isnt = isnt refl

pub IsTrue-true_iff : {P : Type 0} → P → IsTrue true ↔ P
IsTrue-true_iff p = (λ h. p, λ q. refl)

pub IsTrue-false_iff : {P : Type 0} → ¬ P → IsTrue false ↔ P
IsTrue-false_iff n = (λ h. absurd (true≢false (sym h)), λ p. absurd (n p))

pub IsTrue-false_refutes : {P : Type 0} (b : Bool) → b ≡ false → IsTrue b ↔ P → ¬ P
IsTrue-false_refutes b isnt h p = true≢false (sym (h.1 p) ∙ isnt)

module _ {A : Type 0} (P : A → Type 0) where
  -- ---- one of them

  pub OneOf-of_IsIn : (xs : List A) (x : A) → IsIn x xs → P x → OneOf P xs
  OneOf-of_IsIn [] x i p = absurd i
  OneOf-of_IsIn (y ∷ ys) x (inl same) p = inl (subst P same p)
  OneOf-of_IsIn (y ∷ ys) x (inr i) p = inr (OneOf-of_IsIn ys x i p)

  pub OneOf-in_middle : (front more : List A) (x : A) → P x → OneOf P (front ++ x ∷ more)
  OneOf-in_middle [] more x p = inl p
  OneOf-in_middle (y ∷ ys) more x p = inr (OneOf-in_middle ys more x p)

  pub OneOf-push : (front : List A) (x : A) → OneOf P front → OneOf P (front ++ x ∷ [])
  OneOf-push [] x o = absurd o
  OneOf-push (y ∷ ys) x o = ⊎_elim inl (λ later. inr (OneOf-push ys x later)) o

  pub OneOf-push_cases : (front : List A) (x : A) → OneOf P (front ++ x ∷ []) → OneOf P front ⊎ P x
  OneOf-push_cases [] x (inl p) = inr p
  OneOf-push_cases [] x (inr o) = absurd o
  OneOf-push_cases (y ∷ ys) x (inl p) = inl (inl p)
  OneOf-push_cases (y ∷ ys) x (inr o) = ⊎_elim (λ p. inl (inr p)) inr (OneOf-push_cases ys x o)

  -- ---- each of them

  pub AllByRecursion-push : (front : List A) (x : A) → AllByRecursion P front → P x → AllByRecursion P (front ++ x ∷ [])
  AllByRecursion-push [] x a p = (p, tt)
  AllByRecursion-push (y ∷ ys) x a p = (a.0, AllByRecursion-push ys x a.1 p)

  pub AllByRecursion-of_IsIn : (xs : List A) → ((x : A) → IsIn x xs → P x) → AllByRecursion P xs
  AllByRecursion-of_IsIn [] h = tt
  AllByRecursion-of_IsIn (x ∷ xs) h = (h x (inl refl), AllByRecursion-of_IsIn xs (λ y i. h y (inr i)))
