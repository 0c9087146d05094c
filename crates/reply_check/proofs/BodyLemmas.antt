-- Bodies that meet the expected one.
use Rattle.std.proofs.Common.{◌≡◌, ◌↔◌, ℕ, Bool, true, false, List, [], Option, Some, None, IsTrue, refl, sym, ap, ◌∙◌, true≢false}
use Rattle.std.proofs.lemmas.Slice.Eq.{bytes_eq-Decides}
use Rattle.pact_rules.specs.{Rules.{Rules}, Matching.{are_alike}}
use Rattle.serde_json.specs.Data.{Data, null, string}
use Rattle.reply_check.specs.{Fitting.{Fits}, Bodies.{is_empty, MeetsBody}}

false-not_true : {A : Type 0} → false ≡ true → A
false-not_true h = absurd (true≢false (sym h))

are_alike-null : (y : Data) → are_alike null y ≡ true → y ≡ null
are_alike-null null h = refl
are_alike-null y h = false-not_true h

are_alike-string : (s : List ℕ) (y : Data) → are_alike (string s) y ≡ true → y ≡ string s
are_alike-string s (string t) h = ap string (sym ((bytes_eq-Decides s t).0 h))
are_alike-string s y h = false-not_true h

are_alike-empty : (x y : Data) → is_empty x ≡ true → (are_alike x y ≡ true) ↔ (y ≡ x)
are_alike-empty null y e = (are_alike-null y, λ same. ap (are_alike null) same)
are_alike-empty (string s) y e = (are_alike-string s y, λ same. ap (are_alike (string s)) same ∙ (bytes_eq-Decides s s).1 refl)
are_alike-empty x y e = false-not_true e

-- nothing is expected
pub meets_any : (rules : Rules) (actual : Option Data) → IsTrue true ↔ MeetsBody rules None actual
meets_any rules actual = (λ h. tt, λ s. refl)

-- no body
pub meets_none : (b : Bool) (rules : Rules) (x : Data) → b ≡ is_empty x → IsTrue b ↔ MeetsBody rules (Some x) None
meets_none b rules x is = (λ h. sym is ∙ h, λ s. is ∙ s)

-- an empty one
pub meets_empty : (b e : Bool) (rules : Rules) (x y : Data) → e ≡ is_empty x → e ≡ true → b ≡ are_alike x y → IsTrue b ↔ MeetsBody rules (Some x) (Some y)
meets_empty b e rules x y is so same =
    let empty : is_empty x ≡ true = sym is ∙ so in (
      λ h. (λ _. (are_alike-empty x y empty).0 (sym same ∙ h), λ full. false-not_true (sym full ∙ empty)),
      λ s. same ∙ (are_alike-empty x y empty).1 (s.0 empty),
    )

-- any other
pub meets_full : (b e : Bool) (rules : Rules) (x y : Data) → e ≡ is_empty x → e ≡ false → IsTrue b ↔ Fits rules [] x y → IsTrue b ↔ MeetsBody rules (Some x) (Some y)
meets_full b e rules x y is so h =
    let full : is_empty x ≡ false = sym is ∙ so in
    (λ fits. (λ empty. false-not_true (sym full ∙ empty), λ _. h.0 fits), λ s. h.1 (s.1 full))
