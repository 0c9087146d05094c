-- What a list has in it.
use Rattle.std.specs.Prelude.{◌≡◌, ◌⊎◌, List, [], ◌∷◌}

-- P holds of one of them
abbrev pub OneOf : {A : Type 0} → (A → Type 0) → List A → Type 0
OneOf P [] = ⊥
OneOf P (x ∷ xs) = P x ⊎ OneOf P xs

-- it is one of them
abbrev pub IsIn : {A : Type 0} → A → List A → Type 0
IsIn x xs = OneOf (λ y. x ≡ y) xs
