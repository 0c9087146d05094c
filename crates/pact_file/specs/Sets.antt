-- A set in the order of its keys.
use Rattle.std.specs.Prelude.{◌≡◌, ◌⊎◌, List, [], ◌∷◌, ⊤}
use Rattle.std.specs.declared.cmp.Ordering.{Ordering}
use Rattle.std.specs.declared.cmp.Ordering.TheVariants.{Less, Equal}
use Rattle.std.specs.List.{AllByRecursion}
use Rattle.pact_rules.specs.Lists.{OneOf, IsIn}

-- each is below all those after it
abbrev pub IsRising : {A : Type 0} → (A → A → Ordering) → List A → Type 0
IsRising cmp [] = ⊤
IsRising cmp (x ∷ xs) = AllByRecursion (λ y. cmp x y ≡ Less) xs × IsRising cmp xs

-- the members of the list are exactly those found, and their keys rise
pub record IsSetInOrder {A : Type 0} (cmp : A → A → Ordering) (found list : List A) : Type 0 where
  pub rising : IsRising cmp list
  pub kept : (x : A) → IsIn x found → IsIn x list
  pub known : (x : A) → IsIn x list → IsIn x found

-- two of those found have one key and differ
abbrev pub HasClash : {A : Type 0} → (A → A → Ordering) → (A → A → Type 0) → List A → Type 0
HasClash cmp Differ [] = ⊥
HasClash cmp Differ (x ∷ xs) = OneOf (λ y. (cmp x y ≡ Equal) × Differ x y) xs ⊎ HasClash cmp Differ xs
