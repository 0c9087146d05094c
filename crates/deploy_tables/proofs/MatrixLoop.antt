-- Lists that are put together, what is found of each member of a list, and one reading after another.
use Rattle.std.{specs.Prelude.{Contains, ◌↔◌}, proofs.Common.{◌≡◌, ◌<◌, ◌+◌, ◌⊎◌, inl, inr, ℕ, List, [], ◌∷◌, ◌++◌, length, take, get_or, sym, subst, ◌∙◌}}
use Rattle.std.proofs.{lemmas.List.{get_or_default, take_more}, lemmas.List.Elements.{Contains-append_cases, Contains-append_left, Contains-append_right}}
use Rattle.broker_core.proofs.Lists.{Contains-empty, Contains-cons_cases, Contains-here}
use Rattle.deploy_tables.specs.Matrix.{IsOfSome}
pub use Rattle.broker_tables.proofs.QueryLemmas.{LooksUpBetween-then_failed, LooksUpBetween-then, LooksUpBetween-both, LooksUpBetween-other_answer, LooksUpBetween-from_both}

-- ---- lists that are put together

pub iff-trans : {A B C : Type 0} → A ↔ B → B ↔ C → A ↔ C
iff-trans one two = (λ a. two.0 (one.0 a), λ c. one.1 (two.1 c))

pub Contains-one : {A : Type 0} (x y : A) → Contains (x ∷ []) y ↔ (y ≡ x)
Contains-one x y = (λ c. elim (Contains-cons_cases x [] y c) [ inl same ↦ sym same | inr none ↦ absurd (Contains-empty y none) ], λ same. subst (Contains (x ∷ [])) (sym same) (Contains-here x []))

-- the members of two lists
pub Contains-append : {X A B : Type 0} (a b all : List X) → all ≡ a ++ b → (x : X) → Contains a x ↔ A → Contains b x ↔ B → Contains all x ↔ (A ⊎ B)
Contains-append a b all is x one two = (
  λ c. elim (Contains-append_cases a b x (subst (λ xs. Contains xs x) is c)) [ inl first ↦ inl (one.0 first) | inr second ↦ inr (two.0 second) ],
  λ h. subst (λ xs. Contains xs x) (sym is) (elim h [ inl c ↦ Contains-append_left a b x (one.1 c) | inr c ↦ Contains-append_right a b x (two.1 c) ]),
)

-- one member more
pub Contains-take_next : {C : Type 0} (cs : List C) (at : ℕ) (c d : C) → at < length cs → Contains (take (at + 1) cs) d ↔ (Contains (take at cs) d ⊎ (d ≡ get_or cs at c))
Contains-take_next cs at c d low = Contains-append (take at cs) (get_or cs at c ∷ []) (take (at + 1) cs) (take_more cs at c low) d (λ h. h, λ h. h) (Contains-one (get_or cs at c) d)

-- what is found of each member so far
module _ {C Y : Type 0} (Is : C → Y → Type 0) (cs : List C) where
  pub IsOfSome-take_more : (at : ℕ) (c : C) → at < length cs → c ≡ get_or cs at c → (x : Y) → (IsOfSome (λ c. Is c x) (take at cs) ⊎ Is c x) ↔ IsOfSome (λ c. Is c x) (take (at + 1) cs)
  IsOfSome-take_more at c low is x = (
    λ found. elim found [ inl old ↦ (old.0, (Contains-take_next cs at c old.0 low).1 (inl old.1), old.2) | inr new ↦ (c, (Contains-take_next cs at c c low).1 (inr is), new) ],
    λ some. elim ((Contains-take_next cs at c some.0 low).0 some.1) [ inl old ↦ inl (some.0, old, some.2) | inr new ↦ inr (subst (λ d. Is d x) (new ∙ sym is) some.2) ],
  )

  pub IsOfSome-take_next : (at : ℕ) (c : C) (a more b : List Y) → at < length cs → c ≡ get_or cs at c → b ≡ a ++ more → ((x : Y) → Contains a x ↔ IsOfSome (λ c. Is c x) (take at cs)) → ((x : Y) → Contains more x ↔ Is c x)
      → (x : Y) → Contains b x ↔ IsOfSome (λ c. Is c x) (take (at + 1) cs)
  IsOfSome-take_next at c a more b low is grown was here x = iff-trans (Contains-append a more b grown x (was x) (here x)) (IsOfSome-take_more at c low is x)

  -- the same, with the member given by its place
  pub IsOfSome-take_next_at : (at : ℕ) (d : C) (a more b : List Y) → at < length cs → b ≡ a ++ more → ((x : Y) → Contains a x ↔ IsOfSome (λ c. Is c x) (take at cs)) → ((x : Y) → Contains more x ↔ Is (get_or cs at d) x)
      → (x : Y) → Contains b x ↔ IsOfSome (λ c. Is c x) (take (at + 1) cs)
  IsOfSome-take_next_at at d a more b low grown was here = IsOfSome-take_next at (get_or cs at d) a more b low (get_or_default cs at d (get_or cs at d) low) grown was here
