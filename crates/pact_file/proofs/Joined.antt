-- Joining texts, as a loop does.
use Rattle.std.proofs.Common.{◌≡◌, ℕ, zero, suc, ◌+◌, ◌<◌, List, [], ◌∷◌, ◌++◌, codes, Option, Some, None, option_map, refl, sym, ap, ◌∙◌, append_assoc, append-nil, add-one, arith}
use Rattle.pact_file.specs.Parts.{all_of, joined, following}

-- what the texts from the place on add
abbrev pub still : ℕ → List (List ℕ) → List ℕ
still zero ts = joined ts
still (suc i) ts = following ts

module _ {A : Type 0} (f : A → Option (List ℕ)) where
  still-step : (i : ℕ) (text new t : List ℕ) (o : Option (List (List ℕ))) → (i ≡ 0 → new ≡ text ++ t) → (0 < i → new ≡ text ++ (codes ", " ++ t))
      → option_map (λ ts. new ++ still (suc i) ts) o ≡ option_map (λ ts. text ++ still i ts) (option_map (λ ts. t ∷ ts) o)
  still-step i text new t None first later = refl
  still-step zero text new t (Some ts) first later = ap Some (ap (λ s. s ++ following ts) (first refl) ∙ append_assoc text t (following ts))
  still-step (suc i) text new t (Some ts) first later = ap Some (ap (λ s. s ++ following ts) (later (omega arith)) ∙ append_assoc text (codes ", " ++ t) (following ts))

  pub still-joins : (i : ℕ) (text new : List ℕ) (left : List A) (x : A) (more : List A) (t : List ℕ) (total : Option (List ℕ))
      → left ≡ x ∷ more → f x ≡ Some t → (i ≡ 0 → new ≡ text ++ t) → (0 < i → new ≡ text ++ (codes ", " ++ t))
      → option_map (λ ts. text ++ still i ts) (all_of f left) ≡ total → option_map (λ ts. new ++ still (i + 1) ts) (all_of f more) ≡ total
  unfolding all_of
  still-joins i text new left x more t total is h first later so_far =
      let one : option_map (λ ts. text ++ still i ts) (all_of f left) ≡ option_map (λ ts. text ++ still i ts) (option_map (λ ts. t ∷ ts) (all_of f more)) = rw (is, h) refl in
      rw add-one (still-step i text new t (all_of f more) first later) ∙ sym one ∙ so_far

  pub still-joins_none : (i : ℕ) (text : List ℕ) (left : List A) (x : A) (more : List A) (total : Option (List ℕ))
      → left ≡ x ∷ more → f x ≡ None → option_map (λ ts. text ++ still i ts) (all_of f left) ≡ total → None ≡ total
  unfolding all_of
  still-joins_none i text left x more total is h so_far =
      let one : option_map (λ ts. text ++ still i ts) (all_of f left) ≡ None = rw (is, h) refl in
      sym one ∙ so_far

  still-empty : (i : ℕ) → still i [] ≡ []
  still-empty zero = refl
  still-empty (suc i) = refl

  pub still-joins_end : (i : ℕ) (text : List ℕ) (left : List A) (total : Option (List ℕ)) → left ≡ []
      → option_map (λ ts. text ++ still i ts) (all_of f left) ≡ total → Some text ≡ total
  unfolding all_of
  still-joins_end i text left total is so_far =
      let one : option_map (λ ts. text ++ still i ts) (all_of f left) ≡ Some text = rw (is, still-empty i) (ap Some (append-nil text)) in
      sym one ∙ so_far
