-- Which of those that wait comes next, and who stays.
use Rattle.std.proofs.{Math.Seq.{split_at}, lemmas.List.Elements.{filter-append}, lemmas.List.Quantifiers.{position-Some}}
use Rattle.std.proofs.Common.{◌≡◌, ◌<◌, ◌∙◌, append-nil, ℕ, Bool, true, false, not, if◌then◌else◌, List, [], ◌∷◌, ◌++◌, length, filter, remove, position, Some, None, refl, sym, subst, arith}
use Rattle.http_messages.specs.Room.{KeepsReady, next_of}

not-true_is_false : (b : Bool) → not b ≡ true → b ≡ false
not-true_is_false true h = sym h
not-true_is_false false h = refl

module _ {A : Type 0} (is_ready : A → Bool) where
  -- the first that is ready
  pub next_of-ready : (waiting : List A) (place : ℕ) → position is_ready waiting ≡ Some place → Some place ≡ next_of is_ready waiting
  next_of-ready [] place found = cc
  next_of-ready (first ∷ others) place found = rw found refl

  -- or the first of all
  pub next_of-none_ready : (waiting : List A) → 0 < length waiting → position is_ready waiting ≡ None → Some 0 ≡ next_of is_ready waiting
  next_of-none_ready [] some none = absurd (omega (arith, some))
  next_of-none_ready (first ∷ others) some none = rw none refl

  -- who is ready stays if one goes that isn't
  filter-remove_unready : (it : A) (front back : List A) → is_ready it ≡ false → filter is_ready (front ++ back) ≡ filter is_ready (front ++ it ∷ back)
  filter-remove_unready it front back un =
      filter-append is_ready front back ∙ rw un refl ∙ sym (filter-append is_ready front (it ∷ back))

  pub remove-keeps_ready : (waiting : List A) (place : ℕ) → position (λ it. not (is_ready it)) waiting ≡ Some place
      → filter is_ready (remove waiting place) ≡ filter is_ready waiting
  remove-keeps_ready [] place found = cc
  remove-keeps_ready (first ∷ others) place found =
      let is = position-Some (λ it. not (is_ready it)) (first ∷ others) place first found in
      subst (λ all. filter is_ready (remove (first ∷ others) place) ≡ filter is_ready all) (sym (split_at (first ∷ others) place first is.0))
      (filter-remove_unready _ _ _ (not-true_is_false _ is.1))

  -- and if one is added after them
  pub KeepsReady-push : (ok : Bool) (old mid new : List A) (it : A) → filter is_ready mid ≡ filter is_ready old
      → new ≡ (if ok then mid ++ it ∷ [] else mid) → KeepsReady is_ready old new
  KeepsReady-push true old mid new it same is = (filter is_ready (it ∷ []), rw (is, ← same) (filter-append is_ready mid (it ∷ [])))
  KeepsReady-push false old mid new it same is = ([], rw (is, same) (sym (append-nil _)))
