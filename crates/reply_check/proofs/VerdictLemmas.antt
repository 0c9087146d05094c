-- The failing interactions so far.
use Rattle.std.specs.List.{AllByRecursion}
use Rattle.std.proofs.Common.{◌≡◌, ◌⊎◌, inl, inr, ◌↔◌, ℕ, zero, suc, ◌+◌, ◌<◌, List, [], ◌∷◌, ◌++◌, length, get_or, Some, slice_get, refl, sym, ap, ◌∙◌, subst, ⊎_elim, arith}
use Rattle.std.proofs.{lemmas.Option.{same_Some, slice_get_within, slice_get_read}, lemmas.Bool.{cases_lt}}
use Rattle.pact_file.{specs.Pact.{Interaction}, proofs.SetLemmas.{AllByRecursion-member}}
use Rattle.pact_rules.{specs.Lists.{OneOf, IsIn}, proofs.ChoiceLemmas.{AllByRecursion-slice_get}}
use Rattle.reply_check.specs.Verdicts.{BelongsTo, IsKnown, AreKnown, IsFirstUnknown, Passes, InteractionFails, IsAscending, AreFailing, UsesPattern}
use Rattle.reply_check.{specs.{Meeting.{HasPattern}, Recorded.{Reply}}, proofs.Deciding.{OneOf-in_middle, OneOf-push, OneOf-push_cases, AllByRecursion-push}}

-- ---- indices

AllByRecursion-below_more : (n : ℕ) (is : List ℕ) → AllByRecursion (λ i. i < n) is → AllByRecursion (λ i. i < n + 1) is
AllByRecursion-below_more n [] h = tt
AllByRecursion-below_more n (i ∷ is) h = let l : i < n = h.0 in (omega arith, AllByRecursion-below_more n is h.1)

IsAscending-push : (n : ℕ) (is : List ℕ) → AllByRecursion (λ i. i < n) is → IsAscending is → IsAscending (is ++ n ∷ [])
IsAscending-push n [] h a = (tt, tt)
IsAscending-push n (i ∷ is) h a = (AllByRecursion-push (λ j. i < j) is n a.0 h.0, IsAscending-push n is h.1 a.1)

lt-suc_cases : (n i : ℕ) → i < n + 1 → (i < n) ⊎ (i ≡ n)
lt-suc_cases n i l = ⊎_elim inl (λ le. inr (omega (arith, l, le))) (cases_lt i n)

-- ---- so far

module _ (interactions : List Interaction) (replies : List Reply) where
  pub record IsSoFar (n : ℕ) (indices : List ℕ) : Type 0 where
    pub ascending : IsAscending indices
    pub below_all : AllByRecursion (λ i. i < n) indices
    pub failing : (i : ℕ) → i < n → IsIn i indices ↔ InteractionFails interactions replies i

  module _ (n : ℕ) (x : Interaction) (indices : List ℕ) (is_present : slice_get interactions n ≡ Some x) (h : IsSoFar n indices) where
    passing : (i : ℕ) → Passes replies x → (i < n) ⊎ (i ≡ n) → IsIn i indices ↔ InteractionFails interactions replies i
    passing i p (inl l) = h.failing i l
    passing i p (inr same) = (
      λ m. let l : i < n = AllByRecursion-member (λ j. j < n) indices i h.below_all m in absurd (omega arith),
      λ (y, is, fails). absurd (fails (subst (Passes replies) (same_Some x y (sym is_present ∙ ap (slice_get interactions) (sym same) ∙ is)) p)),
    )

    pub one_passes : Passes replies x → IsSoFar (n + 1) indices
    one_passes p = record { ascending = h.ascending; below_all = AllByRecursion-below_more n indices h.below_all; failing = λ i l. passing i p (lt-suc_cases n i l) }

    failing_one : (i : ℕ) → ¬ Passes replies x → (i < n) ⊎ (i ≡ n) → IsIn i (indices ++ n ∷ []) ↔ InteractionFails interactions replies i
    failing_one i f (inl l) =
        (λ m. (h.failing i l).0 (⊎_elim (λ k. k) (λ same. absurd (omega (arith, l, same))) (OneOf-push_cases (λ j. i ≡ j) indices n m)), λ k. OneOf-push (λ j. i ≡ j) indices n ((h.failing i l).1 k))
    failing_one i f (inr same) = (λ m. (x, ap (slice_get interactions) same ∙ is_present, f), λ k. subst (λ j. IsIn j (indices ++ n ∷ [])) (sym same) (OneOf-in_middle (λ j. n ≡ j) indices [] n refl))

    pub one_fails : ¬ Passes replies x → IsSoFar (n + 1) (indices ++ n ∷ [])
    one_fails f = record { ascending = IsAscending-push n indices h.below_all h.ascending; below_all = AllByRecursion-push (λ i. i < n + 1) indices n (AllByRecursion-below_more n indices h.below_all) (omega arith); failing = λ i l. failing_one i f (lt-suc_cases n i l) }

  pub IsSoFar-whole : (n : ℕ) (indices : List ℕ) → n ≡ length interactions → IsSoFar n indices → AreFailing interactions replies indices
  IsSoFar-whole n indices all h = record {
    ascending = h.ascending;
    failing = λ i. (
      λ m. (h.failing i (AllByRecursion-member (λ j. j < n) indices i h.below_all m)).0 m,
      λ f. let l : i < length interactions = slice_get_within interactions i f.0 f.1 in (h.failing i (omega arith)).1 f,
    );
  }

-- ---- the first that is unknown

module _ (interactions : List Interaction) (replies : List Reply) where
  -- there is one first
  pub only_first : (i j : ℕ) → IsFirstUnknown interactions replies i → IsFirstUnknown interactions replies j → i ≡ j
  only_first i j h k =
      ⊎_elim (λ l. absurd (h.unknown (k.first i h.reply l h.is_present)))
      (λ le. ⊎_elim (λ l. absurd (k.unknown (h.first j k.reply l k.is_present))) (λ ge. omega (arith, le, ge)) (cases_lt j i)) (cases_lt i j)

-- and none if each is known
pub none_first : (interactions : List Interaction) (replies : List Reply) (i : ℕ) → AreKnown interactions replies → ¬ IsFirstUnknown interactions replies i
none_first interactions replies i all first = first.unknown (AllByRecursion-slice_get (IsKnown interactions) replies i first.reply all first.is_present)

-- ---- the member at an index

pub slice_get-of_get_or : {A : Type 0} (xs : List A) (n : ℕ) (x : A) → n < length xs → x ≡ get_or xs n x → slice_get xs n ≡ Some x
slice_get-of_get_or xs n x l is = slice_get_read xs (length xs) n x refl l is

OneOf-of_slice_get : {A : Type 0} (P : A → Type 0) (xs : List A) (n : ℕ) (x : A) → slice_get xs n ≡ Some x → P x → OneOf P xs
OneOf-of_slice_get P [] n x is p = absurd cc
OneOf-of_slice_get P (y ∷ ys) zero x is p = inl (subst P (sym (same_Some y x is)) p)
OneOf-of_slice_get P (y ∷ ys) (suc n) x is p = inr (OneOf-of_slice_get P ys n x is p)

pub BelongsTo-of_get_or : (x : Interaction) (replies : List Reply) (n : ℕ) (r : Reply) → n < length replies → r ≡ get_or replies n r → BelongsTo x r → OneOf (λ s. BelongsTo x s) replies
BelongsTo-of_get_or x replies n r l is b = OneOf-of_slice_get (λ s. BelongsTo x s) replies n r (slice_get-of_get_or replies n r l is) b

pub UsesPattern-of_get_or : (interactions : List Interaction) (replies : List Reply) (n : ℕ) (x : Interaction) → n < length interactions → x ≡ get_or interactions n x → OneOf (λ r. BelongsTo x r) replies × HasPattern x → UsesPattern interactions replies
UsesPattern-of_get_or interactions replies n x l is h = OneOf-of_slice_get (λ y. OneOf (λ r. BelongsTo y r) replies × HasPattern y) interactions n x (slice_get-of_get_or interactions n x l is) h
