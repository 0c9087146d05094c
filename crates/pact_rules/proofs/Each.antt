-- Reading one after the other, as a loop does.
use Rattle.std.proofs.Common.{◌≡◌, ℕ, ◌+◌, List, [], ◌∷◌, ◌++◌, map, length, Result, Ok, Err, refl, sym, ap, subst, append_assoc, append-nil}
use Rattle.std.proofs.lemmas.List.{length_push}
use Rattle.pact_rules.specs.Reading.{EachRead}

abbrev pub with_front : {B F : Type 0} → List B → Result (List B) F → Result (List B) F
with_front front (Ok bs) = Ok (front ++ bs)
with_front front (Err e) = Err e

module _ {V A B F : Type 0} (read : ℕ → A → Result B F → Type 0) (view : V → A) (xs : List V) where
  -- each possible reading of the elements that are left, put after the ones read so far, is a reading of the whole list
  abbrev pub Completes : List B → List V → Type 0
  Completes front left = (rest : Result (List B) F) → EachRead read (length front) (map view left) rest → EachRead read 0 (map view xs) (with_front front rest)

  -- an element that is read joins the ones read so far, and the elements after it are left
  pub Completes-push : (front new : List B) (x : V) (left : List V) (b : B) → read (length front) (view x) (Ok b) → new ≡ front ++ b ∷ [] → Completes front (x ∷ left) → Completes new left
  unfolding EachRead
  Completes-push front new x left b h pushed k = subst (λ bs. Completes bs left) (sym pushed) more where
    following : (rest : Result (List B) F) → EachRead read (length (front ++ b ∷ [])) (map view left) rest → EachRead read (length front + 1) (map view left) rest
    following rest r = subst (λ i. EachRead read i (map view left) rest) (length_push front b) r

    more : Completes (front ++ b ∷ []) left
    more (Ok bs) r = subst (EachRead read 0 (map view xs)) (ap Ok (sym (append_assoc front (b ∷ []) bs))) (k (Ok (b ∷ bs)) (Ok b, h, (Ok bs, following (Ok bs) r, refl)))
    more (Err e) r = k (Err e) (Ok b, h, (Err e, following (Err e) r, refl))

  -- a fault at the next element is the answer of the whole reading
  pub EachRead-first_fault : (front : List B) (x : V) (left : List V) (e : F) → read (length front) (view x) (Err e) → Completes front (x ∷ left) → EachRead read 0 (map view xs) (Err e)
  unfolding EachRead
  EachRead-first_fault front x left e h k = k (Err e) (Err e, h, refl)

  -- if no element is left, what was read is the answer of the whole reading
  pub EachRead-of_Completes : (front : List B) → Completes front [] → EachRead read 0 (map view xs) (Ok front)
  unfolding EachRead
  EachRead-of_Completes front k = subst (EachRead read 0 (map view xs)) (ap Ok (append-nil front)) (k (Ok []) refl)
