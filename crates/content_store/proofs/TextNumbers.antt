-- Texts and their numbers.
use Rattle.std.specs.List.{position_or_len}
use Rattle.std.proofs.Common.{◌≡◌, ◌<◌, ◌↔◌, ℕ, List, [], ◌∷◌, length, true, false, true≢false, Bool, IsTrue, ◌||◌, refl, sym, subst, arith}
use Rattle.std.proofs.lemmas.Bool.{lt-ltb, le-ltb}
use Rattle.broker_core.specs.{Text.{Text, same_text}, Limit.{limit, HasRoom, has_room}}
use Rattle.content_store.specs.Contents.{is_among}
-- texts that are the same by their bytes are equal, and a text is the same as itself
pub use Rattle.broker_core.proofs.Judgement.{same_text-equal as same_is, same_text-refl as same_itself}

-- a text that isn't there gets the next number
pub position_or_len-absent : (texts : List Text) (body : Text) → is_among texts body ≡ false → position_or_len (same_text body) texts ≡ length texts
position_or_len-absent [] body free = refl
position_or_len-absent (t ∷ texts) body free = go (same_text body t) refl free (position_or_len-absent texts body)
  where
    go : (b : Bool) → same_text body t ≡ b → (b || is_among texts body) ≡ false → (is_among texts body ≡ false → position_or_len (same_text body) texts ≡ length texts) → position_or_len (same_text body) (t ∷ texts) ≡ length (t ∷ texts)
    go true e h more = absurd cc
    go false e h more = rw e (omega (arith, more h))

-- ---- the limit

-- whether there is room for one more, by their count
pub has_room-of_count : {X : Type 0} (xs : List X) (count : ℕ) (b : Bool) → IsTrue b ↔ HasRoom count → count ≡ length xs → has_room xs ≡ b
has_room-of_count xs count true h is = lt-ltb (length xs) limit (subst (λ n. n < limit) is (h.0 refl))
has_room-of_count xs count false h is = le-ltb (length xs) limit (let high : ¬ (count < limit) = (λ low. true≢false (sym (h.1 low))) in omega (arith, high, is))
