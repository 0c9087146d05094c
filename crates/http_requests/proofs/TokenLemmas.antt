-- A text of which it isn't true that it is no token is one.
use Rattle.std.proofs.{Common.{◌≡◌, ◌≤◌, ◌<◌, ℕ, Bool, true, false, List, length, IsTrue, refl, arith}, lemmas.Bool.{ltb-true, ltb-false}, Math.Dec.{ltb}}
use Rattle.broker_names.specs.Name.{IsToken}

le-of_not_not : (m n : ℕ) → ¬ (¬ (m ≤ n)) → m ≤ n
le-of_not_not m n h = go (ltb n m) refl
  where
    go : (b : Bool) → ltb n m ≡ b → m ≤ n
    go true e = let above : n < m = ltb-true n m e in absurd (h (λ below. omega (arith, above, below)))
    go false e = ltb-false n m e

IsTrue-of_not_not : (b : Bool) → ¬ (¬ (IsTrue b)) → IsTrue b
IsTrue-of_not_not true h = refl
IsTrue-of_not_not false h = absurd (h (λ is. absurd cc))

pub IsToken-of_not_not : (text : List ℕ) → ¬ (¬ (IsToken text)) → IsToken text
IsToken-of_not_not text h = record {
  long = le-of_not_not 16 (length text) (λ no. h (λ token. no token.long));
  short = le-of_not_not (length text) 128 (λ no. h (λ token. no token.short));
  plain = λ k b at. IsTrue-of_not_not _ (λ no. h (λ token. no (token.plain k b at)));
}
