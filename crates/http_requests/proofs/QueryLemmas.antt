-- One more pair of a query.
use Rattle.std.proofs.Common.{◌≡◌, ◌≢◌, ℕ, ◌≤◌, Bool, true, false, cond, List, [], ◌∷◌, ◌++◌, length, map, filter, bytes_eq, length-append, refl, ap, ◌∙◌, arith}
use Rattle.http_requests.specs.{Queries.{decoded_text, values_at, AreValues}, declared.queries.Values.{Values}}
use Rattle.http_requests.specs.declared.queries.Values.TheVariants.{Absent, Once, Repeated}

values-split : (key : List ℕ) (pair : List ℕ × List ℕ) (done : List (List ℕ × List ℕ))
    → values_at key (done ++ pair ∷ []) ≡ values_at key done ++ values_at key (pair ∷ [])
values-split key pair [] = refl
values-split key pair (first ∷ done) = by_test (bytes_eq (decoded_text first.0) key)
    (filter (λ p. bytes_eq (decoded_text p.0) key) (done ++ pair ∷ [])) (filter (λ p. bytes_eq (decoded_text p.0) key) done) (values_at key (pair ∷ [])) (values-split key pair done)
  where
    by_test : (test : Bool) (new old : List (List ℕ × List ℕ)) (last : List (List ℕ)) → map (λ p. decoded_text p.1) new ≡ map (λ p. decoded_text p.1) old ++ last
        → map (λ p. decoded_text p.1) (cond test (first ∷ new) new) ≡ map (λ p. decoded_text p.1) (cond test (first ∷ old) old) ++ last
    by_test true new old last e = ap (λ l. decoded_text first.1 ∷ l) e
    by_test false new old last e = e

-- a pair under the key
pub values-with : (key : List ℕ) (pair : List ℕ × List ℕ) (done : List (List ℕ × List ℕ)) → bytes_eq (decoded_text pair.0) key ≡ true
    → values_at key (done ++ pair ∷ []) ≡ values_at key done ++ decoded_text pair.1 ∷ []
values-with key pair done e = values-split key pair done ∙ ap (λ l. values_at key done ++ l) (rw e refl)

-- a pair under another key
pub values-without : (key : List ℕ) (pair : List ℕ × List ℕ) (done : List (List ℕ × List ℕ)) → bytes_eq (decoded_text pair.0) key ≡ false
    → values_at key (done ++ pair ∷ []) ≡ values_at key done ++ []
values-without key pair done e = values-split key pair done ∙ ap (λ l. values_at key done ++ l) (rw e refl)

-- a second value
pub AreValues-second_value : (values : List (List ℕ)) (value : List ℕ) (found : Values) → found ≢ Absent → AreValues values found → 2 ≤ length (values ++ value ∷ [])
AreValues-second_value values value Absent not p = absurd (not refl)
AreValues-second_value values value (Once text) not p = rw p (omega arith)
AreValues-second_value values value Repeated not p = omega (arith, p, length-append values (value ∷ []))
