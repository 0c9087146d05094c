-- What was read of a file: the take-of_append of what it has, and all of it if it is a pact file.
use Rattle.std.{specs.{Io.KnownBytes.{IsAtEnd}, Prelude.{⊤}}, proofs.{Math.Seq.{take-append_seam}, lemmas.List.{take_all, append-nil}}}
use Rattle.std.proofs.Common.{◌≡◌, ◌⊎◌, ◌∙◌, ap, inl, inr, ◌+◌, ◌≤◌, ℕ, Bool, true, false, List, [], ◌++◌, Option, None, Some, length, take, nat_le, Result, Ok, Err, IfOk, OnErr, OnOk, ⊎_elim, leb-true, refl, sym, arith}
use Rattle.pact_rules.specs.Outcome.{◌>>=◌, guard}
use Rattle.pact_file.specs.{File.{file_of, most_bytes}, Normal.{Normal}, Pact.{Pact}, declared.fault.PactFault.TheVariants.{TooLong}}
use Rattle.program_io.specs.Written.{BeginsNormalText, IsFrontOf, IsReadUpTo, Normalises, NormalisesUntil, ReportsNormalText}

guard-ok : {A F : Type 0} (test : Bool) (fault : F) (next : ⊤ → Result A F) (a : A) → (guard test fault >>= next) ≡ Ok a → test ≡ true
guard-ok true fault next a is = refl
guard-ok false fault next a is = absurd cc

Normal-short : (bytes : List ℕ) (pact : Pact) → Normal bytes (Ok pact) → length bytes ≤ most_bytes
unfolding Normal file_of
Normal-short bytes pact (Ok d, is, read) =
    leb-true (length bytes) most_bytes (guard-ok (nat_le (length bytes) most_bytes) TooLong _ d is)
Normal-short bytes pact (Err fault, is, read) = absurd cc

IsReadUpTo-whole : (before after : Option (List ℕ)) (bytes : List ℕ) (pact : Pact) → IsReadUpTo before after bytes → Normal bytes (Ok pact) → IsAtEnd after
IsReadUpTo-whole before after bytes pact read is =
    ⊎_elim (λ end. end) (λ long. absurd (omega (arith, long, Normal-short bytes pact is))) read.1

-- so the normal text that is written of what was read, or the beginning of it, is that of the whole
module _ (before after old new : Option (List ℕ)) (bytes : List ℕ) (read : IsReadUpTo before after bytes) where
  pub Normalises-of_read : {F : Type 0} (r : Result (Unit {0}) F) → OnOk r (ReportsNormalText bytes old new) → OnOk r (Normalises before after old new)
  Normalises-of_read (Ok u) (text, (pact, is, normal), out) =
      (bytes, read.0, IsReadUpTo-whole before after bytes pact read is, (text, (pact, is, normal), out))
  Normalises-of_read (Err fault) returned = tt

  NormalisesUntil-of_begun : BeginsNormalText bytes old new → NormalisesUntil before after old new
  NormalisesUntil-of_begun (text, (pact, is, normal), out) =
      (bytes, read.0, IsReadUpTo-whole before after bytes pact read is, (text, (pact, is, normal), out))

  pub NormalisesUntil-of_cut : {F : Type 0} (P : Type 0) (r : Result (Unit {0}) F) → OnErr r (P ⊎ BeginsNormalText bytes old new) → OnErr r (P ⊎ NormalisesUntil before after old new)
  NormalisesUntil-of_cut P (Ok u) returned = tt
  NormalisesUntil-of_cut P (Err fault) returned = ⊎_elim (λ none. inl none) (λ begun. inr (NormalisesUntil-of_begun begun)) returned

-- what was read is the take-of_append of what was there
take-of_append : (most : ℕ) (all rest bytes : List ℕ) → all ≡ bytes ++ rest → (rest ≡ []) ⊎ (length bytes ≡ most) → length bytes ≤ most → bytes ≡ take most all
take-of_append most all rest bytes split ends fits = ⊎_elim
    (λ end. sym (ap (take most) (split ∙ ap (λ r. bytes ++ r) end ∙ append-nil bytes) ∙ take_all most bytes fits))
    (λ long. sym (ap (take most) split ∙ ap (λ n. take n (bytes ++ rest)) (sym long) ∙ take-append_seam bytes rest))
    ends

IsFrontOf-of_read : (before after : Option (List ℕ)) (bytes : List ℕ) → IsReadUpTo before after bytes → length bytes ≤ most_bytes + 1 → IsFrontOf before bytes
IsFrontOf-of_read None after bytes read most = tt
IsFrontOf-of_read (Some xs) None bytes read most = absurd read.0
IsFrontOf-of_read (Some xs) (Some ys) bytes read most = take-of_append (most_bytes + 1) xs ys bytes read.0 read.1 most

pub IsFrontOf-of_result : {A F : Type 0} (items : A → List ℕ) (r : Result A F) (before after : Option (List ℕ))
    → IfOk r (λ bytes. IsReadUpTo before after (items bytes)) → IfOk r (λ bytes. length (items bytes) ≤ most_bytes + 1)
    → IfOk r (λ bytes. IsFrontOf before (items bytes))
IsFrontOf-of_result items (Ok bytes) before after read most = IsFrontOf-of_read before after (items bytes) read most
IsFrontOf-of_result items (Err fault) before after read most = tt
