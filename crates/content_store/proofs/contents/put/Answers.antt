use Rattle.std.proofs.Common.{◌≤◌, ◌^◌, ℕ, Err, length, arith}
use Rattle.table_access.proofs.CallLemmas.{EndsBy-weaken}
use Rattle.content_store.proofs.Held.{FailsByStoreUnlessBetween-then}
use Rattle.content_store.proofs.contents.put.Goals as goal

pub returns-in-Err-add-clause-failure : goal.returns-in-Err-add-clause-failure
returns-in-Err-add-clause-failure g c clean s here allowed room =
    let digits : length c.digest_digits-digest.result ≤ 10 ^ 7 = omega arith in
    EndsBy-weaken _ _ _ (λ long are. long (digits, are)) (FailsByStoreUnlessBetween-then {B = ℕ} _ _ _ c.in-Ok.value (Err c.in-Err-add.fault) _ _ _ _ _ c.in-Ok.ensures.call c.in-Err-add.ensures.call
    (λ read s held allowed. (allowed, read.0 held.broker)) c.in-Err-add.ensures.failure clean s here allowed room)
