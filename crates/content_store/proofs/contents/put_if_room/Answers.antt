use Rattle.std.proofs.{Common.{◌≤◌, ◌^◌, length, arith}, lemmas.Result.{IfErr-weaker}}
use Rattle.table_access.proofs.CallLemmas.{EndsBy-weaken}
use Rattle.content_store.proofs.Held.{FailsByStoreUnlessBetween-then}
use Rattle.content_store.proofs.contents.put_if_room.Goals as goal

pub returns-in-None-clause-failure : goal.returns-in-None-clause-failure
returns-in-None-clause-failure g c clean s here allowed room =
    let digits : length c.digest_digits-digest.result ≤ 10 ^ 7 = omega (arith, c.digest_digits-digest.auto) in
    IfErr-weaker c.add_if_room.result _ _ (λ e ended. EndsBy-weaken _ _ e (λ long are. long (digits, are)) ended) (FailsByStoreUnlessBetween-then _ _ _ c.in-Ok.value c.add_if_room.result _ _ _ _ _ c.in-Ok.ensures.call c.add_if_room.ensures.call
    (λ read s held allowed. (allowed, read.0 held.broker)) c.add_if_room.ensures.failure clean s here allowed room)
